use Rattle.std.proofs.Common.{◌≡◌, ◌<◌, length}
use Rattle.std.specs.Option.{option_copied}
use Rattle.dir_acl.specs.Filters.Packed.{before_last, complete, last_tree, outer}
use Rattle.dir_acl.specs.Inside.Fakes.{attributes_of}
use Rattle.dir_acl.specs.Truth.{both, either, tree_truth}
use Rattle.dir_acl.proofs.Truths.{all_truth, any_truth}
use Rattle.dir_acl.proofs.filter.truth.+last_truth.Given as goal

abbrev pub invariant-all : goal.invariant-all
invariant-all l = record {
  truth : both (all_truth (attributes_of (option_copied l.entry)) (complete l.all.steps.now l.all.tests.now).trees) l.all.truth ≡ tree_truth (attributes_of (option_copied l.entry)) (last_tree (complete l.steps l.tests));
  before : outer (complete l.all.steps.now l.all.tests.now).around ≡ before_last (complete l.steps l.tests);
  shorter : length l.all.steps.now < length l.steps;
}

abbrev pub decreases-all : goal.decreases-all
decreases-all l = length l.all.steps.now

abbrev pub invariant-any : goal.invariant-any
invariant-any l = record {
  truth : either (any_truth (attributes_of (option_copied l.entry)) (complete l.any.steps.now l.any.tests.now).trees) l.any.truth ≡ tree_truth (attributes_of (option_copied l.entry)) (last_tree (complete l.steps l.tests));
  before : outer (complete l.any.steps.now l.any.tests.now).around ≡ before_last (complete l.steps l.tests);
  shorter : length l.any.steps.now < length l.steps;
}

abbrev pub decreases-any : goal.decreases-any
decreases-any l = length l.any.steps.now

abbrev pub decreases-last_truth : goal.decreases-last_truth
decreases-last_truth l = length l.steps.now
