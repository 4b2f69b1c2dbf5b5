use Rattle.std.proofs.Common.{◌≡◌}
use Rattle.std.specs.List.{list_any}
use Rattle.std.specs.FinMap as fin
use Rattle.dir_names.specs.Values.{text_of}
use Rattle.dir_acl.specs.Truth.{text_has}
use Rattle.dir_acl.proofs.filter.truth.has_matching_text.Given as goal

abbrev pub invariant-loop-key : goal.invariant-loop-key
invariant-loop-key l =
    list_any (λ v. text_has l.matching (text_of v.0)) (fin.entries l.attribute.stored.values)
    ≡ list_any (λ v. text_has l.matching (text_of v.0)) l.key-iterator
