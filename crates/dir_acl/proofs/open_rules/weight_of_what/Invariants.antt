use Rattle.std.proofs.Common.{◌≡◌, drop, map}
use Rattle.std.specs.Prelude.{◌&&◌}
use Rattle.std.specs.List.{list_all}
use Rattle.dir_acl.specs.Bounds.{what_says}
use Rattle.dir_acl.specs.Inside.Bounding.{may_hold, must_hold}
use Rattle.dir_acl.specs.Inside.Requests.{question_of}
use Rattle.dir_acl.specs.Rules.{restriction_of}
use Rattle.dir_acl.proofs.open_rules.weight_of_what.Given as goal

-- those so far may hold, and must or not
abbrev pub invariant-loop-part : goal.invariant-loop-part
invariant-loop-part l = record {
  may :
      list_all (may_hold (what_says (question_of l.request))) (map restriction_of l.parts) ≡ list_all (may_hold (what_says (question_of l.request))) (map restriction_of (drop l.part-index l.parts));
  must :
      list_all (must_hold (what_says (question_of l.request))) (map restriction_of l.parts)
      ≡ (l.must && list_all (must_hold (what_says (question_of l.request))) (map restriction_of (drop l.part-index l.parts)));
}
