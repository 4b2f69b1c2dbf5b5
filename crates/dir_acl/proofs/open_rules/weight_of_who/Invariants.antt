use Rattle.std.proofs.Common.{◌≡◌, drop}
use Rattle.std.specs.Prelude.{◌&&◌}
use Rattle.std.specs.List.{list_all}
use Rattle.dir_acl.specs.Bounds.{who_says}
use Rattle.dir_acl.specs.Inside.Bounding.{may_hold, must_hold}
use Rattle.dir_acl.specs.Inside.Requests.{question_of}
use Rattle.dir_acl.proofs.open_rules.weight_of_who.Given as goal

-- those so far may hold, and must or not
abbrev pub invariant-loop-part : goal.invariant-loop-part
invariant-loop-part g l = record {
  may :
      list_all (may_hold (who_says (g.D.Directory.state l.directory) (question_of l.request))) l.parts
      ≡ list_all (may_hold (who_says (g.D.Directory.state l.directory) (question_of l.request))) (drop l.part-index l.parts);
  must :
      list_all (must_hold (who_says (g.D.Directory.state l.directory) (question_of l.request))) l.parts
      ≡ (l.must && list_all (must_hold (who_says (g.D.Directory.state l.directory) (question_of l.request))) (drop l.part-index l.parts));
}
