use Rattle.std.proofs.Common.{◌≡◌, drop}
use Rattle.std.specs.List.{list_any}
use Rattle.dir_acl.specs.Decision.{is_asked}
use Rattle.dir_acl.proofs.access.target.is_any_asked.Given as goal

abbrev pub invariant-loop-item : goal.invariant-loop-item
invariant-loop-item l = list_any (λ item. is_asked item l.asked) l.items ≡ list_any (λ item. is_asked item l.asked) (drop l.item-index l.items)
