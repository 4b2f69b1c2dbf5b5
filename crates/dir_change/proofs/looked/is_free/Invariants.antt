use Rattle.std.proofs.Common.{◌≡◌, not, drop}
use Rattle.std.specs.List.{list_all}
use Rattle.dir_names.specs.Orders.{attr_eq}
use Rattle.dir_change.proofs.looked.is_free.Given as goal

abbrev pub invariant-loop-pair : goal.invariant-loop-pair
invariant-loop-pair l = list_all (λ p. not (attr_eq p.0 l.attr)) l.own ≡ list_all (λ p. not (attr_eq p.0 l.attr)) (drop l.pair-index l.pair-items)
