use Rattle.std.proofs.Common.{◌≡◌}
use Rattle.std.specs.Prelude.{◌&&◌}
use Rattle.std.specs.List.{list_any}
use Rattle.std.specs.FinMap as fin
use Rattle.dir_names.specs.Covers.{covers}
use Rattle.dir_names.specs.declared.value.ValueKey.TheVariants.{Name}
use Rattle.dir_acl.proofs.access.requester.has_name_in.Given as goal

abbrev pub invariant-loop-key : goal.invariant-loop-key
invariant-loop-key l =
    list_any (λ a. covers l.attr a.0 && fin.contains_key a.1.values (Name l.name)) (fin.entries l.entry.attributes)
    ≡ list_any (λ a. covers l.attr a.0 && fin.contains_key a.1.values (Name l.name)) l.key-iterator
