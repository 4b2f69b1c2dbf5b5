use Rattle.std.proofs.Common.{◌≡◌, ◌++◌, ◌+◌, ◌≤◌, length, true}
use Rattle.std.specs.List.{list_any}
use Rattle.std.specs.Str.{str_to_ascii_lowercase}
use Rattle.std.specs.Vec.{vec_capacity, vec_len}
use Rattle.dir_names.specs.Inside.TypeNames.{Gains, are_rising}
use Rattle.dir_names.specs.Orders.{bytes_eq}
use Rattle.dir_names.proofs.schema.types.insert_each.Given as goal

abbrev pub invariant-loop-name : goal.invariant-loop-name
invariant-loop-name l =
    (goal.iterator-loop-name).can_next l.name-iterator ×
    (goal.iterator-loop-name).is_finite l.name-iterator ×
    (l.fn.lowered.items ≡ l.yielded ++ l.name-iterator.rest.items) ×
    (are_rising l.names.items ≡ true) ×
    Gains (λ t. list_any (λ name. bytes_eq name (str_to_ascii_lowercase t)) l.yielded) l.row l.fn.names.items l.names.items ×
    (vec_len l.names + length l.name-iterator.rest.items ≤ vec_capacity l.names)
