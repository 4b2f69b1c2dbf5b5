use Rattle.std.proofs.Common.{◌≡◌, ◌++◌, map}
use Rattle.dir_change.proofs.delete.push_values.Given as goal

abbrev pub invariant-loop-bytes : goal.invariant-loop-bytes
invariant-loop-bytes l =
    l.lines.items ++ map (λ v. (record { spelling = l.attribute.stored.spelling; key = l.attribute.key }, v.1)) l.bytes-iterator
    ≡ l.initial.lines.items ++ map (λ v. (record { spelling = l.attribute.stored.spelling; key = l.attribute.key }, v.1)) l.initial.bytes-iterator
