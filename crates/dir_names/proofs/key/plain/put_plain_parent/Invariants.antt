use Rattle.dir_names.specs.Inside.Scopes.{HoldsWithin}
use Rattle.dir_names.proofs.PlainNames.{IsReadFrom}
use Rattle.dir_names.proofs.key.plain.put_plain_parent.Given as goal

abbrev pub invariant-loop-room : goal.invariant-loop-room
invariant-loop-room l = HoldsWithin l.scope l.schema (λ rows. IsReadFrom rows l.value l.rest l.room l.out.items)

abbrev pub decreases-loop-room : goal.decreases-loop-room
decreases-loop-room l = l.room
