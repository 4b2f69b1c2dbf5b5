use Rattle.std.proofs.Common.{◌≡◌, drop}
use Rattle.dir_names.specs.Results.{option_collect}
use Rattle.dir_names.specs.ValueKeys.Pieces.{piece_of}
use Rattle.dir_names.specs.declared.value.pieces.PiecePlace.TheVariants.{Middle}
use Rattle.dir_names.proofs.AllLemmas.{prefixed}
use Rattle.dir_acl.proofs.filter.assertion.middle_pieces.Given as goal

abbrev pub invariant-loop-part : goal.invariant-loop-part
invariant-loop-part l =
    option_collect (λ p. piece_of l.schema l.attr Middle p) l.parts
    ≡ prefixed l.pieces.items (option_collect (λ p. piece_of l.schema l.attr Middle p) (drop l.part-index l.parts))
