-- A form `group/CLASS/ATTR` has no further part.
use Rattle.std.proofs.Common.{◌≡◌, ℕ, List, ◌∷◌, None, Ok, ap}
use Rattle.dir_names.proofs.CutLemmas.{parts-cut}
use Rattle.dir_names.specs.Cut.{parts_at}
use Rattle.dir_names.specs.declared.schema.TypeRow.{TypeRow}
use Rattle.dir_acl.specs.Config.Whos.{group_with}

pub surplus_part : (rows : List TypeRow) (class member rest text : List ℕ) → group_with rows (class ∷ member ∷ parts_at 47 rest) text ≡ Ok None
surplus_part rows class member rest text = ap (λ parts. group_with rows (class ∷ member ∷ parts) text) (parts-cut 47 rest)
