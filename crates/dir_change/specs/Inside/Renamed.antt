-- A rename, before it is done: where the entry is to be, and what the undo relies on.
use Rattle.std.specs.Prelude.{◌≡◌, ◌+◌, ◌≤◌, [], ◌∷◌, ◌++◌, List, length, Option, Some, ok_or, IsSome, Result}
use Rattle.dir_names.specs.declared.schema.TypeRow.{TypeRow}
use Rattle.dir_names.specs.Keys.{DnKeys, parent_of}
use Rattle.dir_names.specs.Names.{SpelledName, SpelledRdn}
use Rattle.dir_names.specs.NameKeys.{rdn_key}
use Rattle.dir_names.specs.Results.{and_then}
use Rattle.dir_tree.specs.Content.{Content}
use Rattle.dir_tree.specs.Dir.{Dir, entry_at}
use Rattle.dir_tree.specs.SpelledNames.{spelled_name}
use Rattle.dir_change.specs.Inside.Touched.{AreSameApartFrom}
use Rattle.dir_change.specs.Rename.{place_at, superior_at, superior_key}
use Rattle.dir_change.specs.declared.result_code.ResultCode.{ResultCode}
use Rattle.dir_change.specs.declared.result_code.ResultCode.TheVariants.{NoSuchObject}

-- the new key of an entry, if its superior and its RDN are accepted
abbrev pub new_place : List TypeRow → Dir → DnKeys → SpelledRdn → Option SpelledName → Result DnKeys ResultCode
new_place rows d k rdn superior =
    and_then (superior_at d k (superior_key rows k superior)) (λ p.
    and_then (ok_or (rdn_key rows rdn) NoSuchObject) (λ key.
    place_at d k (p ++ key ∷ [])))

-- what the undo of a rename relies on, for the renamed entry: the entry, its parent and its superior are there, its new name is not longer than its new key, and no other attributes than those of the two RDNs differ
pub record IsUndoable (d : Dir) (k superior place : DnKeys) (renamed e : Content) : Type 0 where
  pub there : IsSome (entry_at d k)
  pub above : IsSome (entry_at d superior)
  pub has_parent : IsSome (parent_of k)
  pub parent : (p : DnKeys) → parent_of k ≡ Some p → IsSome (entry_at d p)
  pub fits : length renamed.own + length (spelled_name d superior) ≤ length place
  pub same : AreSameApartFrom e.key renamed.key renamed.attributes e.attributes
