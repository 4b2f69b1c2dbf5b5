-- The parent of a name, where its text is as its RDNs are printed.
use Rattle.std.specs.Prelude.{◌≡◌, ◌<◌, ℕ, true, List, [], ◌∷◌, Some, length}
use Rattle.std.specs.List.{list_all}
use Rattle.dir_names.specs.declared.schema.TypeRow.{TypeRow}
use Rattle.dir_names.specs.Ascii.{comma}
use Rattle.dir_names.specs.Inside.SortTexts.{name_sort}
use Rattle.dir_names.specs.Keys.{DnKeys}
use Rattle.dir_names.specs.NameKeys.{name_key}
use Rattle.dir_names.specs.Names.{SpelledName}
use Rattle.dir_names.specs.Names.Limits.{is_rdn_within_limit}
use Rattle.dir_names.specs.Names.Printing.{printed_name}
use Rattle.dir_names.specs.Names.Sound.{is_sound_name}
use Rattle.dir_names.specs.Table.Builtin.{builtin_rows}
use Rattle.dir_names.specs.Types.Adding.{KeepsTypes}

-- what follows the leaf of a name that has this parent
abbrev pub after_leaf : SpelledName → List ℕ
after_leaf [] = []
after_leaf (r ∷ rs) = comma ∷ printed_name (r ∷ rs)

-- the text follows the leaf of a name with a parent that has room for a leaf, and `sort` is the text of the parent's key
pub record IsPlainParent (rows : List TypeRow) (text sort : List ℕ) : Type 0 where
  pub parent : SpelledName
  pub keys : DnKeys
  pub spelled : text ≡ after_leaf parent
  pub room : length parent < 64
  pub sound : is_sound_name parent ≡ true
  pub within : list_all is_rdn_within_limit parent ≡ true
  pub keyed : name_key rows parent ≡ Some keys
  pub sorted : sort ≡ name_sort keys

-- under each table that keeps the built-in types
abbrev pub IsPlainParentEverywhere : List ℕ → List ℕ → Type 0
IsPlainParentEverywhere text sort = (rows : List TypeRow) → KeepsTypes builtin_rows rows → IsPlainParent rows text sort
