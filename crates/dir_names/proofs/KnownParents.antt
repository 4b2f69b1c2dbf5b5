-- A name that is read below a parent that is known.
use Rattle.std.proofs.Common.{◌≡◌, ◌<◌, ℕ, Bool, true, false, cond, ◌&&◌, nat_le, nat_lt, List, [], ◌∷◌, ◌++◌, length, reverse, Option, Some, None, is_some, Ok, Err, refl, sym, ap, ◌∙◌, arith}
use Rattle.std.specs.List.{list_all}
use Rattle.std.specs.Prelude.{slice_get}
use Rattle.std.proofs.lemmas.List.{length-reverse, reverse-append}
use Rattle.dir_names.specs.declared.fault.NameFault.TheVariants.{NameLimit}
use Rattle.dir_names.specs.declared.schema.TypeRow.{TypeRow}
use Rattle.dir_names.specs.Inside.KnownKeys.{IsKeyAbove}
use Rattle.dir_names.specs.Keys.{DnKeys, RdnKeys}
use Rattle.dir_names.specs.NameKeys.{name_key, rdn_key}
use Rattle.dir_names.specs.Names.{SpelledName, SpelledRdn}
use Rattle.dir_names.specs.Names.Limits.{is_rdn_within_limit, is_within_limits, ok_if_within}
use Rattle.dir_names.specs.Names.Reading.{name_of, name_within_limits, pieces, rdn_of}
use Rattle.dir_names.specs.Outcome.{ok_or_bad_dn}
use Rattle.dir_names.specs.Results.{option_collect, option_cons}
use Rattle.dir_names.specs.Table.Builtin.{builtin_rows}
use Rattle.dir_names.specs.Types.Adding.{KeepsTypes}
use Rattle.dir_names.proofs.Both.{left}
use Rattle.dir_names.proofs.Collected.{collect_append, collect_length}
use Rattle.dir_names.proofs.HasKeys.{has_each}

-- what is within the limits was spelled
pub within_spelled : {A : Type 0} (p : A → Bool) (o : Option A) (x : A) → ok_if_within p o ≡ Ok x → o ≡ Some x
within_spelled p None x e = absurd (cc)
within_spelled p (Some y) x e = by (p y) e
  where
    by : (b : Bool) → cond b (Ok y) (Err NameLimit) ≡ Ok x → Some y ≡ Some x
    by true f = let same : y ≡ x = cc in ap Some same
    by false f = absurd (cc)

-- the RDNs of a text that is not empty
pub spelled_rdns : (text : List ℕ) (name : SpelledName) → 0 < length text → name_within_limits text ≡ Ok name → option_collect rdn_of (pieces 44 false text) ≡ Some name
spelled_rdns [] name some e = absurd (omega (arith, some))
spelled_rdns (b ∷ bs) name some e = within_spelled is_within_limits (name_of (b ∷ bs)) name e

module _ (rows : List TypeRow) where
  -- the key of a name with one RDN more
  pub child_key : (name : SpelledName) (key : DnKeys) (leaf : SpelledRdn) (part : RdnKeys) → name_key rows name ≡ Some key → rdn_key rows leaf ≡ Some part → name_key rows (leaf ∷ name) ≡ Some (key ++ part ∷ [])
  child_key name key leaf part e f =
      ap (option_collect (rdn_key rows)) (reverse-append (leaf ∷ []) name)
      ∙ collect_append (rdn_key rows) (reverse name) (leaf ∷ []) key (part ∷ []) e (ap (λ o. option_cons o (Some [])) f)

  pub key_length : (name : SpelledName) (key : DnKeys) → name_key rows name ≡ Some key → length name ≡ length key
  key_length name key e = sym (length-reverse name) ∙ collect_length (rdn_key rows) (reverse name) key e

  -- a name below one that has a key has one where its leaf has
  pub child_has_key : (leaf : SpelledRdn) (rest : SpelledName) (key : DnKeys) → name_key rows rest ≡ Some key → is_some (name_key rows (leaf ∷ rest)) ≡ is_some (rdn_key rows leaf)
  child_has_key leaf rest key e =
      has_each rows (leaf ∷ rest) ∙ ap (λ b. is_some (rdn_key rows leaf) && b) (sym (has_each rows rest) ∙ ap is_some e) ∙ by (is_some (rdn_key rows leaf))
    where
      by : (b : Bool) → (b && true) ≡ b
      by true = refl
      by false = refl

  pub keyless_leaf : (leaf : SpelledRdn) (rest : SpelledName) (key : DnKeys) → name_key rows rest ≡ Some key → rdn_key rows leaf ≡ None → name_key rows (leaf ∷ rest) ≡ None
  keyless_leaf leaf rest key e lacks = none (name_key rows (leaf ∷ rest)) (child_has_key leaf rest key e ∙ ap is_some lacks)
    where
      none : (o : Option DnKeys) → is_some o ≡ false → o ≡ None
      none None h = refl
      none (Some k) h = absurd (cc)

  -- the key of a child has room for one part more, since the name is within the limits
  pub child_key_of : (leaf : SpelledRdn) (rest : SpelledName) (key : DnKeys) (part : RdnKeys) → name_key rows rest ≡ Some key → rdn_key rows leaf ≡ Some part → is_within_limits (leaf ∷ rest) ≡ true
      → cond (nat_lt (length key) 64) (Ok (key ++ part ∷ [])) (Err NameLimit) ≡ ok_or_bad_dn (name_key rows (leaf ∷ rest))
  child_key_of leaf rest key part e f within =
      ap (λ n. cond (nat_lt n 64) (Ok (key ++ part ∷ [])) (Err NameLimit)) (sym (key_length rest key e))
      ∙ ap (λ b. cond b (Ok (key ++ part ∷ [])) (Err NameLimit)) (left (nat_le (length (leaf ∷ rest)) 64) (list_all is_rdn_within_limit (leaf ∷ rest)) within)
      ∙ ap ok_or_bad_dn (sym (child_key rest key leaf part e f))

  -- the same of a name by its first RDN
  pub has_key_by_leaf : (name : SpelledName) (leaf : SpelledRdn) (key : DnKeys) → KeepsTypes builtin_rows rows → slice_get name 0 ≡ Some leaf → IsKeyAbove name key → is_some (name_key rows name) ≡ is_some (rdn_key rows leaf)
  has_key_by_leaf [] leaf key keeps first above = absurd above
  has_key_by_leaf (x ∷ rest) leaf key keeps first above =
      let is : x ≡ leaf = cc in
      child_has_key x rest key (above rows keeps) ∙ ap (λ r. is_some (rdn_key rows r)) is

  pub keyless_by_leaf : (name : SpelledName) (leaf : SpelledRdn) (key : DnKeys) → KeepsTypes builtin_rows rows → slice_get name 0 ≡ Some leaf → IsKeyAbove name key → rdn_key rows leaf ≡ None → name_key rows name ≡ None
  keyless_by_leaf [] leaf key keeps first above lacks = absurd above
  keyless_by_leaf (x ∷ rest) leaf key keeps first above lacks =
      let is : x ≡ leaf = cc in
      keyless_leaf x rest key (above rows keeps) (ap (rdn_key rows) is ∙ lacks)

  pub key_by_leaf : (name : SpelledName) (leaf : SpelledRdn) (key : DnKeys) (part : RdnKeys) → KeepsTypes builtin_rows rows → slice_get name 0 ≡ Some leaf → IsKeyAbove name key → rdn_key rows leaf ≡ Some part → is_within_limits name ≡ true
      → cond (nat_lt (length key) 64) (Ok (key ++ part ∷ [])) (Err NameLimit) ≡ ok_or_bad_dn (name_key rows name)
  key_by_leaf [] leaf key part keeps first above e within = absurd above
  key_by_leaf (x ∷ rest) leaf key part keeps first above e within =
      let is : x ≡ leaf = cc in
      child_key_of x rest key part (above rows keeps) (ap (rdn_key rows) is ∙ e) within
