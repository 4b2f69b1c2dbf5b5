-- Keys that are made of built-in types are the same under each table that keeps these.
use Rattle.std.proofs.Common.{◌≡◌, ℕ, Bool, true, false, ◌||◌, List, [], ◌∷◌, map, reverse, Option, Some, is_some, cond, Ok, refl, sym, ap, subst, ◌∙◌}
use Rattle.std.specs.List.{find, list_all, list_any}
use Rattle.std.specs.Option.{option_and_then, option_map}
use Rattle.std.specs.Result.{result_ok}
use Rattle.std.specs.Str.{str_eq_ignore_ascii_case, str_to_ascii_lowercase}
use Rattle.std.specs.Str.{bytes_eq}
use Rattle.std.proofs.lemmas.Slice.Eq.{bytes_eq-Decides}
use Rattle.dir_names.specs.declared.schema.scope.Scope.{Scope}
use Rattle.dir_names.specs.declared.schema.scope.Scope.TheVariants.{ThisSchema, EachSchema}
use Rattle.dir_names.specs.declared.schema.TypeRow.{TypeRow}
use Rattle.dir_names.specs.declared.schema.table.Row.{Row}
use Rattle.dir_names.specs.Inside.Rows.{is_row_of, type_row}
use Rattle.dir_names.specs.Inside.Scopes.{IsScopeOf, IsScopeOfName, IsScopeOfValue, IsWithin, both, has_builtin_types, names_builtin}
use Rattle.dir_names.specs.NameKeys.{attr_of, name_key, pair_key, rdn_key, set_if_distinct}
use Rattle.dir_names.specs.Names.{SpelledName, SpelledPair, SpelledRdn}
use Rattle.dir_names.specs.Names.Reading.{name_within_limits}
use Rattle.dir_names.specs.Results.{option_collect, option_cons}
use Rattle.dir_names.specs.Table.{row_named, rule_of}
use Rattle.dir_names.specs.Table.Builtin.{builtin_rows}
use Rattle.dir_names.specs.Types.Adding.{KeepsTypes}
use Rattle.dir_names.specs.ValueKeys.{text_key_of}
use Rattle.dir_names.proofs.Both.{left, right}
use Rattle.dir_names.proofs.HasKeys.{all_reverse}

-- ---- tables that keep themselves

pub keeps_itself : (rows : List TypeRow) → KeepsTypes rows rows
keeps_itself rows = record { known = λ t e. e; key = λ t e. refl; rule = λ t e. refl; single = λ t e. refl }

pub keeps_equal : (old new : List TypeRow) → new ≡ old → KeepsTypes old new
keeps_equal old new e = subst (λ rows. KeepsTypes old rows) (sym e) (keeps_itself old)

-- ---- a text in another case names the same

pub named_alike : (rows : List TypeRow) (s t : List ℕ) → str_eq_ignore_ascii_case s t ≡ true → row_named rows s ≡ row_named rows t
named_alike rows s t e =
    let low : str_to_ascii_lowercase s ≡ str_to_ascii_lowercase t = (bytes_eq-Decides _ _).0 e in
    ap (λ l. find (λ (row : TypeRow). list_any (λ name. bytes_eq (str_to_ascii_lowercase name) l) row.names) rows) low

-- ---- the code's table

any_map : {X Y : Type 0} (f : X → Y) (p : Y → Bool) (xs : List X) → list_any (λ x. p (f x)) xs ≡ list_any p (map f xs)
any_map f p [] = refl
any_map f p (x ∷ xs) = ap (λ b. p (f x) || b) (any_map f p xs)

found_any : {X Y : Type 0} (f : X → Y) (p : Y → Bool) (xs : List X) → list_any (λ x. p (f x)) xs ≡ is_some (find p (map f xs))
found_any f p [] = refl
found_any {X} {Y} f p (x ∷ xs) = by (p (f x)) (found_any f p xs)
  where
    by : (b : Bool) → list_any (λ y. p (f y)) xs ≡ is_some (find p (map f xs)) → (b || list_any (λ y. p (f y)) xs) ≡ is_some (cond b (Some (f x)) (find p (map f xs)))
    by true e = refl
    by false e = e

module _ (text : List ℕ) where
  pub row_found : (rows : List Row) → list_any (is_row_of text) rows ≡ is_some (row_named (map type_row rows) text)
  row_found rows =
      (λ i. list_any (λ (row : Row). str_eq_ignore_ascii_case row.name.now text || any_map (λ other. other.now) (λ (name : List ℕ). str_eq_ignore_ascii_case name text) row.others.now i) rows)
      ∙ found_any type_row (λ (row : TypeRow). list_any (λ name. str_eq_ignore_ascii_case name text) row.names) rows

-- ---- lists of which each element has the same value by two functions

pub collected_alike : {A B : Type 0} (p : A → Bool) (f g : A → Option B) (xs : List A) → ((x : A) → p x ≡ true → f x ≡ g x) → list_all p xs ≡ true → option_collect f xs ≡ option_collect g xs
collected_alike p f g [] alike e = refl
collected_alike p f g (x ∷ xs) alike e = λ i. option_cons (alike x (left (p x) (list_all p xs) e) i) (collected_alike p f g xs alike (right (p x) (list_all p xs) e) i)

-- ---- keys

module _ (one other : List TypeRow) (keeps : KeepsTypes builtin_rows one) (keeps_too : KeepsTypes builtin_rows other) where
  attr_alike : (t : List ℕ) → names_builtin t ≡ true → attr_of one t ≡ attr_of other t
  attr_alike t e = let same = keeps.key t e ∙ sym (keeps_too.key t e) in λ i. record { attr_type = same i; options = [] }

  rule_alike : (t : List ℕ) → names_builtin t ≡ true → rule_of one (attr_of one t) ≡ rule_of other (attr_of other t)
  rule_alike t e = keeps.rule t e ∙ sym (keeps_too.rule t e)

  pub pair_alike : (p : SpelledPair) → names_builtin p.0 ≡ true → pair_key one p ≡ pair_key other p
  pair_alike p e = λ i. option_map (λ (v : List ℕ). (attr_alike p.0 e i, v)) (result_ok (text_key_of (rule_alike p.0 e i) p.1))

  rdn_alike : (r : SpelledRdn) → list_all (λ p. names_builtin p.0) r ≡ true → rdn_key one r ≡ rdn_key other r
  rdn_alike r e = ap (option_and_then set_if_distinct) (collected_alike (λ (p : SpelledPair). names_builtin p.0) (pair_key one) (pair_key other) r pair_alike e)

  -- a name of built-in types has the same key under both
  pub fixed_key : (name : SpelledName) → has_builtin_types name ≡ true → name_key one name ≡ name_key other name
  fixed_key name e =
      let builtin : SpelledRdn → Bool = λ (r : SpelledRdn). list_all (λ (p : SpelledPair). names_builtin p.0) r in
      collected_alike builtin (rdn_key one) (rdn_key other) (reverse name) rdn_alike (all_reverse builtin name ∙ e)

-- ---- scopes

module _ (asked : List TypeRow) (keeps : KeepsTypes builtin_rows asked) where
  -- the table that was asked is one of those
  pub within_itself : (scope : Scope) → IsWithin scope asked asked
  within_itself ThisSchema = refl
  within_itself EachSchema = keeps

  pub keeps_within : (scope : Scope) (rows : List TypeRow) → IsWithin scope asked rows → KeepsTypes builtin_rows rows
  keeps_within ThisSchema rows e = subst (KeepsTypes builtin_rows) (sym e) keeps
  keeps_within EachSchema rows e = e

  -- those of the narrower scope are of both
  pub within_first : (a b : Scope) (rows : List TypeRow) → IsWithin (both a b) asked rows → IsWithin a asked rows
  within_first EachSchema b rows e = keeps_within b rows e
  within_first ThisSchema b rows e = e

  pub within_second : (a b : Scope) (rows : List TypeRow) → IsWithin (both a b) asked rows → IsWithin b asked rows
  within_second EachSchema b rows e = e
  within_second ThisSchema ThisSchema rows e = e
  within_second ThisSchema EachSchema rows e = subst (KeepsTypes builtin_rows) (sym e) keeps

  pub pair_within : (scope : Scope) (p : SpelledPair) → IsScopeOf scope p.0 → (rows : List TypeRow) → IsWithin scope asked rows → pair_key rows p ≡ pair_key asked p
  pair_within ThisSchema p is rows e = ap (λ r. pair_key r p) e
  pair_within EachSchema p is rows e = pair_alike rows asked e keeps p (is refl)

  pub name_within : (scope : Scope) (name : SpelledName) → IsScopeOfName scope name → (rows : List TypeRow) → IsWithin scope asked rows → name_key rows name ≡ name_key asked name
  name_within ThisSchema name is rows e = ap (λ r. name_key r name) e
  name_within EachSchema name is rows e = fixed_key rows asked e keeps name (is refl)

  pub value_within : (scope : Scope) (value : List ℕ) (name : SpelledName) → name_within_limits value ≡ Ok name → IsScopeOfName scope name → IsScopeOfValue scope asked value
  value_within scope value name read is rows e =
      ap (λ r. option_and_then (name_key rows) (result_ok r)) read ∙ name_within scope name is rows e ∙ sym (ap (λ r. option_and_then (name_key asked) (result_ok r)) read)
