-- A table of types with its index, after a definition is added: what `TypeTable` keeps, it keeps.
use Rattle.std.proofs.Common.{◌≡◌, ℕ, Bool, true, cond, nat_le, List, [], ◌∷◌, ◌++◌, map, length, get_or, IfErr, OnOk, Option, Some, None, Result, Ok, Err, ok_or, slice_get, option_map, option_and_then, set, sym, ap, subst, ◌∙◌}
use Rattle.std.specs.List.{list_any, list_all, position}
use Rattle.std.specs.Str.{str_to_ascii_lowercase}
use Rattle.std.proofs.lemmas.Option.{slice_get-get_or}
use Rattle.dir_names.specs.declared.fault.NameFault.{NameFault}
use Rattle.dir_names.specs.declared.fault.NameFault.TheVariants.{BadType, Memory}
use Rattle.dir_names.specs.declared.schema.definition.TypeDefinition.{TypeDefinition}
use Rattle.dir_names.specs.declared.schema.Rule.{Rule}
use Rattle.dir_names.specs.declared.schema.TypeRow.{TypeRow}
use Rattle.dir_names.specs.Inside.TypeNames.{Gains, IsIndex, are_rising, is_named}
use Rattle.dir_names.specs.Orders.{bytes_eq}
use Rattle.dir_names.specs.Outcome.{Gives, IsNameFaultOf}
use Rattle.dir_names.specs.Table.{row_named}
use Rattle.dir_names.specs.Table.Builtin.{builtin_rows}
use Rattle.dir_names.specs.Types.Adding.{KeepsTypes, gaining, is_table, may_be_added, may_be_given, names_given, new_names, new_row, rule_by, table_with, with_names}
use Rattle.dir_names.proofs.AddedTypes.{is_addition}
use Rattle.dir_names.proofs.Both.{right}
use Rattle.dir_names.proofs.GainedNames.{gains_at, index_gains, lowered_in, placed_at, wider}
use Rattle.dir_names.proofs.IndexedNames.{index_push}
use Rattle.dir_names.proofs.TypeTables.{row_by_number}

-- what keeps the types of a table that keeps those of another, keeps these
keeps_on : (one two three : List TypeRow) → KeepsTypes one two → KeepsTypes two three → KeepsTypes one three
keeps_on one two three first then = record {
  known = λ t e. then.known t (first.known t e);
  key = λ t e. then.key t (first.known t e) ∙ first.key t e;
  rule = λ t e. then.rule t (first.known t e) ∙ first.rule t e;
  single = λ t e. then.single t (first.known t e) ∙ first.single t e;
}

-- what a table of types keeps
abbrev pub IsKept : List TypeRow → List (List ℕ × ℕ) → Type 0
IsKept rows names = IsIndex rows names × (is_table rows ≡ true) × KeepsTypes builtin_rows rows

-- the names that an index gains
abbrev pub gains_in : List (List ℕ) → List ℕ → Bool
gains_in lowered t = list_any (λ name. bytes_eq name (str_to_ascii_lowercase t)) lowered

module _ (rows : List TypeRow) (names : List (List ℕ × ℕ)) (kept : IsKept rows names) (d : TypeDefinition) (added : may_be_added rows d ≡ true) where
  so_far : (now : List TypeRow) → table_with rows d ≡ Some now → (is_table now ≡ true) × KeepsTypes builtin_rows now
  so_far now e = let adds = is_addition rows d now kept.1 e in (adds.0, keeps_on builtin_rows rows now kept.2 adds.1.keeps)

  -- ---- a new type

  pub with_new : (of_values : Rule) → row_named rows d.number ≡ None → rule_by rows d.equality d.sup ≡ Some of_values → table_with rows d ≡ Some (rows ++ new_row d of_values ∷ [])
  with_new of_values fresh by_rule =
      ap (λ b. cond b (with_names rows d (row_named rows d.number)) None) added
      ∙ ap (with_names rows d) fresh
      ∙ ap (option_map (λ r. rows ++ new_row d r ∷ [])) by_rule

  pub without_rule : row_named rows d.number ≡ None → rule_by rows d.equality d.sup ≡ None → table_with rows d ≡ None
  without_rule fresh no_rule =
      ap (λ b. cond b (with_names rows d (row_named rows d.number)) None) added
      ∙ ap (with_names rows d) fresh
      ∙ ap (option_map (λ r. rows ++ new_row d r ∷ [])) no_rule

  pub row_added : (of_values : Rule) (new : List (List ℕ × ℕ)) → row_named rows d.number ≡ None → rule_by rows d.equality d.sup ≡ Some of_values → are_rising new ≡ true
      → Gains (gains_in (map str_to_ascii_lowercase (names_given d))) (length rows) names new → IsKept (rows ++ new_row d of_values ∷ []) new
  row_added of_values new fresh by_rule rising gains = (
    index_push rows (new_row d of_values) names new kept.0 rising (subst (λ f. Gains f (length rows) names new) (λ i t. lowered_in (names_given d) t i) gains),
    (so_far (rows ++ new_row d of_values ∷ []) (with_new of_values fresh by_rule)).0,
    (so_far (rows ++ new_row d of_values ∷ []) (with_new of_values fresh by_rule)).1,
  )

  -- ---- more names of a known type

  named_at : (at : ℕ) (other : TypeRow) → position (is_named d.number) rows ≡ Some at → row_named rows d.number ≡ Some (get_or rows at other)
  named_at at other e =
      sym (row_by_number rows names kept.0 d.number)
      ∙ ap (option_and_then (slice_get rows)) (kept.0.1 d.number ∙ e)
      ∙ slice_get-get_or rows at other (placed_at (is_named d.number) rows at e).1

  pub with_known : (at : ℕ) (other : TypeRow) → position (is_named d.number) rows ≡ Some at → table_with rows d ≡ Some (map (gaining d (new_names rows d)) rows)
  with_known at other e =
      ap (λ b. cond b (with_names rows d (row_named rows d.number)) None) added
      ∙ ap (with_names rows d) (named_at at other e)

  -- the row at the place of the number, with the names that it gains
  pub rows_grown : (at : ℕ) (other : TypeRow) → position (is_named d.number) rows ≡ Some at → set rows at (wider d (new_names rows d) (get_or rows at other)) ≡ map (gaining d (new_names rows d)) rows
  rows_grown at other e = gains_at d (new_names rows d) rows at other kept.1 e

  pub row_grown : (at : ℕ) (other : TypeRow) (new : List (List ℕ × ℕ)) → position (is_named d.number) rows ≡ Some at → are_rising new ≡ true
      → Gains (gains_in (map str_to_ascii_lowercase (new_names rows d))) at names new → IsKept (map (gaining d (new_names rows d)) rows) new
  row_grown at other new e rising gains = (
    index_gains rows d (get_or rows at other) (right (nat_le (length d.number) 512) (list_all (may_be_given rows d) d.names) added) (named_at at other e) at names new kept.0 e rising gains,
    (so_far (map (gaining d (new_names rows d)) rows) (with_known at other e)).0,
    (so_far (map (gaining d (new_names rows d)) rows) (with_known at other e)).1,
  )

-- ---- what the call answers

module _ (old new now : List TypeRow) (wanted : Option (List TypeRow)) (is : wanted ≡ Some now) where
  pub gives_added : (r : Result (Unit {0}) NameFault) → OnOk r (new ≡ now) → IfErr r (λ e. (e ≡ Memory) × (new ≡ old)) → Gives (λ _. new) r (ok_or wanted BadType)
  gives_added (Ok u) ok err = ap (λ o. ok_or o BadType) is ∙ ap Ok (sym ok)
  gives_added (Err e) ok err = subst (λ f. IsNameFaultOf f (ok_or wanted BadType)) (sym err.0) tt
