-- Attributes that have the values of some lines, in whatever order, are those that the lines give.
use Rattle.std.proofs.Common.{◌≡◌, ℕ, true, cond, List, [], ◌∷◌, ◌++◌, map, Some, None, Ok, Err, IsTrue, refl, sym, ap, subst, ◌∙◌}
use Rattle.std.specs.List.{All, filter, flat_map}
use Rattle.std.specs.List.Sorted.{IsPermutation}
use Rattle.std.specs.FinMap as fin
use Rattle.std.specs.FinMap.{get-empty, same_map}
use Rattle.std.specs.Option.{ok_or}
use Rattle.std.proofs.lemmas.List.Elements.{All-nil, All-cons, All-head, All-tail, All-append, All-filter}
use Rattle.std.proofs.lemmas.List.Sorted.{All-permutation, IsPermutation-sym}
use Rattle.dir_names.specs.declared.schema.TypeRow.{TypeRow}
use Rattle.dir_names.specs.declared.value.ValueKey.{ValueKey}
use Rattle.dir_names.specs.Attr.{Attr}
use Rattle.dir_names.specs.Described.{Described}
use Rattle.dir_names.specs.Orders.{attr_cmp, attr_cmp_total, attr_cmp_exact, attr_eq_decides}
use Rattle.dir_names.specs.Results.{and_then}
use Rattle.dir_tree.specs.declared.fault.EntryFault.TheVariants.{BadValue, Twice}
use Rattle.dir_tree.specs.declared.lines.KeyedLine.{KeyedLine}
use Rattle.dir_tree.specs.Content.{Keyed, Stored, StoredAttributes}
use Rattle.dir_tree.specs.Inside.Patterns.{HasValues, keyed_values, lines_of}
use Rattle.dir_tree.specs.Inside.Stored.{attribute_pair, attributes_in, attributes_rise}
use Rattle.dir_tree.specs.NewEntry.{attributes_if_distinct, attributes_of, give_distinct_values, keyed_lines, with_lines}
use Rattle.dir_tree.specs.NewEntryLaw.{gives_value, is_line_of, spelled_in, value_in}
use Rattle.dir_tree.specs.WellFormed.{Each}
use Rattle.dir_tree.proofs.EachEntry.{each_entry}
use Rattle.dir_tree.proofs.MadeAgain.{HasSome, keyed_attribute, keyed_of, whole_again}
use Rattle.dir_tree.proofs.Orderless.{apart_few, few, few_apart, first_spelled, last_value, same_stored, spelled_all, value_all}
use Rattle.dir_tree.proofs.Reordered.{few_same, none_same, passed}
use Rattle.dir_tree.proofs.SortedVecs.{entries_in}

-- the values of attributes in a list are those of the map
lines-map : (attrs : List Keyed) → flat_map keyed_attribute (map attribute_pair attrs) ≡ lines_of attrs
lines-map [] = refl
lines-map (a ∷ attrs) = ap (λ ls. keyed_values a ++ ls) (lines-map attrs)

each_some : (attrs : List Keyed) → All HasValues attrs → Each HasSome (map attribute_pair attrs)
each_some [] h = tt
each_some (a ∷ attrs) h = (All-head HasValues a attrs h, each_some attrs (All-tail HasValues a attrs h))

-- ---- how the attribute of a line is spelled

module _ (m : StoredAttributes) where
  abbrev IsSpelledSo : KeyedLine → Type 0
  IsSpelledSo l = spelled_in (fin.get m l.description.key) ≡ Some l.description.spelling

  spelled_values : (a : Attr × Stored) → fin.get m a.0 ≡ Some a.1 → (vs : List (ValueKey × List ℕ)) → All IsSpelledSo (map (keyed_of a) vs)
  spelled_values a there [] = All-nil IsSpelledSo
  spelled_values a there (v ∷ vs) = All-cons IsSpelledSo (keyed_of a v) (map (keyed_of a) vs) (ap spelled_in there) (spelled_values a there vs)

  spelled_lines : (es : List (Attr × Stored)) → Each (λ a. fin.get m a.0 ≡ Some a.1) es → All IsSpelledSo (flat_map keyed_attribute es)
  spelled_lines [] there = All-nil IsSpelledSo
  spelled_lines (a ∷ es) there = All-append IsSpelledSo (keyed_attribute a) (flat_map keyed_attribute es) (spelled_values a there.0 (fin.entries a.1.values)) (spelled_lines es there.1)

  pub spelled_so : All IsSpelledSo (flat_map keyed_attribute (fin.entries m))
  spelled_so = spelled_lines (fin.entries m) (each_entry attr_cmp_total attr_cmp_exact (λ a. fin.get m a.0 ≡ Some a.1) m (λ k x there. there))

-- ---- lines that are those of a map in another order

module _ (m : StoredAttributes) (given lines : List KeyedLine) (same : IsPermutation given lines) (made : with_lines fin.empty lines ≡ m) (apart : give_distinct_values lines ≡ true) (spelled : All (IsSpelledSo m) lines) where
  alike : (k : Attr) (v : ValueKey) → filter (gives_value k v) given ≡ filter (gives_value k v) lines
  alike k v = few_same (gives_value k v) given lines same (apart_few lines apart k v)

  given_apart : give_distinct_values given ≡ true
  given_apart = few_apart given (λ k v. ap few (alike k v) ∙ apart_few lines apart k v)

  valued : (k : Attr) (v : ValueKey) → value_in v (fin.get (with_lines fin.empty given) k) ≡ value_in v (fin.get m k)
  valued k v =
      value_all fin.empty given k v
      ∙ ap (last_value (value_in v (fin.get fin.empty k))) (alike k v)
      ∙ sym (value_all fin.empty lines k v)
      ∙ ap (λ xs. value_in v (fin.get xs k)) made

  first_in : (k : Attr) → spelled_in (fin.get (with_lines fin.empty given) k) ≡ spelled_in (fin.get m k)
  first_in k =
      spelled_all fin.empty given k
      ∙ ap (λ o. first_spelled (spelled_in o) (filter (is_line_of k) given)) (get-empty attr_cmp k)
      ∙ by (filter (is_line_of k) given) refl
    where
      by : (fs : List KeyedLine) → filter (is_line_of k) given ≡ fs → first_spelled None fs ≡ spelled_in (fin.get m k)
      by [] e =
          ap (λ o. spelled_in o) (sym (get-empty attr_cmp k))
          ∙ ap (first_spelled (spelled_in (fin.get fin.empty k))) (sym (none_same (is_line_of k) given lines same e))
          ∙ sym (spelled_all fin.empty lines k)
          ∙ ap (λ xs. spelled_in (fin.get xs k)) made
      by (l ∷ ls) e =
          let all : All (IsSpelledSo m) (l ∷ ls) = subst (All (IsSpelledSo m)) e (All-filter (is_line_of k) (IsSpelledSo m) given (All-permutation (IsSpelledSo m) lines given (IsPermutation-sym given lines same) spelled)) in
          let passes : is_line_of k l ≡ true = All-head (λ x. is_line_of k x ≡ true) l ls (subst (All (λ x. is_line_of k x ≡ true)) e (passed (is_line_of k) given)) in
          sym (ap (λ j. spelled_in (fin.get m j)) ((attr_eq_decides k l.description.key).0 passes) ∙ All-head (IsSpelledSo m) l ls all)

  pub given_make : attributes_if_distinct given ≡ Ok m
  given_make =
      ap (λ b. cond b (Ok (with_lines fin.empty given)) (Err Twice)) given_apart
      ∙ ap Ok (same_map attr_cmp_total attr_cmp_exact _ _ (λ k. same_stored _ _ (first_in k) (valued k)))

-- the attributes of lines that have each a key
pub made_of : (rows : List TypeRow) (lines : List (Described × List ℕ)) (attrs : List Keyed) (given : List KeyedLine) → keyed_lines rows lines ≡ Some given → IsPermutation given (lines_of attrs) → IsTrue (attributes_rise attrs) → All HasValues attrs → attributes_of rows lines ≡ Ok (attributes_in attrs)
made_of rows lines attrs given keyed same rise some =
    let m = attributes_in attrs in
    let entries : fin.entries m ≡ map attribute_pair attrs = entries_in attr_cmp_total attribute_pair attrs rise in
    let each : Each HasSome (fin.entries m) = subst (Each HasSome) (sym entries) (each_some attrs some) in
    let again = whole_again m each in
    let order : IsPermutation given (flat_map keyed_attribute (fin.entries m)) = subst (IsPermutation given) (sym (ap (flat_map keyed_attribute) entries ∙ lines-map attrs)) same in
    ap (λ o. and_then (ok_or o BadValue) attributes_if_distinct) keyed
    ∙ given_make m given (flat_map keyed_attribute (fin.entries m)) order again.0 again.1 (spelled_so m)
