-- An add of all the values of a sound entry makes the entry.
use Rattle.std.proofs.Common.{◌≡◌, ℕ, Bool, true, false, cond, not, ◌&&◌, List, [], ◌∷◌, ◌++◌, map, Option, Some, None, is_some, option_map, Ok, Err, refl, sym, ap, ◌∙◌, true≢false}
use Rattle.std.specs.List.{flat_map, list_all}
use Rattle.std.specs.FinMap as fin
use Rattle.std.specs.FinMap.{get-insert, get-empty}
use Rattle.std.specs.Ordering.{is_eq}
use Rattle.std.specs.Cmp.{tied_itself}
use Rattle.dir_names.specs.declared.schema.TypeRow.{TypeRow}
use Rattle.dir_names.specs.declared.value.ValueKey.{ValueKey}
use Rattle.dir_names.specs.Attr.{Attr}
use Rattle.std.specs.Result.{result_ok}
use Rattle.dir_names.specs.Orders.{attr_cmp, attr_cmp_total, attr_cmp_exact}
use Rattle.dir_names.specs.Results.{option_cons, and_then}
use Rattle.dir_names.specs.Values.{value_key_cmp, value_key_cmp_total, value_key_cmp_exact}
use Rattle.dir_tree.specs.declared.fault.EntryFault.TheVariants.{BadValue, Twice, NotNamed, Single}
use Rattle.dir_tree.specs.declared.lines.KeyedLine.{KeyedLine}
use Rattle.dir_tree.specs.Inside.Arranged.{have_new_values}
use Rattle.dir_tree.specs.Content.{Content, Stored, StoredAttributes, has_in, has_value}
use Rattle.std.specs.Option.{ok_or}
use Rattle.dir_tree.specs.NewEntry.{attributes_if_distinct, attributes_of, give_distinct_values, keyed_line, keyed_lines, leaf_lines, new_entry, ok_unless_exceeding, with_line, with_lines, with_missing_lines, with_missing_of, with_value}
use Rattle.dir_tree.specs.WellFormed.{Each, IsSoundAttribute, IsSoundEntry, IsSoundValue, all_lines, attribute_lines, has_each}
use Rattle.dir_tree.specs.NewEntryLaw.{value_in}
use Rattle.dir_tree.proofs.Orderless.{free_of_empty}
use Rattle.dir_tree.proofs.Relisted.{are_new, inserted, inserted_whole, insert_over, new_whole}
use Rattle.dir_names.proofs.Both.{left, right}
use Rattle.dir_names.proofs.Collected.{collect_append}

-- a value of an attribute, as a line with its key
abbrev pub keyed_of : Attr × Stored → ValueKey × List ℕ → KeyedLine
keyed_of a v = record { description = record { spelling = a.1.spelling; key = a.0 }; key = v.0; bytes = v.1 }

abbrev pub keyed_attribute : Attr × Stored → List KeyedLine
keyed_attribute a = map (keyed_of a) (fin.entries a.1.values)

-- the attribute has values
abbrev pub HasSome : Attr × Stored → Type 0
HasSome a = fin.entries a.1.values ≡ [] → ⊥

-- ---- each line has its key

module _ (rows : List TypeRow) where
  keyed_value : (a : Attr × Stored) (v : ValueKey × List ℕ) → IsSoundValue rows a.0 v → keyed_line rows (record { spelling = a.1.spelling; key = a.0 }, v.1) ≡ Some (keyed_of a v)
  keyed_value a v sound = ap (λ r. option_map (λ key. record { description = record { spelling = a.1.spelling; key = a.0 }; key = key; bytes = v.1 }) (result_ok r)) sound.0

  keyed_values : (a : Attr × Stored) (vs : List (ValueKey × List ℕ)) → Each (IsSoundValue rows a.0) vs → keyed_lines rows (map (λ v. (record { spelling = a.1.spelling; key = a.0 }, v.1)) vs) ≡ Some (map (keyed_of a) vs)
  keyed_values a [] sound = refl
  keyed_values a (v ∷ vs) sound = λ i. option_cons (keyed_value a v sound.0 i) (keyed_values a vs sound.1 i)

  keyed_all : (es : List (Attr × Stored)) → Each (IsSoundAttribute rows) es → keyed_lines rows (flat_map attribute_lines es) ≡ Some (flat_map keyed_attribute es)
  keyed_all [] sound = refl
  keyed_all (a ∷ es) sound =
      collect_append (keyed_line rows) (attribute_lines a) (flat_map attribute_lines es) (keyed_attribute a) (flat_map keyed_attribute es) (keyed_values a (fin.entries a.1.values) sound.0.2) (keyed_all es sound.1)

-- ---- the lines of one attribute

get_there : (xs : StoredAttributes) (k : Attr) (b : Stored) → fin.get (fin.insert xs k b) k ≡ Some b
get_there xs k b = get-insert attr_cmp_total xs k b k ∙ ap (λ r. cond (is_eq r) (Some b) (fin.get xs k)) (tied_itself attr_cmp_total k)

next_value : (xs : StoredAttributes) (a : Attr × Stored) (b : Stored) (v : ValueKey × List ℕ) → with_line (fin.insert xs a.0 b) (keyed_of a v) ≡ fin.insert xs a.0 (record { spelling = b.spelling; values = fin.insert b.values v.0 v.1 })
next_value xs a b v = ap (λ o. fin.insert (fin.insert xs a.0 b) a.0 (with_value o (keyed_of a v))) (get_there xs a.0 b) ∙ insert_over attr_cmp_total attr_cmp_exact xs a.0 b _

more_values : (xs : StoredAttributes) (a : Attr × Stored) (b : Stored) (vs : List (ValueKey × List ℕ)) →
    with_lines (fin.insert xs a.0 b) (map (keyed_of a) vs) ≡ fin.insert xs a.0 (record { spelling = b.spelling; values = inserted value_key_cmp_total value_key_cmp_exact b.values vs })
more_values xs a b [] = refl
more_values xs a b (v ∷ vs) =
    ap (λ ys. with_lines ys (map (keyed_of a) vs)) (next_value xs a b v)
    ∙ more_values xs a (record { spelling = b.spelling; values = fin.insert b.values v.0 v.1 }) vs

more_free : (xs : StoredAttributes) (a : Attr × Stored) (b : Stored) (vs : List (ValueKey × List ℕ)) →
    have_new_values (fin.insert xs a.0 b) (map (keyed_of a) vs) ≡ are_new value_key_cmp_total value_key_cmp_exact b.values vs
more_free xs a b [] = refl
more_free xs a b (v ∷ vs) = λ i. not (has_in v.0 (get_there xs a.0 b i)) && (ap (λ ys. have_new_values ys (map (keyed_of a) vs)) (next_value xs a b v) ∙ more_free xs a (record { spelling = b.spelling; values = fin.insert b.values v.0 v.1 }) vs) i

first_value : (xs : StoredAttributes) (a : Attr × Stored) (v : ValueKey × List ℕ) → fin.get xs a.0 ≡ None → with_line xs (keyed_of a v) ≡ fin.insert xs a.0 (record { spelling = a.1.spelling; values = fin.insert fin.empty v.0 v.1 })
first_value xs a v none = ap (λ o. fin.insert xs a.0 (with_value o (keyed_of a v))) none

one_attribute : (xs : StoredAttributes) (a : Attr × Stored) → fin.get xs a.0 ≡ None → (fin.entries a.1.values ≡ [] → ⊥) → with_lines xs (keyed_attribute a) ≡ fin.insert xs a.0 a.1
one_attribute xs a none some = by (fin.entries a.1.values) refl some
  where
    by : (vs : List (ValueKey × List ℕ)) → fin.entries a.1.values ≡ vs → (vs ≡ [] → ⊥) → with_lines xs (map (keyed_of a) vs) ≡ fin.insert xs a.0 a.1
    by [] t some = absurd (some refl)
    by (v ∷ vs) t some =
        ap (λ ys. with_lines ys (map (keyed_of a) vs)) (first_value xs a v none)
        ∙ more_values xs a (record { spelling = a.1.spelling; values = fin.insert fin.empty v.0 v.1 }) vs
        ∙ ap (λ values. fin.insert xs a.0 (record { spelling = a.1.spelling; values = values }))
        (ap (inserted value_key_cmp_total value_key_cmp_exact fin.empty) (sym t) ∙ inserted_whole value_key_cmp_total value_key_cmp_exact a.1.values)

one_free : (xs : StoredAttributes) (a : Attr × Stored) → fin.get xs a.0 ≡ None → have_new_values xs (keyed_attribute a) ≡ true
one_free xs a none = by (fin.entries a.1.values) refl
  where
    by : (vs : List (ValueKey × List ℕ)) → fin.entries a.1.values ≡ vs → have_new_values xs (map (keyed_of a) vs) ≡ true
    by [] t = refl
    by (v ∷ vs) t =
        (λ i. not (has_in v.0 (none i)) && (ap (λ ys. have_new_values ys (map (keyed_of a) vs)) (first_value xs a v none) ∙ more_free xs a (record { spelling = a.1.spelling; values = fin.insert fin.empty v.0 v.1 }) vs) i)
        ∙ right (not (fin.contains_key (fin.empty {K = ValueKey} {X = List ℕ} {R = value_key_cmp}) v.0)) _ (ap (are_new value_key_cmp_total value_key_cmp_exact fin.empty) (sym t) ∙ new_whole value_key_cmp_total value_key_cmp_exact a.1.values)

-- ---- the lines of all attributes

with_append : (xs : StoredAttributes) (ls ms : List KeyedLine) → with_lines xs (ls ++ ms) ≡ with_lines (with_lines xs ls) ms
with_append xs [] ms = refl
with_append xs (l ∷ ls) ms = with_append (with_line xs l) ls ms

free_append : (xs : StoredAttributes) (ls ms : List KeyedLine) → have_new_values xs (ls ++ ms) ≡ have_new_values xs ls && have_new_values (with_lines xs ls) ms
free_append xs [] ms = refl
free_append xs (l ∷ ls) ms = ap (λ b. not (has_value xs l.description.key l.key) && b) (free_append (with_line xs l) ls ms) ∙ joined (not (has_value xs l.description.key l.key)) (have_new_values (with_line xs l) ls) _
  where
    joined : (a b c : Bool) → (a && (b && c)) ≡ ((a && b) && c)
    joined true b c = refl
    joined false b c = refl

not_there : (xs : StoredAttributes) (k : Attr) → not (fin.contains_key xs k) ≡ true → fin.get xs k ≡ None
not_there xs k e = by (fin.get xs k) e
  where
    by : (o : Option Stored) → not (is_some o) ≡ true → o ≡ None
    by None h = refl
    by (Some b) h = absurd (true≢false (sym h))

-- attributes that have values, none of them there yet
pub all_attributes : (xs : StoredAttributes) (es : List (Attr × Stored)) → Each HasSome es → are_new attr_cmp_total attr_cmp_exact xs es ≡ true →
    (with_lines xs (flat_map keyed_attribute es) ≡ inserted attr_cmp_total attr_cmp_exact xs es) × (have_new_values xs (flat_map keyed_attribute es) ≡ true)
all_attributes xs [] some new = (refl, refl)
all_attributes xs (a ∷ es) some new =
    let none = not_there xs a.0 (left _ (are_new attr_cmp_total attr_cmp_exact (fin.insert xs a.0 a.1) es) new) in
    let one = one_attribute xs a none some.0 in
    let rest = all_attributes (fin.insert xs a.0 a.1) es some.1 (right (not (fin.contains_key xs a.0)) _ new) in (
      with_append xs (keyed_attribute a) (flat_map keyed_attribute es) ∙ ap (λ ys. with_lines ys (flat_map keyed_attribute es)) one ∙ rest.0,
      free_append xs (keyed_attribute a) (flat_map keyed_attribute es) ∙ (λ i. one_free xs a none i && (ap (λ ys. have_new_values ys (flat_map keyed_attribute es)) one ∙ rest.1) i),
    )

-- the values of all attributes of a map make it, and none of them comes twice
pub whole_again : (m : StoredAttributes) → Each HasSome (fin.entries m) → (with_lines fin.empty (flat_map keyed_attribute (fin.entries m)) ≡ m) × (give_distinct_values (flat_map keyed_attribute (fin.entries m)) ≡ true)
whole_again m some =
    let again = all_attributes fin.empty (fin.entries m) some (new_whole attr_cmp_total attr_cmp_exact m) in (
      again.0 ∙ inserted_whole attr_cmp_total attr_cmp_exact m,
      sym (free_of_empty fin.empty (flat_map keyed_attribute (fin.entries m)) (λ k v. ap (value_in v) (get-empty attr_cmp k))) ∙ again.1,
    )

sound_has_some : (rows : List TypeRow) (es : List (Attr × Stored)) → Each (IsSoundAttribute rows) es → Each HasSome es
sound_has_some rows [] sound = tt
sound_has_some rows (a ∷ es) sound = (sound.0.1, sound_has_some rows es sound.1)

-- ---- the values of the own RDN are there

nothing_gained : (xs : StoredAttributes) (ls : List KeyedLine) → list_all (λ l. has_value xs l.description.key l.key) ls ≡ true → with_missing_lines xs ls ≡ xs
nothing_gained xs [] there = refl
nothing_gained xs (l ∷ ls) there =
    ap (λ ys. with_missing_lines ys ls) (ap (λ b. cond b xs (with_line xs l)) (left _ (list_all (λ l. has_value xs l.description.key l.key) ls) there))
    ∙ nothing_gained xs ls (right (has_value xs l.description.key l.key) _ there)

pub nothing_by : (xs : StoredAttributes) (o : Option (List KeyedLine)) → has_each xs o ≡ true → with_missing_of xs o ≡ xs
nothing_by xs None there = refl
nothing_by xs (Some ls) there = nothing_gained xs ls there

pub made_again : (rows : List TypeRow) (e : Content) → IsSoundEntry rows e → new_entry rows e.own (all_lines e.attributes) ≡ Ok e
made_again rows e sound =
    ap (λ o. and_then (ok_or o NotNamed) (λ key. and_then (attributes_of rows (all_lines e.attributes)) (λ xs. ok_unless_exceeding rows (record { own = e.own; key = key; attributes = with_missing_of xs (leaf_lines rows e.own) })))) sound.0
    ∙ ap (λ r. and_then r (λ xs. ok_unless_exceeding rows (record { own = e.own; key = e.key; attributes = with_missing_of xs (leaf_lines rows e.own) }))) gathered_again
    ∙ ap (λ xs. ok_unless_exceeding rows (record { own = e.own; key = e.key; attributes = xs })) (nothing_by e.attributes (leaf_lines rows e.own) sound.2)
    ∙ ap (λ b. cond b (Err Single) (Ok e)) sound.3
  where
    again : (with_lines fin.empty (flat_map keyed_attribute (fin.entries e.attributes)) ≡ e.attributes) × (give_distinct_values (flat_map keyed_attribute (fin.entries e.attributes)) ≡ true)
    again = whole_again e.attributes (sound_has_some rows (fin.entries e.attributes) sound.1)

    gathered_again : attributes_of rows (all_lines e.attributes) ≡ Ok e.attributes
    gathered_again =
        ap (λ o. and_then (ok_or o BadValue) attributes_if_distinct) (keyed_all rows (fin.entries e.attributes) sound.1)
        ∙ ap (λ b. cond b (Ok (with_lines fin.empty (flat_map keyed_attribute (fin.entries e.attributes)))) (Err Twice)) again.1
        ∙ ap Ok again.0
