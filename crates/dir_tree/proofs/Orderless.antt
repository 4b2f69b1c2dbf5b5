-- The order in which lines are added doesn't matter, but for the spelling of their descriptions.
use Rattle.std.proofs.Common.{◌≡◌, ℕ, Bool, true, false, cond, not, ◌&&◌, ◌||◌, List, [], ◌∷◌, Option, Some, None, is_some, refl, sym, ap, ◌∙◌, true≢false}
use Rattle.std.specs.List.{filter, list_any, list_all}
use Rattle.std.specs.FinMap as fin
use Rattle.std.specs.FinMap.{get-insert, get-empty, same_map}
use Rattle.std.specs.Ordering.{eq_by_cmp}
use Rattle.dir_names.specs.declared.value.ValueKey.{ValueKey}
use Rattle.dir_names.specs.Attr.{Attr}
use Rattle.dir_names.specs.Described.{Described}
use Rattle.dir_names.specs.Orders.{attr_cmp, attr_cmp_total, attr_cmp_exact, attr_cmp_ties, attr_eq, attr_eq_decides}
use Rattle.dir_names.specs.Values.{value_key_cmp, value_key_cmp_total, value_key_cmp_exact, value_key_cmp_ties, value_key_eq, value_key_eq_decides}
use Rattle.dir_tree.specs.declared.lines.KeyedLine.{KeyedLine}
use Rattle.dir_tree.specs.Inside.Arranged.{IsArranged, have_new_values, with_descriptions}
use Rattle.dir_tree.specs.NewEntryLaw.{has_value_key, is_line_of}
use Rattle.dir_tree.specs.Content.{Stored, StoredAttributes, has_in, has_value}
use Rattle.dir_tree.specs.NewEntryLaw.{gives_value, spelled_in, value_in}
use Rattle.dir_tree.specs.NewEntry.{give_distinct_values, give_same_value, with_description, with_line, with_lines, with_value}

-- ---- an attribute by its spelling and its values

pub same_stored : (x y : Option Stored) → spelled_in x ≡ spelled_in y → ((v : ValueKey) → value_in v x ≡ value_in v y) → x ≡ y
same_stored None None s h = refl
same_stored None (Some b) s h = absurd (cc)
same_stored (Some a) None s h = absurd (cc)
same_stored (Some a) (Some b) s h =
    let spelling : a.spelling ≡ b.spelling = cc in
    let values = same_map value_key_cmp_total value_key_cmp_exact a.values b.values h in
    λ i. Some (record { spelling = spelling i; values = values i })

pub has_as_value : (v : ValueKey) (x : Option Stored) → has_in v x ≡ is_some (value_in v x)
has_as_value v None = refl
has_as_value v (Some a) = refl

abbrev pub or_spelled : Option (List ℕ) → List ℕ → Option (List ℕ)
or_spelled None t = Some t
or_spelled (Some s) t = Some s

abbrev pub first_spelled : Option (List ℕ) → List KeyedLine → Option (List ℕ)
first_spelled s [] = s
first_spelled s (l ∷ ls) = or_spelled s l.description.spelling

abbrev pub last_value : Option (List ℕ) → List KeyedLine → Option (List ℕ)
last_value b [] = b
last_value b (l ∷ ls) = last_value (Some l.bytes) ls

get_put : (xs : StoredAttributes) (j : Attr) (a : Stored) (k : Attr) → fin.get (fin.insert xs j a) k ≡ cond (attr_eq k j) (Some a) (fin.get xs k)
get_put xs j a k = get-insert attr_cmp_total xs j a k ∙ ap (λ b. cond b (Some a) (fin.get xs k)) (sym (attr_cmp_ties k j))

-- ---- one line more

spelled_with : (o : Option Stored) (l : KeyedLine) → Some (with_value o l).spelling ≡ or_spelled (spelled_in o) l.description.spelling
spelled_with None l = refl
spelled_with (Some a) l = refl

value_with : (v : ValueKey) (o : Option Stored) (l : KeyedLine) → value_in v (Some (with_value o l)) ≡ cond (has_value_key v l) (Some l.bytes) (value_in v o)
value_with v None l = get-insert value_key_cmp_total fin.empty l.key l.bytes v ∙ ap (cond (eq_by_cmp value_key_cmp v l.key) (Some l.bytes)) (get-empty value_key_cmp v) ∙ ap (λ b. cond b (Some l.bytes) None) (sym (value_key_cmp_ties v l.key))
value_with v (Some a) l = get-insert value_key_cmp_total a.values l.key l.bytes v ∙ ap (λ b. cond b (Some l.bytes) (fin.get a.values v)) (sym (value_key_cmp_ties v l.key))

pub spelled_line : (xs : StoredAttributes) (l : KeyedLine) (k : Attr) → spelled_in (fin.get (with_line xs l) k) ≡ cond (is_line_of k l) (or_spelled (spelled_in (fin.get xs k)) l.description.spelling) (spelled_in (fin.get xs k))
spelled_line xs l k = ap spelled_in (get_put xs l.description.key (with_value (fin.get xs l.description.key) l) k) ∙ by (is_line_of k l) refl
  where
    by : (b : Bool) → is_line_of k l ≡ b → spelled_in (cond b (Some (with_value (fin.get xs l.description.key) l)) (fin.get xs k)) ≡ cond b (or_spelled (spelled_in (fin.get xs k)) l.description.spelling) (spelled_in (fin.get xs k))
    by false e = refl
    by true e = spelled_with (fin.get xs l.description.key) l ∙ ap (λ j. or_spelled (spelled_in (fin.get xs j)) l.description.spelling) (sym ((attr_eq_decides k l.description.key).0 e))

pub value_line : (xs : StoredAttributes) (l : KeyedLine) (k : Attr) (v : ValueKey) → value_in v (fin.get (with_line xs l) k) ≡ cond (gives_value k v l) (Some l.bytes) (value_in v (fin.get xs k))
value_line xs l k v = ap (value_in v) (get_put xs l.description.key (with_value (fin.get xs l.description.key) l) k) ∙ by (is_line_of k l) refl
  where
    by : (b : Bool) → is_line_of k l ≡ b → value_in v (cond b (Some (with_value (fin.get xs l.description.key) l)) (fin.get xs k)) ≡ cond (b && has_value_key v l) (Some l.bytes) (value_in v (fin.get xs k))
    by false e = refl
    by true e = value_with v (fin.get xs l.description.key) l ∙ ap (λ j. cond (has_value_key v l) (Some l.bytes) (value_in v (fin.get xs j))) (sym ((attr_eq_decides k l.description.key).0 e))

-- ---- all lines

first_of_some : (s : List ℕ) (ls : List KeyedLine) → first_spelled (Some s) ls ≡ Some s
first_of_some s [] = refl
first_of_some s (l ∷ ls) = refl

first_stays : (s : Option (List ℕ)) (t : List ℕ) (ls : List KeyedLine) → first_spelled (or_spelled s t) ls ≡ or_spelled s t
first_stays None t ls = first_of_some t ls
first_stays (Some s) t ls = first_of_some s ls

pub spelled_all : (xs : StoredAttributes) (ls : List KeyedLine) (k : Attr) → spelled_in (fin.get (with_lines xs ls) k) ≡ first_spelled (spelled_in (fin.get xs k)) (filter (is_line_of k) ls)
spelled_all xs [] k = refl
spelled_all xs (l ∷ ls) k = spelled_all (with_line xs l) ls k ∙ ap (λ s. first_spelled s (filter (is_line_of k) ls)) (spelled_line xs l k) ∙ by (is_line_of k l)
  where
    by : (b : Bool) → first_spelled (cond b (or_spelled (spelled_in (fin.get xs k)) l.description.spelling) (spelled_in (fin.get xs k))) (filter (is_line_of k) ls) ≡ first_spelled (spelled_in (fin.get xs k)) (cond b (l ∷ filter (is_line_of k) ls) (filter (is_line_of k) ls))
    by true = first_stays (spelled_in (fin.get xs k)) l.description.spelling (filter (is_line_of k) ls)
    by false = refl

pub value_all : (xs : StoredAttributes) (ls : List KeyedLine) (k : Attr) (v : ValueKey) → value_in v (fin.get (with_lines xs ls) k) ≡ last_value (value_in v (fin.get xs k)) (filter (gives_value k v) ls)
value_all xs [] k v = refl
value_all xs (l ∷ ls) k v = value_all (with_line xs l) ls k v ∙ ap (λ s. last_value s (filter (gives_value k v) ls)) (value_line xs l k v) ∙ by (gives_value k v l)
  where
    by : (b : Bool) → last_value (cond b (Some l.bytes) (value_in v (fin.get xs k))) (filter (gives_value k v) ls) ≡ last_value (value_in v (fin.get xs k)) (cond b (l ∷ filter (gives_value k v) ls) (filter (gives_value k v) ls))
    by true = refl
    by false = refl

-- ---- descriptions first

spelled_description : (xs : StoredAttributes) (d : Described) (k : Attr) → spelled_in (fin.get (with_description xs d) k) ≡ cond (attr_eq k d.key) (or_spelled (spelled_in (fin.get xs k)) d.spelling) (spelled_in (fin.get xs k))
spelled_description xs d k = by (fin.get xs d.key) refl (attr_eq k d.key) refl
  where
    same : attr_eq k d.key ≡ true → k ≡ d.key
    same e = (attr_eq_decides k d.key).0 e

    by : (o : Option Stored) → fin.get xs d.key ≡ o → (b : Bool) → attr_eq k d.key ≡ b → spelled_in (fin.get (cond (is_some o) xs (fin.insert xs d.key (record { spelling = d.spelling; values = fin.empty }))) k) ≡ cond b (or_spelled (spelled_in (fin.get xs k)) d.spelling) (spelled_in (fin.get xs k))
    by (Some a) t false e = refl
    by (Some a) t true e =
        let here : fin.get xs k ≡ Some a = ap (fin.get xs) (same e) ∙ t in
        ap spelled_in here ∙ sym (ap (λ o. or_spelled (spelled_in o) d.spelling) here)
    by None t b e =
        ap spelled_in (get_put xs d.key (record { spelling = d.spelling; values = fin.empty }) k) ∙ ap (λ c. spelled_in (cond c (Some (record { spelling = d.spelling; values = fin.empty })) (fin.get xs k))) e ∙ last b e
      where
        last : (b : Bool) → attr_eq k d.key ≡ b → spelled_in (cond b (Some (record { spelling = d.spelling; values = fin.empty })) (fin.get xs k)) ≡ cond b (or_spelled (spelled_in (fin.get xs k)) d.spelling) (spelled_in (fin.get xs k))
        last false e = refl
        last true e = sym (ap (λ o. or_spelled (spelled_in o) d.spelling) (ap (fin.get xs) (same e) ∙ t))

value_description : (xs : StoredAttributes) (d : Described) (k : Attr) (v : ValueKey) → value_in v (fin.get xs k) ≡ None → value_in v (fin.get (with_description xs d) k) ≡ None
value_description xs d k v none = by (fin.contains_key xs d.key)
  where
    by : (b : Bool) → value_in v (fin.get (cond b xs (fin.insert xs d.key (record { spelling = d.spelling; values = fin.empty }))) k) ≡ None
    by true = none
    by false = ap (value_in v) (get_put xs d.key (record { spelling = d.spelling; values = fin.empty }) k) ∙ last (attr_eq k d.key)
      where
        last : (b : Bool) → value_in v (cond b (Some (record { spelling = d.spelling; values = fin.empty })) (fin.get xs k)) ≡ None
        last false = none
        last true = get-empty value_key_cmp v

spelled_declared : (xs : StoredAttributes) (ls : List KeyedLine) (k : Attr) → spelled_in (fin.get (with_descriptions xs ls) k) ≡ first_spelled (spelled_in (fin.get xs k)) (filter (is_line_of k) ls)
spelled_declared xs [] k = refl
spelled_declared xs (l ∷ ls) k = spelled_declared (with_description xs l.description) ls k ∙ ap (λ s. first_spelled s (filter (is_line_of k) ls)) (spelled_description xs l.description k) ∙ by (is_line_of k l)
  where
    by : (b : Bool) → first_spelled (cond b (or_spelled (spelled_in (fin.get xs k)) l.description.spelling) (spelled_in (fin.get xs k))) (filter (is_line_of k) ls) ≡ first_spelled (spelled_in (fin.get xs k)) (cond b (l ∷ filter (is_line_of k) ls) (filter (is_line_of k) ls))
    by true = first_stays (spelled_in (fin.get xs k)) l.description.spelling (filter (is_line_of k) ls)
    by false = refl

value_declared : (xs : StoredAttributes) (ls : List KeyedLine) (k : Attr) (v : ValueKey) → value_in v (fin.get xs k) ≡ None → value_in v (fin.get (with_descriptions xs ls) k) ≡ None
value_declared xs [] k v none = none
value_declared xs (l ∷ ls) k v none = value_declared (with_description xs l.description) ls k v (value_description xs l.description k v none)

-- ---- values given twice

abbrev none_given : StoredAttributes → List KeyedLine → Bool
none_given xs ls = list_all (λ l. not (has_value xs l.description.key l.key)) ls

attr_eq_turned : (a b : Attr) → attr_eq a b ≡ attr_eq b a
attr_eq_turned a b = by (attr_eq a b) refl (attr_eq b a) refl
  where
    by : (s : Bool) → attr_eq a b ≡ s → (t : Bool) → attr_eq b a ≡ t → s ≡ t
    by true e true f = refl
    by false e false f = refl
    by true e false f = sym (sym f ∙ (attr_eq_decides b a).1 (sym ((attr_eq_decides a b).0 e)))
    by false e true f = sym e ∙ (attr_eq_decides a b).1 (sym ((attr_eq_decides b a).0 f))

value_eq_turned : (a b : ValueKey) → value_key_eq a b ≡ value_key_eq b a
value_eq_turned a b = by (value_key_eq a b) refl (value_key_eq b a) refl
  where
    by : (s : Bool) → value_key_eq a b ≡ s → (t : Bool) → value_key_eq b a ≡ t → s ≡ t
    by true e true f = refl
    by false e false f = refl
    by true e false f = sym (sym f ∙ (value_key_eq_decides b a).1 (sym ((value_key_eq_decides a b).0 e)))
    by false e true f = sym e ∙ (value_key_eq_decides a b).1 (sym ((value_key_eq_decides b a).0 f))

-- the values that are there after a line
pub has_after : (xs : StoredAttributes) (l m : KeyedLine) → has_value (with_line xs l) m.description.key m.key ≡ give_same_value l m || has_value xs m.description.key m.key
has_after xs l m =
    has_as_value m.key (fin.get (with_line xs l) m.description.key)
    ∙ ap is_some (value_line xs l m.description.key m.key)
    ∙ by (gives_value m.description.key m.key l)
    ∙ (λ i. (attr_eq_turned m.description.key l.description.key i && value_eq_turned m.key l.key i) || (sym (has_as_value m.key (fin.get xs m.description.key))) i)
  where
    by : (b : Bool) → is_some (cond b (Some l.bytes) (value_in m.key (fin.get xs m.description.key))) ≡ b || is_some (value_in m.key (fin.get xs m.description.key))
    by true = refl
    by false = refl

free_rest : (xs : StoredAttributes) (l : KeyedLine) (ms : List KeyedLine) → none_given (with_line xs l) ms ≡ not (list_any (give_same_value l) ms) && none_given xs ms
free_rest xs l [] = refl
free_rest xs l (m ∷ ms) = (λ i. not (has_after xs l m i) && free_rest xs l ms i) ∙ by (give_same_value l m) (has_value xs m.description.key m.key) (list_any (give_same_value l) ms) (none_given xs ms)
  where
    by : (a h r n : Bool) → (not (a || h) && (not r && n)) ≡ (not (a || r) && (not h && n))
    by true h r n = refl
    by false true true n = refl
    by false true false n = refl
    by false false true n = refl
    by false false false n = refl

free_apart : (xs : StoredAttributes) (ls : List KeyedLine) → have_new_values xs ls ≡ give_distinct_values ls && none_given xs ls
free_apart xs [] = refl
free_apart xs (l ∷ ls) =
    ap (λ b. not (has_value xs l.description.key l.key) && b) (free_apart (with_line xs l) ls ∙ ap (λ b. give_distinct_values ls && b) (free_rest xs l ls))
    ∙ by (has_value xs l.description.key l.key) (give_distinct_values ls) (list_any (give_same_value l) ls) (none_given xs ls)
  where
    by : (h p r n : Bool) → (not h && (p && (not r && n))) ≡ ((not r && p) && (not h && n))
    by true true true n = refl
    by true true false n = refl
    by true false true n = refl
    by true false false n = refl
    by false true true n = refl
    by false true false n = refl
    by false false true n = refl
    by false false false n = refl

and_true : (b : Bool) → (b && true) ≡ b
and_true true = refl
and_true false = refl

nothing_given : (xs : StoredAttributes) (ls : List KeyedLine) → ((k : Attr) (v : ValueKey) → value_in v (fin.get xs k) ≡ None) → none_given xs ls ≡ true
nothing_given xs [] none = refl
nothing_given xs (l ∷ ls) none = λ i. not ((has_as_value l.key (fin.get xs l.description.key) ∙ ap is_some (none l.description.key l.key)) i) && nothing_given xs ls none i

pub free_of_empty : (xs : StoredAttributes) (ls : List KeyedLine) → ((k : Attr) (v : ValueKey) → value_in v (fin.get xs k) ≡ None) → have_new_values xs ls ≡ give_distinct_values ls
free_of_empty xs ls none = free_apart xs ls ∙ ap (λ b. give_distinct_values ls && b) (nothing_given xs ls none) ∙ and_true (give_distinct_values ls)

-- no two in the list
abbrev pub few : {A : Type 0} → List A → Bool
few [] = true
few (x ∷ []) = true
few (x ∷ y ∷ ys) = false

any_none : {A : Type 0} (p : A → Bool) (ls : List A) → list_any p ls ≡ false → filter p ls ≡ []
any_none p [] e = refl
any_none p (l ∷ ls) e = by (any_none p ls) (p l) e
  where
    by : (list_any p ls ≡ false → filter p ls ≡ []) → (b : Bool) → (b || list_any p ls) ≡ false → cond b (l ∷ filter p ls) (filter p ls) ≡ []
    by rest true h = absurd (true≢false h)
    by rest false h = rest h

none_any : {A : Type 0} (p : A → Bool) (ls : List A) → filter p ls ≡ [] → list_any p ls ≡ false
none_any p [] e = refl
none_any p (l ∷ ls) e = by (none_any p ls) (p l) e
  where
    by : (filter p ls ≡ [] → list_any p ls ≡ false) → (b : Bool) → cond b (l ∷ filter p ls) (filter p ls) ≡ [] → (b || list_any p ls) ≡ false
    by rest true h = absurd (cc)
    by rest false h = rest h

pub given_same : (k : Attr) (v : ValueKey) (l : KeyedLine) → gives_value k v l ≡ true → (k ≡ l.description.key) × (v ≡ l.key)
given_same k v l e = by (is_line_of k l) refl (has_value_key v l) refl e
  where
    by : (a : Bool) → is_line_of k l ≡ a → (b : Bool) → has_value_key v l ≡ b → (a && b) ≡ true → (k ≡ l.description.key) × (v ≡ l.key)
    by true s true t h = ((attr_eq_decides k l.description.key).0 s, (value_key_eq_decides v l.key).0 t)
    by true s false t h = absurd (true≢false (sym h))
    by false s b t h = absurd (true≢false (sym h))

pub given_itself : (l : KeyedLine) → give_same_value l l ≡ true
given_itself l = λ i. (attr_eq_decides l.description.key l.description.key).1 refl i && (value_key_eq_decides l.key l.key).1 refl i

and_left : (a b : Bool) → (a && b) ≡ true → a ≡ true
and_left true b e = refl
and_left false b e = e

and_right : (a b : Bool) → (a && b) ≡ true → b ≡ true
and_right true b e = e
and_right false b e = absurd (true≢false (sym e))

not_true : (a : Bool) → not a ≡ true → a ≡ false
not_true true e = sym e
not_true false e = refl

pub apart_few : (ls : List KeyedLine) → give_distinct_values ls ≡ true → (k : Attr) (v : ValueKey) → few (filter (gives_value k v) ls) ≡ true
apart_few [] e k v = refl
apart_few (l ∷ ls) e k v = by (apart_few ls (and_right (not (list_any (give_same_value l) ls)) (give_distinct_values ls) e) k v) (gives_value k v l) refl
  where
    by : few (filter (gives_value k v) ls) ≡ true → (b : Bool) → gives_value k v l ≡ b → few (cond b (l ∷ filter (gives_value k v) ls) (filter (gives_value k v) ls)) ≡ true
    by rest false t = rest
    by rest true t =
        let same = given_same k v l t in
        let none : filter (gives_value k v) ls ≡ [] = (λ i. filter (gives_value (same.0 i) (same.1 i)) ls) ∙ any_none (give_same_value l) ls (not_true _ (and_left (not (list_any (give_same_value l) ls)) (give_distinct_values ls) e)) in
        ap (λ ms. few (l ∷ ms)) none

pub few_tail : {A : Type 0} (x : A) (xs : List A) → few (x ∷ xs) ≡ true → xs ≡ []
few_tail x [] e = refl
few_tail x (y ∷ ys) e = absurd (true≢false (sym e))

few_rest : {A : Type 0} (b : Bool) (x : A) (xs : List A) → few (cond b (x ∷ xs) xs) ≡ true → few xs ≡ true
few_rest false x xs e = e
few_rest true x xs e = ap few (few_tail x xs e)

pub few_apart : (ls : List KeyedLine) → ((k : Attr) (v : ValueKey) → few (filter (gives_value k v) ls) ≡ true) → give_distinct_values ls ≡ true
few_apart [] h = refl
few_apart (l ∷ ls) h =
    let one : few (l ∷ filter (give_same_value l) ls) ≡ true = ap (λ b. few (cond b (l ∷ filter (give_same_value l) ls) (filter (give_same_value l) ls))) (sym (given_itself l)) ∙ h l.description.key l.key in
    let none : list_any (give_same_value l) ls ≡ false = none_any (give_same_value l) ls (few_tail l (filter (give_same_value l) ls) one) in
    λ i. not (none i) && few_apart ls (λ k v. few_rest (gives_value k v l) l (filter (gives_value k v) ls) (h k v)) i

same_apart : (ls ms : List KeyedLine) → ((k : Attr) (v : ValueKey) → filter (gives_value k v) ls ≡ filter (gives_value k v) ms) → give_distinct_values ls ≡ give_distinct_values ms
same_apart ls ms h = by (give_distinct_values ls) refl (give_distinct_values ms) refl
  where
    by : (a : Bool) → give_distinct_values ls ≡ a → (b : Bool) → give_distinct_values ms ≡ b → a ≡ b
    by true e true f = refl
    by false e false f = refl
    by true e false f = sym (sym f ∙ few_apart ms (λ k v. ap few (sym (h k v)) ∙ apart_few ls e k v))
    by false e true f = sym e ∙ few_apart ls (λ k v. ap few (h k v) ∙ apart_few ms f k v)

-- ---- the lines by description and then by value

filter_both : {A : Type 0} (p q : A → Bool) (xs : List A) → filter (λ x. p x && q x) xs ≡ filter p (filter q xs)
filter_both p q [] = refl
filter_both p q (x ∷ xs) = by (filter_both p q xs) (p x) refl (q x)
  where
    by : filter (λ x. p x && q x) xs ≡ filter p (filter q xs) → (a : Bool) → p x ≡ a → (b : Bool) → cond (a && b) (x ∷ filter (λ x. p x && q x) xs) (filter (λ x. p x && q x) xs) ≡ filter p (cond b (x ∷ filter q xs) (filter q xs))
    by rest true s true = ap (λ ys. x ∷ ys) rest ∙ sym (ap (λ b. cond b (x ∷ filter p (filter q xs)) (filter p (filter q xs))) s)
    by rest false s true = rest ∙ sym (ap (λ b. cond b (x ∷ filter p (filter q xs)) (filter p (filter q xs))) s)
    by rest true s false = rest
    by rest false s false = rest

filter_turned : {A : Type 0} (p q : A → Bool) (xs : List A) → filter (λ x. p x && q x) xs ≡ filter q (filter p xs)
filter_turned p q xs = (λ i. filter (λ x. and_comm (p x) (q x) i) xs) ∙ filter_both q p xs
  where
    and_comm : (a b : Bool) → (a && b) ≡ (b && a)
    and_comm true true = refl
    and_comm true false = refl
    and_comm false true = refl
    and_comm false false = refl

nothing_under : (k : Attr) (ls : List KeyedLine) → ((v : ValueKey) → filter (gives_value k v) ls ≡ []) → filter (is_line_of k) ls ≡ []
nothing_under k [] h = refl
nothing_under k (l ∷ ls) h = by (nothing_under k ls) (is_line_of k l) refl
  where
    none : is_line_of k l ≡ false → (v : ValueKey) → filter (gives_value k v) ls ≡ []
    none e v = ap (λ b. cond (b && has_value_key v l) (l ∷ filter (gives_value k v) ls) (filter (gives_value k v) ls)) (sym e) ∙ h v

    by : (((v : ValueKey) → filter (gives_value k v) ls ≡ []) → filter (is_line_of k) ls ≡ []) → (b : Bool) → is_line_of k l ≡ b → cond b (l ∷ filter (is_line_of k) ls) (filter (is_line_of k) ls) ≡ []
    by rest false e = rest (none e)
    by rest true e =
        let there : l ∷ filter (gives_value k l.key) ls ≡ [] = (λ i. cond (sym e i && sym ((value_key_eq_decides l.key l.key).1 refl) i) (l ∷ filter (gives_value k l.key) ls) (filter (gives_value k l.key) ls)) ∙ h l.key in
        absurd (cc)

pub arranged_as_is : (ls : List KeyedLine) → IsArranged ls fin.empty ls
arranged_as_is ls = (refl, free_of_empty fin.empty ls (λ k v. ap (value_in v) (get-empty attr_cmp k)))

pub arranged_sorted : (all one two : List KeyedLine) → ((k : Attr) → filter (is_line_of k) one ≡ filter (is_line_of k) all) → ((v : ValueKey) → filter (has_value_key v) two ≡ filter (has_value_key v) one) → IsArranged all (with_descriptions fin.empty one) two
arranged_sorted all one two by_description by_value = (same_map attr_cmp_total attr_cmp_exact _ _ (λ k. same_stored _ _ (spelled k) (valued k)), free_of_empty xs two none ∙ same_apart two all given)
  where
    xs : StoredAttributes
    xs = with_descriptions fin.empty one

    none : (k : Attr) (v : ValueKey) → value_in v (fin.get xs k) ≡ None
    none k v = value_declared fin.empty one k v (ap (value_in v) (get-empty attr_cmp k))

    given : (k : Attr) (v : ValueKey) → filter (gives_value k v) two ≡ filter (gives_value k v) all
    given k v =
        filter_both (is_line_of k) (has_value_key v) two
        ∙ ap (filter (is_line_of k)) (by_value v)
        ∙ sym (filter_both (is_line_of k) (has_value_key v) one)
        ∙ filter_turned (is_line_of k) (has_value_key v) one
        ∙ ap (filter (has_value_key v)) (by_description k)
        ∙ sym (filter_turned (is_line_of k) (has_value_key v) all)

    valued : (k : Attr) (v : ValueKey) → value_in v (fin.get (with_lines xs two) k) ≡ value_in v (fin.get (with_lines fin.empty all) k)
    valued k v =
        value_all xs two k v
        ∙ (λ i. last_value (none k v i) (given k v i))
        ∙ ap (λ b. last_value b (filter (gives_value k v) all)) (sym (ap (value_in v) (get-empty attr_cmp k)))
        ∙ sym (value_all fin.empty all k v)

    spelled : (k : Attr) → spelled_in (fin.get (with_lines xs two) k) ≡ spelled_in (fin.get (with_lines fin.empty all) k)
    spelled k =
        spelled_all xs two k
        ∙ ap (λ s. first_spelled s (filter (is_line_of k) two)) (spelled_declared fin.empty one k ∙ (λ i. first_spelled (spelled_in (get-empty attr_cmp k i)) (by_description k i)))
        ∙ by (filter (is_line_of k) all) refl
        ∙ ap (λ s. first_spelled (spelled_in s) (filter (is_line_of k) all)) (sym (get-empty attr_cmp k))
        ∙ sym (spelled_all fin.empty all k)
      where
        by : (fs : List KeyedLine) → filter (is_line_of k) all ≡ fs → first_spelled (first_spelled None fs) (filter (is_line_of k) two) ≡ first_spelled None fs
        by (l ∷ fs) e = first_of_some l.description.spelling (filter (is_line_of k) two)
        by [] e = ap (first_spelled None) (nothing_under k two (λ v. given k v ∙ filter_turned (is_line_of k) (has_value_key v) all ∙ ap (filter (has_value_key v)) e))
