-- Parts of lists, and values in a text that grows.
use Rattle.std.proofs.Common.{◌≡◌, min, Bool, true, false, cond, ℕ, zero, suc, slice_get, ◌-◌, ◌<◌, ◌≤◌, List, [], ◌∷◌, ◌++◌, map, length, get_or, take, drop, IsTrue, T, refl, sym, ap, subst, ◌∙◌, ⊎_elim, arith}
use Rattle.std.specs.declared.cmp.Ordering.{Ordering}
use Rattle.std.specs.Cmp.{IsTotalOrder}
use Rattle.std.specs.FinMap as fin
use Rattle.std.specs.FinMap.{IsAntisymmetric, same_map, get-entries, get-from_sorted, entries_sorted}
use Rattle.std.specs.List.{All, insert}
use Rattle.std.proofs.lemmas.List.{drop_all, drop-map, take-map, drop-append-le, take-append-le, append-nil, length-drop, length-append, map-append, map-id}
use Rattle.std.proofs.lemmas.List.Elements.{All-tail, All-cons, All-append}
use Rattle.std.proofs.lemmas.List.Sorted.{All-permutation, IsPermutation-insert}
use Rattle.std.proofs.lemmas.Bool.{cases_lt}
use Rattle.std.proofs.Math.Seq.{drop-append_seam, take-length}
use Rattle.dir_names.specs.Keys.{DnKeys}
use Rattle.dir_names.specs.declared.value.ValueKey.{ValueKey}
use Rattle.dir_names.specs.declared.value.ValueKey.TheVariants as value_key
use Rattle.dir_tree.specs.declared.packed.PackedKey.{PackedKey}
use Rattle.dir_tree.specs.declared.packed.PackedKey.TheVariants as packed_key
use Rattle.dir_tree.specs.declared.packed.PackedValue.{PackedValue}
use Rattle.dir_tree.specs.declared.packed.PackedAttribute.{PackedAttribute}
use Rattle.dir_tree.specs.Inside.Packed.{IsInside, IsKeyInside, IsPacked, key_in, name_or_none, packed_attribute, packed_value, part_of}
use Rattle.dir_tree.specs.Content.{Keyed, StoredValues}
use Rattle.dir_tree.specs.Inside.Stored.{are_rising, value_pair, values_in}
use Rattle.dir_tree.proofs.SortedVecs.{truth}
use Rattle.dir_names.specs.Sorted.{rises}
use Rattle.dir_names.specs.Values.{value_key_cmp, value_key_cmp_total, value_key_cmp_exact}
use Rattle.dir_names.proofs.Placed.{is_sorted-keys, keys_of}

pub part-map : {A B : Type 0} (f : A → B) (xs : List A) (a b : ℕ) → part_of (map f xs) a b ≡ map f (part_of xs a b)
part-map f xs a b = ap (take (b - a)) (drop-map f a xs) ∙ take-map f (b - a) (drop a xs)

take_none : {A : Type 0} (n : ℕ) (xs : List A) → n ≡ 0 → take n xs ≡ []
take_none n xs e = ap (λ k. take k xs) e

-- a part of a list is the same part of a longer one
pub part-append : {A : Type 0} (xs ys : List A) (a b : ℕ) → b ≤ length xs → part_of (xs ++ ys) a b ≡ part_of xs a b
part-append xs ys a b h = ⊎_elim outside inside (cases_lt b a)
  where
    outside : b < a → part_of (xs ++ ys) a b ≡ part_of xs a b
    outside above = let none : b - a ≡ 0 = omega arith in take_none (b - a) (drop a (xs ++ ys)) none ∙ sym (take_none (b - a) (drop a xs) none)

    inside : a ≤ b → part_of (xs ++ ys) a b ≡ part_of xs a b
    inside below =
        let begins : a ≤ length xs = omega arith in
        let fits : b - a ≤ length (drop a xs) = omega (arith, length-drop a xs) in
        ap (take (b - a)) (drop-append-le a xs ys begins) ∙ take-append-le (b - a) (drop a xs) ys fits

-- what follows an index in a list, as a part up to its end
pub part-after : {A : Type 0} (xs : List A) (start from : ℕ) → from ≡ min start (length xs) → take (length xs - from) (drop from xs) ≡ drop start xs
part-after xs start from e = ap (λ n. take n (drop from xs)) (sym (length-drop from xs)) ∙ take-length (drop from xs) ∙ same
  where
    same : drop from xs ≡ drop start xs
    same = ⊎_elim (λ above. ap (λ n. drop n xs) (let is : from ≡ length xs = omega (arith, e, above) in is) ∙ drop_all (length xs) xs (omega arith) ∙ sym (drop_all start xs (omega (arith, above)))) (λ below. ap (λ n. drop n xs) (let is : from ≡ start = omega (arith, e, below) in is)) (cases_lt (length xs) start)

-- what is appended to a list is its last part
pub part-appended : {A : Type 0} (xs ys : List A) (a b : ℕ) → a ≡ length xs → b ≡ length (xs ++ ys) → part_of (xs ++ ys) a b ≡ ys
part-appended xs ys a b from to =
    let size : b - a ≡ length ys = omega (arith, from, to, length-append xs ys) in
    ap (λ n. take (b - a) (drop n (xs ++ ys))) from ∙ ap (take (b - a)) (drop-append_seam xs ys) ∙ ap (λ n. take n ys) size ∙ take-length ys

-- an item of a list is the same item of a longer one
pub get-append : {A : Type 0} (xs ys : List A) (i : ℕ) → i < length xs → slice_get (xs ++ ys) i ≡ slice_get xs i
get-append [] ys i h = absurd (omega (arith, h))
get-append (x ∷ xs) ys zero h = refl
get-append (x ∷ xs) ys (suc i) h = get-append xs ys i (omega (arith, h))

-- ---- values in a text that grows, with names that grow

module _ (text more : List ℕ) (names others : List DnKeys) where
  key-append : (start end : ℕ) (key : PackedKey) → end ≤ length text → IsKeyInside text names key → key_in (text ++ more) (names ++ others) start end key ≡ key_in text names start end key
  key-append start end packed_key.Same h k = ap value_key.Text (part-append text more start end h)
  key-append start end (packed_key.Text to) h k = ap value_key.Text (part-append text more end to k)
  key-append start end (packed_key.Name at) h k = ap name_or_none (get-append names others at k)

  pub key-inside : (key : PackedKey) → IsKeyInside text names key → IsKeyInside (text ++ more) (names ++ others) key
  key-inside packed_key.Same k = tt
  key-inside (packed_key.Text to) k = omega (arith, k, length-append text more)
  key-inside (packed_key.Name at) k = omega (arith, k, length-append names others)

  pub value-append : (v : PackedValue) → IsInside text names v → packed_value (text ++ more) (names ++ others) v ≡ packed_value text names v
  value-append v h = λ i. (key-append v.start v.end v.key h.0 h.1 i, part-append text more v.start v.end h.0 i)

  pub inside-append : (v : PackedValue) → IsInside text names v → IsInside (text ++ more) (names ++ others) v
  inside-append v h = (omega (arith, h.0, length-append text more), key-inside v.key h.1)

  pub values-append : (vs : List PackedValue) → All (IsInside text names) vs → map (packed_value (text ++ more) (names ++ others)) vs ≡ map (packed_value text names) vs
  values-append [] h = refl
  values-append (v ∷ vs) h = λ i. value-append v (h 0 v (omega arith)) i ∷ values-append vs (All-tail (IsInside text names) v vs h) i

  pub all_inside-append : (vs : List PackedValue) → All (IsInside text names) vs → All (IsInside (text ++ more) (names ++ others)) vs
  all_inside-append vs h = λ k d below. inside-append (get_or vs k d) (h k d below)

-- values, and one more in the text and with the names that have grown by it
module _ (text new : List ℕ) (names all : List DnKeys) (vs : List PackedValue) (v : PackedValue) (grown : (more : List ℕ) × (new ≡ text ++ more)) (named : (others : List DnKeys) × (all ≡ names ++ others)) (h : All (IsInside text names) vs) where
  pub values-push : (value : ValueKey × List ℕ) → packed_value new all v ≡ value → map (packed_value new all) (vs ++ v ∷ []) ≡ map (packed_value text names) vs ++ value ∷ []
  values-push value is =
      map-append (packed_value new all) vs (v ∷ [])
      ∙ (λ i. map (packed_value (grown.1 i) (named.1 i)) vs ++ packed_value new all v ∷ [])
      ∙ ap (λ front. front ++ packed_value new all v ∷ []) (values-append text grown.0 names named.0 vs h)
      ∙ ap (λ last. map (packed_value text names) vs ++ last ∷ []) is

  pub values-insert : (at : ℕ) (value : ValueKey × List ℕ) → packed_value new all v ≡ value → map (packed_value new all) (insert vs at v) ≡ insert (map (packed_value text names) vs) at value
  values-insert at value is =
      map-append (packed_value new all) (take at vs) (v ∷ drop at vs)
      ∙ (λ i. sym (take-map (packed_value new all) at vs) i ++ is i ∷ sym (drop-map (packed_value new all) at vs) i)
      ∙ ap (λ all_values. take at all_values ++ value ∷ drop at all_values) ((λ i. map (packed_value (grown.1 i) (named.1 i)) vs) ∙ values-append text grown.0 names named.0 vs h)

  pub inside-insert : (at : ℕ) → IsInside new all v → All (IsInside new all) (insert vs at v)
  inside-insert at last =
      let before : All (IsInside (text ++ grown.0) (names ++ named.0)) vs = all_inside-append text grown.0 names named.0 vs h in
      let here : All (IsInside new all) vs = subst (λ t. All (IsInside t all) vs) (sym grown.1) (subst (λ ns. All (IsInside (text ++ grown.0) ns) vs) (sym named.1) before) in
      All-permutation (IsInside new all) (v ∷ vs) (insert vs at v) (IsPermutation-insert vs at v) (All-cons (IsInside new all) v vs last here)

  pub inside-push : IsInside new all v → All (IsInside new all) (vs ++ v ∷ [])
  inside-push last =
      let before : All (IsInside (text ++ grown.0) (names ++ named.0)) vs = all_inside-append text grown.0 names named.0 vs h in
      let here : All (IsInside new all) vs = subst (λ t. All (IsInside t all) vs) (sym grown.1) (subst (λ ns. All (IsInside (text ++ grown.0) ns) vs) (sym named.1) before) in
      All-append (IsInside new all) vs (v ∷ []) here (All-cons (IsInside new all) v [] last (λ k d below. absurd (omega (arith, below))))

-- the keys of values in a text
pub keys-packed : (text : List ℕ) (names : List DnKeys) (vs : List PackedValue) → map (λ v. (packed_value text names v).0) vs ≡ map (λ value. (value_pair value).0) (map (packed_value text names) vs)
keys-packed text names [] = refl
keys-packed text names (v ∷ vs) = ap (λ ks. (packed_value text names v).0 ∷ ks) (keys-packed text names vs)

-- ---- attributes over lists of values that grow

cond-append : {A : Type 0} (b : Bool) (xs more ys others : List A) → cond b (xs ++ more) (ys ++ others) ≡ cond b xs ys ++ cond b more others
cond-append true xs more ys others = refl
cond-append false xs more ys others = refl

module _ (common more own others : List (ValueKey × List ℕ)) where
  grown : (a : PackedAttribute) → cond a.is_common (common ++ more) (own ++ others) ≡ cond a.is_common common own ++ cond a.is_common more others
  grown a = cond-append a.is_common common more own others

  same_part : (a : PackedAttribute) → IsPacked common own a → part_of (cond a.is_common (common ++ more) (own ++ others)) a.start a.end ≡ part_of (cond a.is_common common own) a.start a.end
  same_part a h = ap (λ values. part_of values a.start a.end) (grown a) ∙ part-append (cond a.is_common common own) (cond a.is_common more others) a.start a.end h.0

  attribute-append : (a : PackedAttribute) → IsPacked common own a → packed_attribute (common ++ more) (own ++ others) a ≡ packed_attribute common own a
  attribute-append a h = ap (λ part. record { key = a.description.key; stored = record { spelling = a.description.spelling; values = values_in part } }) (same_part a h)

  packed-append : (a : PackedAttribute) → IsPacked common own a → IsPacked (common ++ more) (own ++ others) a
  packed-append a h = (omega (arith, h.0, ap length (grown a), length-append (cond a.is_common common own) (cond a.is_common more others)), ap are_rising (same_part a h) ∙ h.1)

  attributes-append : (attrs : List PackedAttribute) → All (IsPacked common own) attrs → map (packed_attribute (common ++ more) (own ++ others)) attrs ≡ map (packed_attribute common own) attrs
  attributes-append [] h = refl
  attributes-append (a ∷ attrs) h = λ i. attribute-append a (h 0 a (omega arith)) i ∷ attributes-append attrs (All-tail (IsPacked common own) a attrs h) i

  all_packed-append : (attrs : List PackedAttribute) → All (IsPacked common own) attrs → All (IsPacked (common ++ more) (own ++ others)) attrs
  all_packed-append attrs h = λ k d below. packed-append (get_or attrs k d) (h k d below)

-- ---- an attribute more

-- the entries of a map make it again
pub map_again : {K X : Type 0} {R : K → K → Ordering} → IsTotalOrder R → IsAntisymmetric R → (m : fin.FinMap R X) → fin.from_sorted (fin.entries m) ≡ m
map_again {R} o exact m = same_map o exact _ _ (λ q. get-from_sorted R (fin.entries m) q (entries_sorted m) ∙ sym (get-entries m q))

keys-entries : (es : List (ValueKey × List ℕ)) → keys_of value_key_cmp es ≡ map (λ value. (value_pair value).0) es
keys-entries [] = refl
keys-entries (e ∷ es) = ap (λ ks. e.0 ∷ ks) (keys-entries es)

-- the entries of a map rise
pub entries_rise : (m : StoredValues) → IsTrue (are_rising (fin.entries m))
entries_rise m = truth (subst T (is_sorted-keys value_key_cmp (fin.entries m) ∙ ap (rises value_key_cmp) (keys-entries (fin.entries m))) (entries_sorted m))

-- some values were added, to those that many entries have or to the entry's own, and are between two indices
pub record Added (common own new : List (ValueKey × List ℕ)) (is_common : Bool) (common_now own_now : List (ValueKey × List ℕ)) (start end : ℕ) : Type 0 where
  pub common_is : common_now ≡ common ++ cond is_common new []
  pub own_is : own_now ≡ own ++ cond is_common [] new
  pub from : start ≡ length (cond is_common common own)
  pub to : end ≡ length (cond is_common common_now own_now)

pub added_common : (common own new now : List (ValueKey × List ℕ)) (start end : ℕ) → now ≡ common ++ new → start ≡ length common → end ≡ length now → Added common own new true now own start end
added_common common own new now start end is from to = record { common_is = is; own_is = sym (append-nil own); from = from; to = to }

pub added_own : (common own new now : List (ValueKey × List ℕ)) (start end : ℕ) → now ≡ own ++ new → start ≡ length own → end ≡ length now → Added common own new false common now start end
added_own common own new now start end is from to = record { common_is = sym (append-nil common); own_is = is; from = from; to = to }

cond-either : {A : Type 0} (b : Bool) (xs : List A) → cond b (cond b xs []) (cond b [] xs) ≡ xs
cond-either true xs = refl
cond-either false xs = refl

module _ (common own common_now own_now : List (ValueKey × List ℕ)) (a : PackedAttribute) (x : Keyed) (added : Added common own (fin.entries x.stored.values) a.is_common common_now own_now a.start a.end) where
  abbrev more : List (ValueKey × List ℕ)
  more = cond a.is_common (fin.entries x.stored.values) []

  abbrev others : List (ValueKey × List ℕ)
  others = cond a.is_common [] (fin.entries x.stored.values)

  around : cond a.is_common common_now own_now ≡ cond a.is_common common own ++ fin.entries x.stored.values
  around =
      (λ i. cond a.is_common (added.common_is i) (added.own_is i))
      ∙ grown common more own others a
      ∙ ap (λ new. cond a.is_common common own ++ new) (cond-either a.is_common (fin.entries x.stored.values))

  last : part_of (cond a.is_common common_now own_now) a.start a.end ≡ fin.entries x.stored.values
  last = ap (λ values. part_of values a.start a.end) around ∙ part-appended (cond a.is_common common own) (fin.entries x.stored.values) a.start a.end added.from (added.to ∙ ap length around)

  last_values : values_in (part_of (cond a.is_common common_now own_now) a.start a.end) ≡ x.stored.values
  last_values = ap values_in last ∙ ap (λ es. fin.from_sorted {R = value_key_cmp} es) (map-id (fin.entries x.stored.values)) ∙ map_again value_key_cmp_total value_key_cmp_exact x.stored.values

  pub attributes-push : (attrs : List PackedAttribute) → All (IsPacked common own) attrs → a.description ≡ record { spelling = x.stored.spelling; key = x.key } → map (packed_attribute common_now own_now) (attrs ++ a ∷ []) ≡ map (packed_attribute common own) attrs ++ x ∷ []
  attributes-push attrs h described =
      map-append (packed_attribute common_now own_now) attrs (a ∷ [])
      ∙ (λ i. map (packed_attribute (added.common_is i) (added.own_is i)) attrs ++ packed_attribute common_now own_now a ∷ [])
      ∙ ap (λ front. front ++ packed_attribute common_now own_now a ∷ []) (attributes-append common more own others attrs h)
      ∙ (λ i. map (packed_attribute common own) attrs ++ record { key = (described i).key; stored = record { spelling = (described i).spelling; values = last_values i } } ∷ [])

  pub packed-push : (attrs : List PackedAttribute) → All (IsPacked common own) attrs → All (IsPacked common_now own_now) (attrs ++ a ∷ [])
  packed-push attrs h =
      let before : All (IsPacked (common ++ more) (own ++ others)) attrs = all_packed-append common more own others attrs h in
      let now : All (IsPacked common_now own_now) attrs = subst (λ values. All (IsPacked values own_now) attrs) (sym added.common_is) (subst (λ values. All (IsPacked (common ++ more) values) attrs) (sym added.own_is) before) in
      let here : IsPacked common_now own_now a = (omega (arith, added.to), ap are_rising last ∙ entries_rise x.stored.values) in
      All-append (IsPacked common_now own_now) attrs (a ∷ []) now (All-cons (IsPacked common_now own_now) a [] here (λ k d below. absurd (omega (arith, below))))
