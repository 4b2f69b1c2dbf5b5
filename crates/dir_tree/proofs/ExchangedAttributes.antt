-- One attribute's values in place of as many others in a list of values.
use Rattle.std.proofs.Common.{◌≡◌, ◌≢◌, Bool, true, false, cond, ℕ, zero, suc, ◌-◌, ◌<◌, ◌≤◌, List, [], ◌∷◌, ◌++◌, map, length, get_or, set, take, drop, IsTrue, refl, sym, ap, subst, ◌∙◌, ⊎_elim, arith, Ok}
use Rattle.std.specs.FinMap as fin
use Rattle.std.specs.List.{All}
use Rattle.std.proofs.lemmas.List.{append_assoc, get_or-map, length-append, length-drop, length-take, map-id, take-append-drop}
use Rattle.std.proofs.lemmas.Slice.{drop-append-drop}
use Rattle.std.proofs.lemmas.Bool.{cases_order}
use Rattle.std.proofs.lemmas.Simd.{map-map}
use Rattle.dir_names.specs.Orders.{attr_cmp, attr_cmp_total}
use Rattle.dir_names.specs.Sorted.{place}
use Rattle.dir_names.specs.declared.value.ValueKey.{ValueKey}
use Rattle.dir_names.specs.Values.{value_key_cmp, value_key_cmp_total, value_key_cmp_exact}
use Rattle.dir_tree.specs.declared.packed.PackedAttribute.{PackedAttribute}
use Rattle.dir_tree.specs.Inside.Packed.{IsAlone, IsApart, IsPacked, packed_attribute, part_of}
use Rattle.dir_tree.specs.Inside.Stored.{are_rising, attribute_pair, attributes_in, attributes_rise, values_in}
use Rattle.dir_tree.specs.Content.{Keyed}
use Rattle.dir_tree.proofs.SortedVecs.{keys_in, put_over, rises_over}
use Rattle.dir_tree.proofs.PackedLists.{entries_rise, map_again, part-append, part-appended}

-- ---- a part of a list, and as many items in its place

module _ {A : Type 0} (xs new : List A) (s e : ℕ) (below : s ≤ e) (fits : e ≤ length xs) (as_many : length new ≡ e - s) where
  abbrev pub exchanged : List A
  exchanged = (take s xs ++ new) ++ drop e xs

  pub exchanged_is : (part_of xs 0 s ++ new) ++ drop e xs ≡ exchanged
  exchanged_is = ap (λ n. (take n xs ++ new) ++ drop e xs) (let all : s - 0 ≡ s = omega arith in all)

  first_length : length (take s xs) ≡ s
  first_length = omega (arith, length-take s xs)

  head_length : length (take s xs ++ new) ≡ e
  head_length = omega (arith, length-append (take s xs) new, first_length, as_many)

  pub length-exchanged : length exchanged ≡ length xs
  length-exchanged = omega (arith, length-append (take s xs ++ new) (drop e xs), head_length, length-drop e xs)

  pub exchanged_before : (a b : ℕ) → b ≤ s → part_of exchanged a b ≡ part_of xs a b
  exchanged_before a b h =
      ap (λ all. part_of all a b) (append_assoc (take s xs) new (drop e xs))
      ∙ part-append (take s xs) (new ++ drop e xs) a b (omega (arith, first_length))
      ∙ sym (part-append (take s xs) (drop s xs) a b (omega (arith, first_length)))
      ∙ ap (λ all. part_of all a b) (take-append-drop s xs)

  pub exchanged_after : (a b : ℕ) → e ≤ a → part_of exchanged a b ≡ part_of xs a b
  exchanged_after a b h = ap (take (b - a)) (drop-append-drop e xs (take s xs ++ new) a h head_length)

  pub exchanged_here : part_of exchanged s e ≡ new
  exchanged_here =
      part-append (take s xs ++ new) (drop e xs) s e (omega (arith, head_length))
      ∙ part-appended (take s xs) new s e (sym first_length) (sym head_length)

-- ---- a function that is changed at one item of a list

module _ {A B : Type 0} (f g : A → B) where
  all_same : (xs : List A) → ((i : ℕ) (d : A) → i < length xs → g (get_or xs i d) ≡ f (get_or xs i d)) → map g xs ≡ map f xs
  all_same [] same = refl
  all_same (x ∷ xs) same = λ i. same 0 x (omega arith) i ∷ all_same xs (λ k d below. same (suc k) d (omega (arith, below))) i

  pub map-changed : (y : B) (xs : List A) (at : ℕ) → at < length xs → ((d : A) → g (get_or xs at d) ≡ y) → ((i : ℕ) (d : A) → i < length xs → i ≢ at → g (get_or xs i d) ≡ f (get_or xs i d)) → map g xs ≡ set (map f xs) at y
  map-changed y [] at h here same = absurd (omega (arith, h))
  map-changed y (x ∷ xs) zero h here same = λ i. here x i ∷ all_same xs (λ k d below. same (suc k) d (omega (arith, below)) (λ e. absurd (omega (arith, e)))) i
  map-changed y (x ∷ xs) (suc at) h here same = λ i. same 0 x (omega arith) (λ e. absurd (omega (arith, e))) i ∷ map-changed y xs at (omega (arith, h)) here (λ k d below other. same (suc k) d (omega (arith, below)) (λ e. other (omega (arith, e)))) i

-- ---- an attribute in place of one of a packed entry

-- an attribute with as many values is to come in the place of one whose own values are no others'
pub record Exchanges (common own : List (ValueKey × List ℕ)) (attributes : List PackedAttribute) (at : ℕ) (a : PackedAttribute) (x : Keyed) : Type 0 where
  pub within : at < length attributes
  pub there : (d : PackedAttribute) → get_or attributes at d ≡ a
  pub packed : All (IsPacked common own) attributes
  pub alone : IsAlone a at attributes
  pub described : a.description ≡ record { spelling = x.stored.spelling; key = x.key }
  pub as_many : length (fin.entries x.stored.values) ≡ a.end - a.start

module _ (common own : List (ValueKey × List ℕ)) (attributes : List PackedAttribute) (at : ℕ) (a : PackedAttribute) (x : Keyed) (e : Exchanges common own attributes at a x) where
  abbrev pub own_now : List (ValueKey × List ℕ)
  own_now = (take a.start own ++ fin.entries x.stored.values) ++ drop a.end own

  fits_own : a.end ≤ length own
  fits_own = let p : IsPacked common own a = subst (IsPacked common own) (e.there a) (e.packed at a e.within) in omega (arith, p.0, ap (λ b. length (cond b common own)) e.alone.0)

  pub own_is : (part_of own 0 a.start ++ fin.entries x.stored.values) ++ drop a.end own ≡ own_now
  own_is = exchanged_is own (fin.entries x.stored.values) a.start a.end e.alone.1 fits_own e.as_many

  other_part : (b : PackedAttribute) → IsApart a b → part_of (cond b.is_common common own_now) b.start b.end ≡ part_of (cond b.is_common common own) b.start b.end
  other_part b apart =
      ⊎_elim
      (λ is_common. ap (λ c. part_of (cond c common own_now) b.start b.end) is_common ∙ sym (ap (λ c. part_of (cond c common own) b.start b.end) is_common))
      (λ own_values. by_kind b.is_common (⊎_elim (exchanged_before own (fin.entries x.stored.values) a.start a.end e.alone.1 fits_own e.as_many b.start b.end) (exchanged_after own (fin.entries x.stored.values) a.start a.end e.alone.1 fits_own e.as_many b.start b.end) own_values))
      apart
    where
      by_kind : (c : Bool) → part_of own_now b.start b.end ≡ part_of own b.start b.end → part_of (cond c common own_now) b.start b.end ≡ part_of (cond c common own) b.start b.end
      by_kind true same = refl
      by_kind false same = same

  length_kept : (c : Bool) → length (cond c common own_now) ≡ length (cond c common own)
  length_kept true = refl
  length_kept false = length-exchanged own (fin.entries x.stored.values) a.start a.end e.alone.1 fits_own e.as_many

  here_part : part_of (cond a.is_common common own_now) a.start a.end ≡ fin.entries x.stored.values
  here_part = ap (λ c. part_of (cond c common own_now) a.start a.end) e.alone.0 ∙ exchanged_here own (fin.entries x.stored.values) a.start a.end e.alone.1 fits_own e.as_many

  here_is : packed_attribute common own_now a ≡ x
  here_is =
      let values : values_in (part_of (cond a.is_common common own_now) a.start a.end) ≡ x.stored.values = ap values_in here_part ∙ ap (λ es. fin.from_sorted {R = value_key_cmp} es) (map-id (fin.entries x.stored.values)) ∙ map_again value_key_cmp_total value_key_cmp_exact x.stored.values in
      λ i. record { key = (e.described i).key; stored = record { spelling = (e.described i).spelling; values = values i } }

  pub attributes_exchanged : map (packed_attribute common own_now) attributes ≡ set (map (packed_attribute common own) attributes) at x
  attributes_exchanged =
      map-changed (packed_attribute common own) (packed_attribute common own_now) x attributes at e.within
      (λ d. ap (packed_attribute common own_now) (e.there d) ∙ here_is)
      (λ k d below other. ap (λ part. record { key = (get_or attributes k d).description.key; stored = record { spelling = (get_or attributes k d).description.spelling; values = values_in part } }) (other_part (get_or attributes k d) (e.alone.2 k d below other)))

  pub packed_exchanged : All (IsPacked common own_now) attributes
  packed_exchanged k d below = ⊎_elim same (λ other. different (⊎_elim (λ less is_at. absurd (omega (arith, less, is_at))) (λ more is_at. absurd (omega (arith, more, is_at))) other)) (cases_order k at)
    where
      before : IsPacked common own (get_or attributes k d)
      before = e.packed k d below

      inside : (get_or attributes k d).end ≤ length (cond (get_or attributes k d).is_common common own_now)
      inside = omega (arith, before.0, length_kept (get_or attributes k d).is_common)

      different : k ≢ at → IsPacked common own_now (get_or attributes k d)
      different other = (inside, ap are_rising (other_part (get_or attributes k d) (e.alone.2 k d below other)) ∙ before.1)

      same : k ≡ at → IsPacked common own_now (get_or attributes k d)
      same is_at =
          let is_a : get_or attributes k d ≡ a = ap (λ n. get_or attributes n d) is_at ∙ e.there d in
          subst (IsPacked common own_now) (sym is_a) (omega (arith, ap (λ b. b.end) (sym is_a), ap (λ b. length (cond b.is_common common own_now)) (sym is_a), subst (λ b. b.end ≤ length (cond b.is_common common own_now)) is_a inside), ap are_rising here_part ∙ entries_rise x.stored.values)

  module _ (in_order : IsTrue (attributes_rise (map (packed_attribute common own) attributes))) (placed : place attr_cmp x.key (map (λ b. b.description.key) attributes) ≡ Ok at) where
    place_is : Ok at ≡ place attr_cmp x.key (keys_in attr_cmp_total attribute_pair (map (packed_attribute common own) attributes))
    place_is = sym placed ∙ ap (place attr_cmp x.key) (sym (map-map (λ b. (attribute_pair b).0) (packed_attribute common own) attributes))

    same_key : x.key ≡ (attribute_pair (get_or (map (packed_attribute common own) attributes) at x)).0
    same_key = ap (λ d. d.key) (sym e.described) ∙ ap (λ b. b.description.key) (sym (e.there a)) ∙ ap (λ b. b.key) (sym (get_or-map (packed_attribute common own) attributes at a x e.within))

    pub map_exchanged : attributes_in (map (packed_attribute common own_now) attributes) ≡ fin.insert (attributes_in (map (packed_attribute common own) attributes)) x.key x.stored
    map_exchanged = ap attributes_in attributes_exchanged ∙ sym (put_over attr_cmp_total attribute_pair (map (packed_attribute common own) attributes) in_order x.key (Ok at) place_is at refl x same_key)

    pub rise_exchanged : IsTrue (attributes_rise (map (packed_attribute common own_now) attributes))
    rise_exchanged = ap attributes_rise attributes_exchanged ∙ rises_over attr_cmp_total attribute_pair (map (packed_attribute common own) attributes) in_order x.key (Ok at) place_is at refl x same_key
