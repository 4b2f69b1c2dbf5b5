-- A key's place in a list in pieces: its place in the piece to which it belongs, after all pieces before it.
use Rattle.std.proofs.Common.{◌≡◌, ◌≢◌, ℕ, zero, suc, ◌+◌, ◌-◌, ◌<◌, ◌≤◌, Bool, T, List, [], ◌∷◌, ◌++◌, map, length, get_or, take, Result, Ok, Err, refl, sym, ap, subst, ◌∙◌, arith, zero-add, add-zero}
use Rattle.std.specs.declared.cmp.Ordering.{Ordering}
use Rattle.std.specs.declared.cmp.Ordering.TheVariants.{Less, Equal, Greater}
use Rattle.std.specs.Ordering.{is_lt, match_ordering, ordering_reverse}
use Rattle.std.specs.Cmp.{IsTotalOrder}
use Rattle.std.specs.List.{flat_map, list_all}
use Rattle.std.proofs.lemmas.List.{append-nil, get_or-append_right, length-append, take_more}
use Rattle.std.proofs.lemmas.List.Concat.{flat_map-append}
use Rattle.dir_names.specs.Sorted.{rises, place, later}
use Rattle.dir_names.proofs.Placed.{both, first, second}
use Rattle.dir_tree.specs.Inside.Pieces.{after_elements}
use Rattle.dir_tree.proofs.Pieced.{before, after, flat_map_at}

less : (o : Ordering) → T (is_lt o) → o ≡ Less
less Less p = refl
less Equal p = absurd p
less Greater p = absurd p

shift_none : (r : Result ℕ ℕ) → r ≡ after_elements 0 r
shift_none (Ok i) = ap (λ n. Ok n) (sym (zero-add i))
shift_none (Err i) = ap (λ n. Err n) (sym (zero-add i))

later_shift : (n : ℕ) (r : Result ℕ ℕ) → later (after_elements n r) ≡ after_elements (suc n) r
later_shift n (Ok i) = ap (λ n. Ok n) (omega arith)
later_shift n (Err i) = ap (λ n. Err n) (omega arith)

module _ {I K : Type 0} {R : K → K → Ordering} (o : IsTotalOrder R) (key : I → K) where
  all_at : (p : K → Bool) (xs : List I) (i : ℕ) (d : I) → i < length xs → T (list_all p (map key xs)) → T (p (key (get_or xs i d)))
  all_at p [] i d h t = absurd (omega arith)
  all_at p (x ∷ xs) zero d h t = first (p (key x)) _ t
  all_at p (x ∷ xs) (suc i) d h t = all_at p xs i d (omega arith) (second (p (key x)) _ t)

  all_left : (p : K → Bool) (xs ys : List I) → T (list_all p (map key (xs ++ ys))) → T (list_all p (map key xs))
  all_left p [] ys t = tt
  all_left p (x ∷ xs) ys t = both _ _ (first (p (key x)) _ t) (all_left p xs ys (second (p (key x)) _ t))

  pub rises_left : (xs ys : List I) → T (rises R (map key (xs ++ ys))) → T (rises R (map key xs))
  rises_left [] ys t = tt
  rises_left (x ∷ xs) ys t = both _ _ (all_left (λ z. is_lt (R (key x) z)) xs ys (first _ _ t)) (rises_left xs ys (second _ _ t))

  pub rises_right : (xs ys : List I) → T (rises R (map key (xs ++ ys))) → T (rises R (map key ys))
  rises_right [] ys t = t
  rises_right (x ∷ xs) ys t = rises_right xs ys (second _ _ t)

  module _ (k : K) where
    greater : (x : K) → R x k ≡ Less → R k x ≡ Greater
    greater x e = o.antisymm k x ∙ ap ordering_reverse e

    -- a list that ends below the key: the key's place is after it
    pub skip : (xs ys : List I) (d : I) → T (rises R (map key xs)) → ((i : ℕ) → suc i ≡ length xs → R (key (get_or xs i d)) k ≡ Less) → place R k (map key (xs ++ ys)) ≡ after_elements (length xs) (place R k (map key ys))
    skip [] ys d t ends = shift_none _
    skip (x ∷ xs) ys d t ends =
        ap (λ r. match_ordering r (Err 0) (Ok 0) (later (place R k (map key (xs ++ ys))))) (greater (key x) (head xs ends (first _ _ t)))
        ∙ ap later (skip xs ys d (second _ _ t) (λ i e. ends (suc i) (ap suc e)))
        ∙ later_shift (length xs) (place R k (map key ys))
      where
        head : (zs : List I) → ((i : ℕ) → suc i ≡ length (x ∷ zs) → R (key (get_or (x ∷ zs) i d)) k ≡ Less) → T (list_all (λ z. is_lt (R (key x) z)) (map key zs)) → R (key x) k ≡ Less
        head [] last t = last 0 refl
        head (z ∷ zs) last t = o.trans (key x) (key (get_or (z ∷ zs) (length zs) d)) k (less _ (all_at (λ y. is_lt (R (key x) y)) (z ∷ zs) (length zs) d (omega arith) t)) (last (suc (length zs)) refl)

    -- a list that doesn't end below the key: the key's place is in it
    pub stop : (xs ys : List I) (d : I) (i : ℕ) → suc i ≡ length xs → R (key (get_or xs i d)) k ≢ Less → place R k (map key (xs ++ ys)) ≡ place R k (map key xs)
    stop [] ys d i e n = absurd (omega arith)
    stop (x ∷ []) ys d (suc i) e n = absurd (omega arith)
    stop (x ∷ []) ys d zero e n = by (R k (key x)) refl
      where
        by : (r : Ordering) → R k (key x) ≡ r → match_ordering r (Err 0) (Ok 0) (later (place R k (map key ys))) ≡ match_ordering r (Err 0) (Ok 0) (later (Err 0))
        by Less q = refl
        by Equal q = refl
        by Greater q = absurd (n (o.antisymm (key x) k ∙ ap ordering_reverse q))
    stop (x ∷ y ∷ xs) ys d zero e n = absurd (omega arith)
    stop (x ∷ y ∷ xs) ys d (suc i) e n = ap (λ r. match_ordering (R k (key x)) (Err 0) (Ok 0) (later r)) (stop (y ∷ xs) ys d i (omega arith) n)

    module _ {X : Type 0} (f : X → List I) where
      -- if the piece at `q` ends below the key, so does the list up to its end
      pub ends_before : (ps : List X) (q : ℕ) (d : X) → q < length ps → 0 < length (f (get_or ps q d)) → ((e : I) → R (key (get_or (f (get_or ps q d)) (length (f (get_or ps q d)) - 1) e)) k ≡ Less) →
          (e : I) (i : ℕ) → suc i ≡ length (before f ps (q + 1)) → R (key (get_or (before f ps (q + 1)) i e)) k ≡ Less
      ends_before ps q d h some below e i last =
          let x = get_or ps q d in
          let parts : before f ps (q + 1) ≡ before f ps q ++ f x = ap (flat_map f) (take_more ps q d h) ∙ flat_map-append f (take q ps) (x ∷ []) ∙ ap (λ w. before f ps q ++ w) (append-nil (f x)) in
          let size : suc i ≡ length (before f ps q) + length (f x) = last ∙ ap length parts ∙ length-append (before f ps q) (f x) in
          let far : length (before f ps q) ≤ i = omega arith in
          let back : i - length (before f ps q) ≡ length (f x) - 1 = omega arith in
          ap (λ w. R (key (get_or w i e)) k) parts
          ∙ ap (λ a. R (key a) k) (get_or-append_right (before f ps q) (f x) (length (before f ps q)) i e refl far ∙ ap (λ n. get_or (f x) n e) back)
          ∙ below e

      pub place_in : (ps : List X) (p : ℕ) (d : X) (e : I) → T (rises R (map key (flat_map f ps))) → p < length ps → 0 < length (f (get_or ps p d)) →
          ((i : ℕ) → suc i ≡ length (before f ps p) → R (key (get_or (before f ps p) i e)) k ≡ Less) → R (key (get_or (f (get_or ps p d)) (length (f (get_or ps p d)) - 1) e)) k ≢ Less →
          place R k (map key (flat_map f ps)) ≡ after_elements (length (before f ps p)) (place R k (map key (f (get_or ps p d))))
      place_in ps p d e t h some ends not_below =
          let values = f (get_or ps p d) in
          let whole = flat_map_at f ps p d h in
          let t' : T (rises R (map key (before f ps p ++ (values ++ after f ps p)))) = subst (λ xs. T (rises R (map key xs))) whole t in
          ap (λ xs. place R k (map key xs)) whole
          ∙ skip (before f ps p) (values ++ after f ps p) e (rises_left (before f ps p) (values ++ after f ps p) t') ends
          ∙ ap (after_elements (length (before f ps p))) (stop values (after f ps p) e (length values - 1) (omega arith) not_below)

      pub rises_in : (ps : List X) (p : ℕ) (d : X) → T (rises R (map key (flat_map f ps))) → p < length ps → T (rises R (map key (f (get_or ps p d))))
      rises_in ps p d t h =
          let values = f (get_or ps p d) in
          let t' : T (rises R (map key (before f ps p ++ (values ++ after f ps p)))) = subst (λ xs. T (rises R (map key xs))) (flat_map_at f ps p d h) t in
          rises_left values (after f ps p) (rises_right (before f ps p) (values ++ after f ps p) t')

    pub place_after : (xs : List I) (e : I) → T (rises R (map key xs)) → ((i : ℕ) → suc i ≡ length xs → R (key (get_or xs i e)) k ≡ Less) → place R k (map key xs) ≡ Err (length xs)
    place_after xs e t ends = ap (λ ys. place R k (map key ys)) (sym (append-nil xs)) ∙ skip xs [] e t ends ∙ ap (λ n. Err n) (add-zero (length xs))
