-- A list in pieces: what an edit of one piece, or of the row of pieces, does to the whole list.
--     insert_in, set_in, remove_in      an edit in one piece, exchanged for `x`, is that edit of the whole list
--     flat_map-remove_empty             an empty piece may be taken out
--     flat_map-split                    a piece may be made two
use Rattle.std.proofs.Common.{◌≡◌, ℕ, suc, ◌+◌, ◌-◌, ◌<◌, ◌≤◌, List, [], ◌∷◌, ◌++◌, length, get_or, set, take, drop, refl, sym, ap, ◌∙◌, arith, add-one}
use Rattle.std.specs.List.{flat_map, insert, remove}
use Rattle.std.proofs.lemmas.List.{append-nil, append_assoc, length-append, set_split, set-get_or, set-append_left, set-append_right, take-append-drop, take_more_set, drop-set-lt}
use Rattle.std.proofs.lemmas.List.Concat.{flat_map-append, get_or-flat_map}
use Rattle.std.proofs.lemmas.List.Edits.{insert-append_left, insert-append_right, remove-append_left, remove-append_right}

module _ {X A : Type 0} (f : X → List A) where
  -- what comes before a piece, and what comes after it
  abbrev pub before : List X → ℕ → List A
  before ps p = flat_map f (take p ps)

  abbrev pub after : List X → ℕ → List A
  after ps p = flat_map f (drop (suc p) ps)

  pub flat_map-set : (ps : List X) (p : ℕ) (x : X) → p < length ps → flat_map f (set ps p x) ≡ before ps p ++ (f x ++ after ps p)
  flat_map-set ps p x h = ap (flat_map f) (set_split ps p x h) ∙ flat_map-append f (take p ps) (x ∷ drop (suc p) ps)

  pub flat_map_at : (ps : List X) (p : ℕ) (d : X) → p < length ps → flat_map f ps ≡ before ps p ++ (f (get_or ps p d) ++ after ps p)
  flat_map_at ps p d h = ap (flat_map f) (sym (set-get_or ps p d)) ∙ flat_map-set ps p (get_or ps p d) h

  pub length-before : (ps : List X) (p : ℕ) (d : X) → p < length ps → length (before ps p) + length (f (get_or ps p d)) ≤ length (flat_map f ps)
  length-before ps p d h =
      let e = ap length (flat_map_at ps p d h) ∙ length-append (before ps p) (f (get_or ps p d) ++ after ps p) in
      omega (arith, e, length-append (f (get_or ps p d)) (after ps p))

  pub length-front : (ps : List X) (p : ℕ) → length (before ps p) ≤ length (flat_map f ps)
  length-front ps p =
      let e = ap (λ qs. length (flat_map f qs)) (sym (take-append-drop p ps)) ∙ ap length (flat_map-append f (take p ps) (drop p ps)) ∙ length-append (before ps p) (flat_map f (drop p ps)) in
      omega (arith, e)

  pub get_in : (ps : List X) (p i at : ℕ) (d : X) (e : A) → p < length ps → i < length (f (get_or ps p d)) → at ≡ length (before ps p) + i → get_or (flat_map f ps) at e ≡ get_or (f (get_or ps p d)) i e
  get_in ps p i at d e h l is = ap (λ n. get_or (flat_map f ps) n e) is ∙ get_or-flat_map f ps p i d e h l

  module _ (ps : List X) (p i at : ℕ) (d x : X) (h : p < length ps) (is : at ≡ length (before ps p) + i) where
    right : at - length (before ps p) ≡ i
    right = omega arith

    far : length (before ps p) ≤ at
    far = omega arith

    pub insert_in : (a : A) → i ≤ length (f (get_or ps p d)) → f x ≡ insert (f (get_or ps p d)) i a → flat_map f (set ps p x) ≡ insert (flat_map f ps) at a
    insert_in a l e =
        let old = f (get_or ps p d) in
        flat_map-set ps p x h ∙ ap (λ w. before ps p ++ (w ++ after ps p)) e
        ∙ sym (ap (λ w. insert w at a) (flat_map_at ps p d h)
        ∙ insert-append_right (before ps p) (old ++ after ps p) (length (before ps p)) at a refl far
        ∙ ap (λ n. before ps p ++ insert (old ++ after ps p) n a) right
        ∙ ap (λ w. before ps p ++ w) (insert-append_left old (after ps p) i a l))

    pub set_in : (a : A) → i < length (f (get_or ps p d)) → f x ≡ set (f (get_or ps p d)) i a → flat_map f (set ps p x) ≡ set (flat_map f ps) at a
    set_in a l e =
        let old = f (get_or ps p d) in
        flat_map-set ps p x h ∙ ap (λ w. before ps p ++ (w ++ after ps p)) e
        ∙ sym (ap (λ w. set w at a) (flat_map_at ps p d h)
        ∙ set-append_right (before ps p) (old ++ after ps p) (length (before ps p)) at a refl far
        ∙ ap (λ n. before ps p ++ set (old ++ after ps p) n a) right
        ∙ ap (λ w. before ps p ++ w) (set-append_left old (after ps p) i a l))

    pub remove_in : i < length (f (get_or ps p d)) → f x ≡ remove (f (get_or ps p d)) i → flat_map f (set ps p x) ≡ remove (flat_map f ps) at
    remove_in l e =
        let old = f (get_or ps p d) in
        flat_map-set ps p x h ∙ ap (λ w. before ps p ++ (w ++ after ps p)) e
        ∙ sym (ap (λ w. remove w at) (flat_map_at ps p d h)
        ∙ remove-append_right (before ps p) (old ++ after ps p) (length (before ps p)) at refl far
        ∙ ap (λ n. before ps p ++ remove (old ++ after ps p) n) right
        ∙ ap (λ w. before ps p ++ w) (remove-append_left old (after ps p) i l))

  pub flat_map-remove_empty : (ps : List X) (p : ℕ) (d : X) → p < length ps → f (get_or ps p d) ≡ [] → flat_map f (remove ps p) ≡ flat_map f ps
  flat_map-remove_empty ps p d h e =
      flat_map-append f (take p ps) (drop (suc p) ps) ∙ sym (flat_map_at ps p d h ∙ ap (λ w. before ps p ++ (w ++ after ps p)) e)

  module _ (ps : List X) (p : ℕ) (d front back : X) (h : p < length ps) (cut : f front ++ f back ≡ f (get_or ps p d)) where
    -- what comes before the second part
    pub before-split : flat_map f (take (p + 1) (set ps p front)) ≡ before ps p ++ f front
    before-split = ap (flat_map f) (take_more_set ps p front h) ∙ flat_map-append f (take p ps) (front ∷ []) ∙ ap (λ w. before ps p ++ w) (append-nil (f front))

    pub flat_map-split : flat_map f (insert (set ps p front) (p + 1) back) ≡ flat_map f ps
    flat_map-split =
        let rest : drop (p + 1) (set ps p front) ≡ drop (suc p) ps = drop-set-lt (p + 1) ps p front (omega arith) ∙ ap (λ n. drop n ps) (add-one p) in
        flat_map-append f (take (p + 1) (set ps p front)) (back ∷ drop (p + 1) (set ps p front))
        ∙ (λ i. before-split i ++ (f back ++ flat_map f (rest i)))
        ∙ append_assoc (before ps p) (f front) (f back ++ after ps p)
        ∙ ap (λ w. before ps p ++ w) (sym (append_assoc (f front) (f back) (after ps p)) ∙ ap (λ w. w ++ after ps p) cut)
        ∙ sym (flat_map_at ps p d h)
