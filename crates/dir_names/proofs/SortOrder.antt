-- The sort texts of keys are ordered as the keys are.
use Rattle.std.proofs.Common.{◌≡◌, ◌<◌, ◌≤◌, ℕ, Bool, true, false, cond, ◌&&◌, nat_lt, List, [], ◌∷◌, ◌++◌, refl, sym, ap, ◌∙◌, append_assoc, arith}
use Rattle.std.proofs.lemmas.Bool.{ltb-true, ltb-false, le-ltb}
use Rattle.std.specs.declared.cmp.Ordering.{Ordering}
use Rattle.std.specs.declared.cmp.Ordering.TheVariants.{Less, Equal, Greater}
use Rattle.std.specs.List.{flat_map, list_all}
use Rattle.std.specs.Ordering.{nat_cmp, ordering_then, is_eq}
use Rattle.std.specs.Cmp.{nat_cmp_is}
use Rattle.std.specs.Cmp.Lexicographic.{slice_cmp}
use Rattle.dir_names.specs.Attr.{Attr}
use Rattle.dir_names.specs.Keys.{DnKeys}
use Rattle.dir_names.specs.Orders.{bytes_cmp, bytes_eq, bytes_cmp_ties, texts_cmp, pair_cmp, rdn_key_cmp, dn_key_cmp, dn_key_eq, dn_key_cmp_ties}
use Rattle.dir_names.specs.Inside.SortTexts.{marked_byte, text_sort, list_sort, pair_sort, rdn_sort, name_sort}

-- what follows two texts counts only if they tie
abbrev Sorts : {A : Type 0} → (A → List ℕ) → (A → A → Ordering) → Type 0
Sorts {A} f R = (x y : A) (s t : List ℕ) → bytes_cmp (f x ++ s) (f y ++ t) ≡ ordering_then (R x y) (bytes_cmp s t)

pub then_assoc : (a b c : Ordering) → ordering_then a (ordering_then b c) ≡ ordering_then (ordering_then a b) c
then_assoc Less b c = refl
then_assoc Equal b c = refl
then_assoc Greater b c = refl

below : (x y : ℕ) → x < y → nat_cmp x y ≡ Less
below x y lt = sym (nat_cmp_is x y Less lt)

above : (x y : ℕ) → y < x → nat_cmp x y ≡ Greater
above x y lt = sym (nat_cmp_is x y Greater lt)

abbrev marks : Bool → ℕ → List ℕ
marks is_rdn_within_limit b = cond is_rdn_within_limit (1 ∷ b ∷ []) (b ∷ [])

heads : (p q : Bool) (a b : ℕ) → nat_lt a 2 ≡ p → nat_lt b 2 ≡ q → (s t : List ℕ) → bytes_cmp (marks p a ++ s) (marks q b ++ t) ≡ ordering_then (nat_cmp a b) (bytes_cmp s t)
heads true true a b e f s t = refl
heads true false a b e f s t =
    let small : a < 2 = ltb-true a 2 e in
    let large : 2 ≤ b = ltb-false b 2 f in
    let one : 1 < b = omega arith in
    let lt : a < b = omega arith in
    (λ i. ordering_then (below 1 b one i) (bytes_cmp (a ∷ s) t)) ∙ sym (λ i. ordering_then (below a b lt i) (bytes_cmp s t))
heads false true a b e f s t =
    let large : 2 ≤ a = ltb-false a 2 e in
    let small : b < 2 = ltb-true b 2 f in
    let one : 1 < a = omega arith in
    let lt : b < a = omega arith in
    (λ i. ordering_then (above a 1 one i) (bytes_cmp s (b ∷ t))) ∙ sym (λ i. ordering_then (above a b lt i) (bytes_cmp s t))
heads false false a b e f s t = refl

-- an end comes before each byte
end_first : (q : Bool) (b : ℕ) → nat_lt b 2 ≡ q → (s t : List ℕ) → bytes_cmp (0 ∷ s) (marks q b ++ t) ≡ Less
end_first true b e s t = refl
end_first false b e s t =
    let large : 2 ≤ b = ltb-false b 2 e in
    let lt : 0 < b = omega arith in
    λ i. ordering_then (below 0 b lt i) (bytes_cmp s t)

end_last : (p : Bool) (a : ℕ) → nat_lt a 2 ≡ p → (s t : List ℕ) → bytes_cmp (marks p a ++ s) (0 ∷ t) ≡ Greater
end_last true a e s t = refl
end_last false a e s t =
    let large : 2 ≤ a = ltb-false a 2 e in
    let lt : 0 < a = omega arith in
    λ i. ordering_then (above a 0 lt i) (bytes_cmp s t)

text_front : (b : ℕ) (bs s : List ℕ) → text_sort (b ∷ bs) ++ s ≡ marked_byte b ++ (text_sort bs ++ s)
text_front b bs s = ap (λ l. l ++ s) (append_assoc (marked_byte b) (flat_map marked_byte bs) (0 ∷ [])) ∙ append_assoc (marked_byte b) (text_sort bs) s

text_sorts : Sorts text_sort bytes_cmp
text_sorts [] [] s t = refl
text_sorts [] (b ∷ bs) s t = ap (λ l. bytes_cmp (0 ∷ s) l) (text_front b bs t) ∙ end_first (nat_lt b 2) b refl s (text_sort bs ++ t)
text_sorts (a ∷ xs) [] s t = ap (λ l. bytes_cmp l (0 ∷ t)) (text_front a xs s) ∙ end_last (nat_lt a 2) a refl (text_sort xs ++ s) t
text_sorts (a ∷ xs) (b ∷ bs) s t =
    (λ i. bytes_cmp (text_front a xs s i) (text_front b bs t i)) ∙ heads (nat_lt a 2) (nat_lt b 2) a b refl refl (text_sort xs ++ s) (text_sort bs ++ t)
    ∙ ap (ordering_then (nat_cmp a b)) (text_sorts xs bs s t) ∙ then_assoc (nat_cmp a b) (bytes_cmp xs bs) (bytes_cmp s t)

module _ {A : Type 0} (f : A → List ℕ) (R : A → A → Ordering) (sorts : Sorts f R) where
  front : (x : A) (xs : List A) (s : List ℕ) → list_sort f (x ∷ xs) ++ s ≡ 1 ∷ (f x ++ (list_sort f xs ++ s))
  front x xs s = ap (λ l. 1 ∷ (l ++ s)) (append_assoc (f x) (flat_map (λ y. 1 ∷ f y) xs) (0 ∷ [])) ∙ ap (λ l. 1 ∷ l) (append_assoc (f x) (list_sort f xs) s)

  list_sorts : Sorts (list_sort f) (slice_cmp R)
  list_sorts [] [] s t = refl
  list_sorts [] (y ∷ ys) s t = refl
  list_sorts (x ∷ xs) [] s t = refl
  list_sorts (x ∷ xs) (y ∷ ys) s t =
      (λ i. bytes_cmp (front x xs s i) (front y ys t i)) ∙ sorts x y (list_sort f xs ++ s) (list_sort f ys ++ t)
      ∙ ap (ordering_then (R x y)) (list_sorts xs ys s t) ∙ then_assoc (R x y) (slice_cmp R xs ys) (bytes_cmp s t)

  -- a list that nothing follows needs no end
  open_sorts : (xs ys : List A) → bytes_cmp (flat_map (λ x. 1 ∷ f x) xs) (flat_map (λ x. 1 ∷ f x) ys) ≡ slice_cmp R xs ys
  open_sorts [] [] = refl
  open_sorts [] (y ∷ ys) = refl
  open_sorts (x ∷ xs) [] = refl
  open_sorts (x ∷ xs) (y ∷ ys) =
      sorts x y (flat_map (λ z. 1 ∷ f z) xs) (flat_map (λ z. 1 ∷ f z) ys) ∙ ap (ordering_then (R x y)) (open_sorts xs ys)

pair_front : (p : Attr × List ℕ) (s : List ℕ) → pair_sort p ++ s ≡ text_sort p.0.attr_type ++ (list_sort text_sort p.0.options ++ (text_sort p.1 ++ s))
pair_front p s =
    append_assoc (text_sort p.0.attr_type) (list_sort text_sort p.0.options ++ text_sort p.1) s
    ∙ ap (λ l. text_sort p.0.attr_type ++ l) (append_assoc (list_sort text_sort p.0.options) (text_sort p.1) s)

pair_sorts : Sorts pair_sort pair_cmp
pair_sorts p q s t =
    let kinds = bytes_cmp p.0.attr_type q.0.attr_type in
    let options = texts_cmp p.0.options q.0.options in
    (λ i. bytes_cmp (pair_front p s i) (pair_front q t i))
    ∙ text_sorts p.0.attr_type q.0.attr_type (list_sort text_sort p.0.options ++ (text_sort p.1 ++ s)) (list_sort text_sort q.0.options ++ (text_sort q.1 ++ t))
    ∙ ap (ordering_then kinds) (list_sorts text_sort bytes_cmp text_sorts p.0.options q.0.options (text_sort p.1 ++ s) (text_sort q.1 ++ t) ∙ ap (ordering_then options) (text_sorts p.1 q.1 s t))
    ∙ then_assoc kinds options (ordering_then (bytes_cmp p.1 q.1) (bytes_cmp s t))
    ∙ then_assoc (ordering_then kinds options) (bytes_cmp p.1 q.1) (bytes_cmp s t)

pub name_sorts : (x y : DnKeys) → bytes_cmp (name_sort x) (name_sort y) ≡ dn_key_cmp x y
name_sorts x y = open_sorts rdn_sort rdn_key_cmp (list_sorts pair_sort pair_cmp pair_sorts) x y

pub name_sorts_eq : (x y : DnKeys) → bytes_eq (name_sort x) (name_sort y) ≡ dn_key_eq x y
name_sorts_eq x y = bytes_cmp_ties (name_sort x) (name_sort y) ∙ ap is_eq (name_sorts x y) ∙ sym (dn_key_cmp_ties x y)

-- a text without 0 and 1 is written as it is
pub marked_plain : (text : List ℕ) → list_all (λ b. nat_lt 1 b) text ≡ true → flat_map marked_byte text ≡ text
marked_plain [] e = refl
marked_plain (b ∷ bs) e = by (nat_lt 1 b) refl e (marked_plain bs)
  where
    by : (p : Bool) → nat_lt 1 b ≡ p → p && list_all (λ b. nat_lt 1 b) bs ≡ true → (list_all (λ b. nat_lt 1 b) bs ≡ true → flat_map marked_byte bs ≡ bs) → marked_byte b ++ flat_map marked_byte bs ≡ b ∷ bs
    by true f g rest =
        let lt : 1 < b = ltb-true 1 b f in
        let large : 2 ≤ b = omega arith in
        ap (λ p. marks p b ++ flat_map marked_byte bs) (le-ltb b 2 large) ∙ ap (λ l. b ∷ l) (rest g)
    by false f g rest = absurd (cc)
