-- Texts joined by a byte that none of them has: they are the parts of what they make, and compare as that does.
use Rattle.std.proofs.Common.{◌≡◌, ℕ, Bool, true, false, not, List, [], ◌∷◌, ◌++◌, refl, sym, ap, ◌∙◌, arith}
use Rattle.std.proofs.lemmas.Bool.{eqb-true}
use Rattle.std.proofs.lemmas.Bool.Decides.{nat_tests}
use Rattle.std.proofs.lemmas.List.{append-nil}
use Rattle.std.proofs.lemmas.List.Splits.{slice_split-cons_yes, slice_split-cons_no}
use Rattle.std.specs.declared.cmp.Ordering.TheVariants.{Less, Greater}
use Rattle.std.specs.Cmp.{nat_cmp_is}
use Rattle.std.specs.List.{flat_map, list_all, onto_first}
use Rattle.std.specs.Ordering.{nat_cmp, ordering_then, is_eq}
use Rattle.std.specs.Prelude.{◌==◌}
use Rattle.dir_names.specs.Ascii.{nul}
use Rattle.dir_names.specs.Cut.{parts_at}
use Rattle.dir_names.specs.Inside.Left.{lacks_nul}
use Rattle.dir_names.specs.Orders.{bytes_cmp, bytes_eq, bytes_cmp_ties, texts_cmp, texts_eq, texts_cmp_ties}
use Rattle.dir_names.proofs.Both.{left, right}
use Rattle.dir_names.proofs.SortOrder.{then_assoc}

abbrev is_nul : ℕ → Bool
is_nul b = b == nul

-- the parts of a text with one byte more at its front
abbrev with_front : Bool → ℕ → List (List ℕ) → List (List ℕ)
with_front true b parts = [] ∷ parts
with_front false b parts = onto_first b parts

parts-cons : (b : ℕ) (bs : List ℕ) (is : Bool) → is_nul b ≡ is → parts_at nul (b ∷ bs) ≡ with_front is b (parts_at nul bs)
parts-cons b bs true e = slice_split-cons_yes is_nul b bs e
parts-cons b bs false e = slice_split-cons_no is_nul b bs e

-- ---- there is at least one part

record Cut (parts : List (List ℕ)) : Type 0 where
  first : List ℕ
  rest : List (List ℕ)
  whole : parts ≡ first ∷ rest

cut_front : (is : Bool) (b : ℕ) (parts : List (List ℕ)) → Cut (with_front is b parts)
cut_front true b parts = record { first = []; rest = parts; whole = refl }
cut_front false b [] = record { first = b ∷ []; rest = []; whole = refl }
cut_front false b (part ∷ parts) = record { first = b ∷ part; rest = parts; whole = refl }

cut : (bs : List ℕ) → Cut (parts_at nul bs)
cut [] = record { first = []; rest = []; whole = refl }
cut (b ∷ bs) =
    let c = cut_front (is_nul b) b (parts_at nul bs) in
    record { first = c.first; rest = c.rest; whole = parts-cons b bs (is_nul b) refl ∙ c.whole }

-- ---- the order

zero_or_more : (b : ℕ) → is_nul b ≡ false → nat_cmp 0 b ≡ Less
zero_or_more b e = sym (nat_cmp_is 0 b Less (grind (arith, nat_tests)))

more_or_zero : (b : ℕ) → is_nul b ≡ false → nat_cmp b 0 ≡ Greater
more_or_zero b e = sym (nat_cmp_is b 0 Greater (grind (arith, nat_tests)))

module _ (a b : ℕ) (xs ys : List ℕ) (p q : List ℕ) (ps qs : List (List ℕ)) (rest : bytes_cmp xs ys ≡ texts_cmp (p ∷ ps) (q ∷ qs)) where
  one_more : (is_a is_b : Bool) → is_nul a ≡ is_a → is_nul b ≡ is_b → bytes_cmp (a ∷ xs) (b ∷ ys) ≡ texts_cmp (with_front is_a a (p ∷ ps)) (with_front is_b b (q ∷ qs))
  one_more true true e f =
      let first : a ≡ 0 = eqb-true a 0 e in
      let second : b ≡ 0 = eqb-true b 0 f in
      (λ i. ordering_then (nat_cmp (first i) (second i)) (bytes_cmp xs ys)) ∙ rest
  one_more true false e f =
      let first : a ≡ 0 = eqb-true a 0 e in
      ap (λ n. ordering_then (nat_cmp n b) (bytes_cmp xs ys)) first ∙ ap (λ o. ordering_then o (bytes_cmp xs ys)) (zero_or_more b f)
  one_more false true e f =
      let second : b ≡ 0 = eqb-true b 0 f in
      ap (λ n. ordering_then (nat_cmp a n) (bytes_cmp xs ys)) second ∙ ap (λ o. ordering_then o (bytes_cmp xs ys)) (more_or_zero a e)
  one_more false false e f = ap (ordering_then (nat_cmp a b)) rest ∙ then_assoc (nat_cmp a b) (bytes_cmp p q) (texts_cmp ps qs)

less_than_front : (is : Bool) (b : ℕ) (parts : List (List ℕ)) (c : Cut parts) → texts_cmp ([] ∷ []) (with_front is b parts) ≡ Less
less_than_front true b parts c = ap (texts_cmp []) c.whole
less_than_front false b parts c = ap (λ l. texts_cmp ([] ∷ []) (onto_first b l)) c.whole

greater_than_none : (is : Bool) (b : ℕ) (parts : List (List ℕ)) (c : Cut parts) → texts_cmp (with_front is b parts) ([] ∷ []) ≡ Greater
greater_than_none true b parts c = ap (λ l. texts_cmp l []) c.whole
greater_than_none false b parts c = ap (λ l. texts_cmp (onto_first b l) ([] ∷ [])) c.whole

pub parts_cmp : (one other : List ℕ) → bytes_cmp one other ≡ texts_cmp (parts_at nul one) (parts_at nul other)
parts_cmp [] [] = refl
parts_cmp [] (b ∷ ys) = sym (ap (texts_cmp ([] ∷ [])) (parts-cons b ys (is_nul b) refl) ∙ less_than_front (is_nul b) b _ (cut ys))
parts_cmp (a ∷ xs) [] = sym (ap (λ l. texts_cmp l ([] ∷ [])) (parts-cons a xs (is_nul a) refl) ∙ greater_than_none (is_nul a) a _ (cut xs))
parts_cmp (a ∷ xs) (b ∷ ys) =
    let c = cut xs in
    let d = cut ys in
    let rest : bytes_cmp xs ys ≡ texts_cmp (c.first ∷ c.rest) (d.first ∷ d.rest) = parts_cmp xs ys ∙ (λ i. texts_cmp (c.whole i) (d.whole i)) in
    one_more a b xs ys c.first d.first c.rest d.rest rest (is_nul a) (is_nul b) refl refl
    ∙ (λ i. texts_cmp (with_front (is_nul a) a (sym c.whole i)) (with_front (is_nul b) b (sym d.whole i)))
    ∙ sym (λ i. texts_cmp (parts-cons a xs (is_nul a) refl i) (parts-cons b ys (is_nul b) refl i))

pub parts_eq : (one other : List ℕ) → bytes_eq one other ≡ texts_eq (parts_at nul one) (parts_at nul other)
parts_eq one other = bytes_cmp_ties one other ∙ ap is_eq (parts_cmp one other) ∙ sym (texts_cmp_ties (parts_at nul one) (parts_at nul other))

-- ---- joining

is_other : (b : Bool) → not b ≡ true → b ≡ false
is_other true e = sym e
is_other false e = refl

whole_part : (text : List ℕ) → lacks_nul text ≡ true → parts_at nul text ≡ text ∷ []
whole_part [] e = refl
whole_part (b ∷ bs) e = slice_split-cons_no is_nul b bs (is_other _ (left _ _ e)) ∙ ap (onto_first b) (whole_part bs (right _ _ e))

first_part : (text more : List ℕ) → lacks_nul text ≡ true → parts_at nul (text ++ nul ∷ more) ≡ text ∷ parts_at nul more
first_part [] more e = slice_split-cons_yes is_nul nul more refl
first_part (b ∷ bs) more e = slice_split-cons_no is_nul b (bs ++ nul ∷ more) (is_other _ (left _ _ e)) ∙ ap (onto_first b) (first_part bs more (right _ _ e))

pub parts-joined : (first : List ℕ) (rest : List (List ℕ)) → list_all lacks_nul (first ∷ rest) ≡ true → parts_at nul (first ++ flat_map (λ text. nul ∷ text) rest) ≡ first ∷ rest
parts-joined first [] e = ap (parts_at nul) (append-nil first) ∙ whole_part first (left _ _ e)
parts-joined first (next ∷ rest) e = first_part first (next ++ flat_map (λ text. nul ∷ text) rest) (left _ _ e) ∙ ap (λ parts. first ∷ parts) (parts-joined next rest (right _ _ e))
