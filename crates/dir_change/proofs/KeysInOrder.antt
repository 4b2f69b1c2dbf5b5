-- Sets of keys in order: their members, and what is listed for each of them.
use Rattle.std.proofs.Common.{◌≡◌, Bool, true, false, cond, ◌||◌, List, [], ◌∷◌, ◌++◌, map, Some, None, refl, sym, ap, ◌∙◌, true≢false, T}
use Rattle.std.specs.Bool.{⊤}
use Rattle.std.specs.List.{flat_map, fold, list_all, list_any}
use Rattle.std.specs.FinMap.{find}
use Rattle.std.specs.FinMap.Entries.{find-where_key, is_sorted, is_sorted-where_key, same_entries, where_key}
use Rattle.std.specs.Ordering.{eq_by_cmp, is_eq, is_lt, match_ordering}
use Rattle.std.specs.declared.cmp.Ordering.{Ordering}
use Rattle.std.specs.declared.cmp.Ordering.TheVariants.{Less, Equal, Greater}
use Rattle.std.specs.Cmp.{Equal-is}
use Rattle.dir_names.specs.Attr.{Attr}
use Rattle.dir_names.specs.Orders.{attr_cmp, attr_cmp_total, attr_cmp_exact}
use Rattle.dir_names.specs.Sorted.{rises, set_of, with_member}
use Rattle.dir_names.proofs.Both.{left, right}
use Rattle.dir_names.proofs.Placed.{is_sorted-keys, keys_of, rises-with_member, so}

pub same_attr : (p q : Attr) → eq_by_cmp attr_cmp p q ≡ true → p ≡ q
same_attr p q t = attr_cmp_exact p q ((Equal-is (attr_cmp p q)).0 t)

abbrev pub is_among : Attr → List Attr → Bool
is_among q ks = list_any (eq_by_cmp attr_cmp q) ks

pub truth : {b : Bool} → T b → b ≡ true
truth {b} t = elim b as (λ b. T b → b ≡ true) [ true ↦ λ _. refl | _ ↦ λ f. absurd f ] t

or_again : (a b : Bool) → (a || (a || b)) ≡ (a || b)
or_again true b = refl
or_again false b = refl

or_swap : (a b c : Bool) → (a || (b || c)) ≡ (b || (a || c))
or_swap true true c = refl
or_swap true false c = refl
or_swap false true c = refl
or_swap false false c = refl

or_assoc : (a b c : Bool) → ((a || b) || c) ≡ (a || (b || c))
or_assoc true b c = refl
or_assoc false b c = refl

-- ---- the members of a set

with_among : (q k : Attr) (ks : List Attr) → is_among q (with_member attr_cmp k ks) ≡ (eq_by_cmp attr_cmp q k || is_among q ks)
with_among q k [] = refl
with_among q k (x ∷ xs) = by (attr_cmp k x) refl (with_among q k xs)
  where
    by : (r : Ordering) → attr_cmp k x ≡ r → is_among q (with_member attr_cmp k xs) ≡ (eq_by_cmp attr_cmp q k || is_among q xs) →
        is_among q (match_ordering r (k ∷ x ∷ xs) (x ∷ xs) (x ∷ with_member attr_cmp k xs)) ≡ (eq_by_cmp attr_cmp q k || (eq_by_cmp attr_cmp q x || is_among q xs))
    by Less t rest = refl
    by Equal t rest = sym (ap (λ z. eq_by_cmp attr_cmp q z || (eq_by_cmp attr_cmp q x || is_among q xs)) (attr_cmp_exact k x t) ∙ or_again (eq_by_cmp attr_cmp q x) (is_among q xs))
    by Greater t rest = ap (λ b. eq_by_cmp attr_cmp q x || b) rest ∙ or_swap (eq_by_cmp attr_cmp q x) (eq_by_cmp attr_cmp q k) (is_among q xs)

fold_among : (q : Attr) (set xs : List Attr) → is_among q (fold (λ s x. with_member attr_cmp x s) set xs) ≡ (is_among q xs || is_among q set)
fold_among q set [] = refl
fold_among q set (x ∷ xs) =
    fold_among q (with_member attr_cmp x set) xs
    ∙ ap (λ b. is_among q xs || b) (with_among q x set)
    ∙ or_swap (is_among q xs) (eq_by_cmp attr_cmp q x) (is_among q set)
    ∙ sym (or_assoc (eq_by_cmp attr_cmp q x) (is_among q xs) (is_among q set))

or_none : (b : Bool) → (b || false) ≡ b
or_none true = refl
or_none false = refl

pub set_among : (q : Attr) (xs : List Attr) → is_among q (set_of attr_cmp xs) ≡ is_among q xs
set_among q xs = fold_among q [] xs ∙ or_none (is_among q xs)

fold_rises : (set xs : List Attr) → T (rises attr_cmp set) → T (rises attr_cmp (fold (λ s x. with_member attr_cmp x s) set xs))
fold_rises set [] t = t
fold_rises set (x ∷ xs) t = fold_rises (with_member attr_cmp x set) xs (rises-with_member attr_cmp attr_cmp_total x set t)

-- a set with one member more is in order too
pub member_rises : (k : Attr) (ks : List Attr) → rises attr_cmp ks ≡ true → rises attr_cmp (with_member attr_cmp k ks) ≡ true
member_rises k ks t = truth (rises-with_member attr_cmp attr_cmp_total k ks (so (rises attr_cmp ks) t))

pub set_rises : (xs : List Attr) → rises attr_cmp (set_of attr_cmp xs) ≡ true
set_rises xs = truth (fold_rises [] xs tt)

pub among_append : (q : Attr) (xs ys : List Attr) → is_among q (xs ++ ys) ≡ (is_among q xs || is_among q ys)
among_append q [] ys = refl
among_append q (x ∷ xs) ys = ap (λ b. eq_by_cmp attr_cmp q x || b) (among_append q xs ys) ∙ sym (or_assoc (eq_by_cmp attr_cmp q x) (is_among q xs) (is_among q ys))

less_differs : (r : Ordering) → is_lt r ≡ true → is_eq r ≡ false
less_differs Less h = refl
less_differs Equal h = absurd (true≢false (sym h))
less_differs Greater h = refl

-- a key before all others is none of them
pub first_apart : (k : Attr) (ks : List Attr) → list_all (λ x. is_lt (attr_cmp k x)) ks ≡ true → is_among k ks ≡ false
first_apart k [] t = refl
first_apart k (x ∷ xs) t =
    let here = less_differs (attr_cmp k x) (left (is_lt (attr_cmp k x)) (list_all (λ x. is_lt (attr_cmp k x)) xs) t) in
    let rest = first_apart k xs (right (is_lt (attr_cmp k x)) (list_all (λ x. is_lt (attr_cmp k x)) xs) t) in
    λ i. here i || rest i

-- ---- what is listed for each key of a set, where some have nothing

module _ {B : Type 0} (f : Attr → List B) where
  abbrev has_some : List B → Bool
  has_some [] = false
  has_some (b ∷ bs) = true

  abbrev pairs : List Attr → List (Attr × ⊤)
  pairs ks = map (λ k. (k, tt)) ks

  pairs_keys : (ks : List Attr) → keys_of attr_cmp (pairs ks) ≡ ks
  pairs_keys [] = refl
  pairs_keys (k ∷ ks) = ap (λ z. k ∷ z) (pairs_keys ks)

  pairs_sorted : (ks : List Attr) → rises attr_cmp ks ≡ true → T (is_sorted attr_cmp (pairs ks))
  pairs_sorted ks t = so _ (is_sorted-keys attr_cmp (pairs ks) ∙ ap (rises attr_cmp) (pairs_keys ks) ∙ t)

  find_pair : (q : Attr) (ks : List Attr) → find attr_cmp q (pairs ks) ≡ cond (is_among q ks) (Some tt) None
  find_pair q [] = refl
  find_pair q (k ∷ ks) = by (eq_by_cmp attr_cmp q k) (find_pair q ks)
    where
      by : (b : Bool) → find attr_cmp q (pairs ks) ≡ cond (is_among q ks) (Some tt) None → cond b (Some tt) (find attr_cmp q (pairs ks)) ≡ cond (b || is_among q ks) (Some tt) None
      by true rest = refl
      by false rest = rest

  listed : (ks : List Attr) → flat_map f ks ≡ flat_map (λ e. f e.0) (where_key attr_cmp (λ k. has_some (f k)) (pairs ks))
  listed [] = refl
  listed (k ∷ ks) = by (f k) refl (listed ks)
    where
      by : (bs : List B) → f k ≡ bs → flat_map f ks ≡ flat_map (λ e. f e.0) (where_key attr_cmp (λ k. has_some (f k)) (pairs ks)) →
          f k ++ flat_map f ks ≡ flat_map (λ e. f e.0) (cond (has_some (f k)) ((k, tt) ∷ where_key attr_cmp (λ k. has_some (f k)) (pairs ks)) (where_key attr_cmp (λ k. has_some (f k)) (pairs ks)))
      by [] t rest = ap (λ z. z ++ flat_map f ks) t ∙ rest ∙ sym (ap (λ z. flat_map (λ e. f e.0) (cond (has_some z) ((k, tt) ∷ where_key attr_cmp (λ k. has_some (f k)) (pairs ks)) (where_key attr_cmp (λ k. has_some (f k)) (pairs ks)))) t)
      by (b ∷ bs) t rest =
          ap (λ z. f k ++ z) rest
          ∙ sym (ap (λ z. flat_map (λ e. f e.0) (cond (has_some z) ((k, tt) ∷ where_key attr_cmp (λ k. has_some (f k)) (pairs ks)) (where_key attr_cmp (λ k. has_some (f k)) (pairs ks)))) t)

  pub same_listed : (xs ys : List Attr) → rises attr_cmp xs ≡ true → rises attr_cmp ys ≡ true → ((k : Attr) → (f k ≡ [] → ⊥) → is_among k xs ≡ is_among k ys) → flat_map f xs ≡ flat_map f ys
  same_listed xs ys t u h =
      listed xs
      ∙ ap (flat_map (λ e. f e.0)) (same_entries attr_cmp attr_cmp_total attr_cmp_exact (where_key attr_cmp (λ k. has_some (f k)) (pairs xs)) (where_key attr_cmp (λ k. has_some (f k)) (pairs ys))
      (is_sorted-where_key attr_cmp (λ k. has_some (f k)) (pairs xs) (pairs_sorted xs t)) (is_sorted-where_key attr_cmp (λ k. has_some (f k)) (pairs ys) (pairs_sorted ys u)) each)
      ∙ sym (listed ys)
    where
      where_found : (q : Attr) (ks : List Attr) → find attr_cmp q (where_key attr_cmp (λ k. has_some (f k)) (pairs ks)) ≡ cond (has_some (f q)) (find attr_cmp q (pairs ks)) None
      where_found q ks = find-where_key attr_cmp (λ k. has_some (f k)) q (λ x e. ap (λ z. has_some (f z)) (sym (attr_cmp_exact q x e))) (pairs ks)

      some_not : (bs : List B) → has_some bs ≡ true → bs ≡ [] → ⊥
      some_not [] s e = true≢false (sym s)
      some_not (b ∷ bs) s e = true≢false (ap has_some e)

      each : (q : Attr) → find attr_cmp q (where_key attr_cmp (λ k. has_some (f k)) (pairs xs)) ≡ find attr_cmp q (where_key attr_cmp (λ k. has_some (f k)) (pairs ys))
      each q = where_found q xs ∙ by (has_some (f q)) refl ∙ sym (where_found q ys)
        where
          by : (b : Bool) → has_some (f q) ≡ b → cond b (find attr_cmp q (pairs xs)) None ≡ cond b (find attr_cmp q (pairs ys)) None
          by false s = refl
          by true s = find_pair q xs ∙ ap (λ b. cond b (Some tt) None) (h q (some_not (f q) s)) ∙ sym (find_pair q ys)
