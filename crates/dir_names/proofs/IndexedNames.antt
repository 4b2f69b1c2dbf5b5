-- An index of names: what an insertion adds to it, and what it says of the rows.
use Rattle.std.proofs.Common.{◌≡◌, ℕ, suc, ◌+◌, ◌≤◌, ◌<◌, Bool, true, false, cond, not, T, eqb, nat_lt, List, [], ◌∷◌, ◌++◌, length, take, get_or, Option, Some, None, is_some, Ok, Err, refl, sym, ap, subst, ◌∙◌, arith}
use Rattle.std.specs.FinMap.{find, put}
use Rattle.std.specs.FinMap.Entries.{find-put}
use Rattle.std.specs.Cmp.{eq_by_cmp_equiv}
use Rattle.std.specs.List.{insert, list_any, position, position_or_len}
use Rattle.std.specs.Option.{option_or}
use Rattle.std.specs.Ordering.{eq_by_cmp}
use Rattle.std.specs.Str.{str_eq_ignore_ascii_case, str_to_ascii_lowercase}
use Rattle.std.proofs.lemmas.Bool.Decides.{nat_tests}
use Rattle.std.proofs.lemmas.List.{length-append, length-take, take_more}
use Rattle.std.proofs.lemmas.List.Folds.{position_or_len_push}
use Rattle.dir_names.specs.declared.schema.TypeRow.{TypeRow}
use Rattle.dir_names.specs.Inside.TypeNames.{Gains, IsIndex, are_rising, is_named}
use Rattle.dir_names.specs.Orders.{bytes_cmp, bytes_cmp_total, bytes_cmp_ties, bytes_eq, bytes_eq_decides}
use Rattle.dir_names.specs.Sorted.{place, rises}
use Rattle.dir_names.proofs.Placed.{so, keys_of, value_at, put_at, find-place, put-place, rises-put_at}

-- ---- one name more

known : (o : Option ℕ) (b : Bool) (row : ℕ) → (b ≡ true → is_some o ≡ true) → o ≡ option_or o (cond b (Some row) None)
known (Some n) b row h = refl
known None true row h = absurd (subst T (sym (h refl)) tt)
known None false row h = refl

new : (o : Option ℕ) (b : Bool) (row : ℕ) → (b ≡ true → o ≡ None) → cond b (Some row) o ≡ option_or o (cond b (Some row) None)
new None true row h = refl
new None false row h = refl
new (Some n) false row h = refl
new (Some n) true row h = absurd (subst T (ap is_some (h refl)) tt)

true_from : (b : Bool) → T b → b ≡ true
true_from true t = refl
true_from false t = absurd t

module _ (names : List (List ℕ × ℕ)) (rising : are_rising names ≡ true) (key : List ℕ) (row : ℕ) where
  at_key : find bytes_cmp key names ≡ value_at bytes_cmp (place bytes_cmp key (keys_of bytes_cmp names)) names (key, row)
  at_key = find-place bytes_cmp bytes_cmp_total key names (key, row) (so _ rising)

  same_key : (q : List ℕ) → bytes_eq key q ≡ true → find bytes_cmp q names ≡ find bytes_cmp key names
  same_key q e = ap (λ k. find bytes_cmp k names) (sym ((bytes_eq_decides key q).0 e))

  -- a name that is there
  pub gains_nothing : (at : ℕ) → place bytes_cmp key (keys_of bytes_cmp names) ≡ Ok at → Gains (λ t. bytes_eq key (str_to_ascii_lowercase t)) row names names
  gains_nothing at e t =
      let q = str_to_ascii_lowercase t in
      known (find bytes_cmp q names) (bytes_eq key q) row (λ same. ap is_some (same_key q same ∙ at_key ∙ ap (λ p. value_at bytes_cmp p names (key, row)) e))

  module _ (at : ℕ) (e : place bytes_cmp key (keys_of bytes_cmp names) ≡ Err at) where
    inserted : put bytes_cmp key row names ≡ insert names at (key, row)
    inserted = put-place bytes_cmp key row names ∙ ap (λ p. put_at bytes_cmp p key row names) e

    tied : (q : List ℕ) → eq_by_cmp bytes_cmp q key ≡ bytes_eq key q
    tied q = sym ((eq_by_cmp_equiv bytes_cmp_total).symm key q) ∙ sym (bytes_cmp_ties key q)

    -- a name that is not there
    pub gains_name : Gains (λ t. bytes_eq key (str_to_ascii_lowercase t)) row names (insert names at (key, row))
    gains_name t =
        let q = str_to_ascii_lowercase t in
        ap (find bytes_cmp q) (sym inserted)
        ∙ find-put bytes_cmp bytes_cmp_total q key row names
        ∙ ap (λ b. cond b (Some row) (find bytes_cmp q names)) (tied q)
        ∙ new (find bytes_cmp q names) (bytes_eq key q) row (λ same. same_key q same ∙ at_key ∙ ap (λ p. value_at bytes_cmp p names (key, row)) e)

    pub rises_with_name : are_rising (insert names at (key, row)) ≡ true
    rises_with_name = true_from _ (subst (λ p. T (rises bytes_cmp (keys_of bytes_cmp (put_at bytes_cmp p key row names)))) e (rises-put_at bytes_cmp bytes_cmp_total key row names (so _ rising)))

  -- the number at a key's place
  pub number_ok : (at : ℕ) (d : List ℕ × ℕ) → place bytes_cmp key (keys_of bytes_cmp names) ≡ Ok at → find bytes_cmp key names ≡ value_at bytes_cmp (Ok at) names d
  number_ok at d e = find-place bytes_cmp bytes_cmp_total key names d (so _ rising) ∙ ap (λ p. value_at bytes_cmp p names d) e

  pub number_err : (at : ℕ) → place bytes_cmp key (keys_of bytes_cmp names) ≡ Err at → find bytes_cmp key names ≡ None
  number_err at e = at_key ∙ ap (λ p. value_at bytes_cmp p names (key, row)) e

-- a text is one of these names, in any ASCII case
abbrev pub named_in : List (List ℕ) → List ℕ → Bool
named_in names t = list_any (λ name. str_eq_ignore_ascii_case name t) names

-- ---- one row more

module _ {X : Type 0} (p : X → Bool) where
  at_most : (xs : List X) → position_or_len p xs ≤ length xs
  at_most [] = omega arith
  at_most (x ∷ xs) = by (p x) (position_or_len p xs) (at_most xs)
    where
      by : (b : Bool) (n : ℕ) → n ≤ length xs → cond (not b) (1 + n) 0 ≤ suc (length xs)
      by true n h = omega arith
      by false n h = omega (arith, h)

  one_more : (b : Bool) (n m : ℕ) → n ≤ m
      → cond (nat_lt (cond (eqb n m) (m + cond b 0 1) n) (m + 1)) (Some (cond (eqb n m) (m + cond b 0 1) n)) None ≡ option_or (cond (nat_lt n m) (Some n) None) (cond b (Some m) None)
  one_more b n m h = grind (arith, nat_tests)

  pub position_push : (xs : List X) (x : X) → position p (xs ++ x ∷ []) ≡ option_or (position p xs) (cond (p x) (Some (length xs)) None)
  position_push xs x =
      (λ i. cond (nat_lt (position_or_len_push p xs x i) (length-append xs (x ∷ []) i)) (Some (position_or_len_push p xs x i)) None)
      ∙ one_more (p x) (position_or_len p xs) (length xs) (at_most xs)

abbrev pub is_named_by : TypeRow → List ℕ → Bool
is_named_by row t = is_named t row

-- no row, no name
pub index_empty : IsIndex [] []
index_empty = (refl, λ t. refl)

-- the rows gain one at the end, and the index what its names gain: it is the index of these rows
pub index_push : (rows : List TypeRow) (row : TypeRow) (old new : List (List ℕ × ℕ)) → IsIndex rows old → are_rising new ≡ true
    → Gains (is_named_by row) (length rows) old new → IsIndex (rows ++ row ∷ []) new
index_push rows row old new is rising gains =
    (rising, λ t. gains t ∙ ap (λ o. option_or o (cond (is_named t row) (Some (length rows)) None)) (is.1 t) ∙ sym (position_push (is_named t) rows row))

pub index_more : (rows : List TypeRow) (i : ℕ) (row : TypeRow) (old new : List (List ℕ × ℕ)) → i < length rows → row ≡ get_or rows i row → IsIndex (take i rows) old → are_rising new ≡ true
    → Gains (is_named_by row) i old new → IsIndex (take (i + 1) rows) new
index_more rows i row old new inside is index rising gains =
    let more : take i rows ++ row ∷ [] ≡ take (i + 1) rows = ap (λ r. take i rows ++ r ∷ []) is ∙ sym (take_more rows i row inside) in
    let all : length (take i rows) ≡ i = omega (arith, length-take i rows, inside) in
    subst (λ r. IsIndex r new) more (index_push (take i rows) row old new index rising (subst (λ n. Gains (is_named_by row) n old new) (sym all) gains))
