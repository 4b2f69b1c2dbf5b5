-- The row that has a key is the one that the key names.
use Rattle.std.proofs.Common.{◌≡◌, ℕ, zero, suc, ◌≤◌, Bool, true, false, cond, nat_lt, Bor, List, [], ◌∷◌, length, Option, Some, None, refl, sym, ap, subst, ◌∙◌, arith}
use Rattle.std.specs.List.{All, find, position, position_or_len}
use Rattle.std.specs.Option.{option_and_then, option_copied}
use Rattle.std.specs.Prelude.{slice_get}
use Rattle.std.specs.Slice.{IsItemAt}
use Rattle.std.proofs.lemmas.Option.{slice_get-get_or}
use Rattle.std.proofs.lemmas.List.Elements.{All-head, All-tail}
use Rattle.std.proofs.lemmas.List.Folds.{find_at}
use Rattle.dir_names.specs.declared.schema.TypeRow.{TypeRow}
use Rattle.dir_names.specs.Inside.TypeNames.{IsIndex, is_named, row_number}
use Rattle.dir_names.specs.Orders.{bytes_eq, bytes_eq_decides}
use Rattle.dir_names.specs.Table.{row_named}
use Rattle.dir_names.specs.Table.Builtin.{builtin_rows}
use Rattle.dir_names.specs.Types.Adding.{is_table}

-- ---- the first element that passes a test

module _ {X : Type 0} where
  past : (xs : List X) (n : ℕ) → length xs ≤ n → slice_get xs n ≡ None
  past [] n h = refl
  past (x ∷ xs) zero h = absurd (omega (arith, h))
  past (x ∷ xs) (suc n) h = past xs n (omega (arith, h))

  -- what `get` gives
  pub got_at : (xs : List X) (n : ℕ) (o : Option (Bor X)) → IsItemAt xs n o → option_copied o ≡ slice_get xs n
  got_at xs n None is = sym (past xs n is.3)
  got_at xs n (Some x) is = ap Some is.1 ∙ sym (slice_get-get_or xs n x.now is.3.0)

  at_position : (p : X → Bool) (xs : List X) → option_and_then (slice_get xs) (position p xs) ≡ find p xs
  at_position p xs = by (nat_lt (position_or_len p xs) (length xs)) refl ∙ sym (find_at p xs)
    where
      by : (b : Bool) → nat_lt (position_or_len p xs) (length xs) ≡ b → option_and_then (slice_get xs) (cond b (Some (position_or_len p xs)) None) ≡ slice_get xs (position_or_len p xs)
      by true e = refl
      by false e = sym (past xs (position_or_len p xs) (grind arith))

  found : (P : X → Type 0) (p : X → Bool) (xs : List X) (x : X) → All P xs → find p xs ≡ Some x → P x × (p x ≡ true)
  found P p [] x all e = absurd (cc)
  found P p (y ∷ ys) x all e = by (p y) refl e (found P p ys x (All-tail P y ys all))
    where
      by : (b : Bool) → p y ≡ b → cond b (Some y) (find p ys) ≡ Some x → (find p ys ≡ Some x → P x × (p x ≡ true)) → P x × (p x ≡ true)
      by true passes f rest = let same : y ≡ x = cc in (subst P same (All-head P y ys all), subst (λ z. p z ≡ true) same passes)
      by false fails f rest = rest f

  missed : (p q : X → Bool) (xs : List X) (x : X) → find q xs ≡ None → find p xs ≡ Some x → q x ≡ false
  missed p q [] x none e = absurd (cc)
  missed p q (y ∷ ys) x none e = by (q y) refl none (p y) e (missed p q ys x)
    where
      by : (b : Bool) → q y ≡ b → cond b (Some y) (find q ys) ≡ None → (c : Bool) → cond c (Some y) (find p ys) ≡ Some x → (find q ys ≡ None → find p ys ≡ Some x → q x ≡ false) → q x ≡ false
      by true passes f c g rest = absurd (cc)
      by false fails f true g rest = let same : y ≡ x = cc in subst (λ z. q z ≡ false) same fails
      by false fails f false g rest = rest f g

-- ---- rows by name and by key

-- the row at the number under which a text is found
pub row_by_number : (rows : List TypeRow) (names : List (List ℕ × ℕ)) → IsIndex rows names → (t : List ℕ) → option_and_then (slice_get rows) (row_number names t) ≡ row_named rows t
row_by_number rows names is t = ap (option_and_then (slice_get rows)) (is.1 t) ∙ at_position (is_named t) rows

abbrev pub with_key : List ℕ → Option TypeRow → Option TypeRow
with_key key None = None
with_key key (Some row) = cond (bytes_eq row.key key) (Some row) None

pub row_by_key : (rows : List TypeRow) → All (λ row. row_named rows row.key ≡ Some row) rows → (key : List ℕ) → with_key key (row_named rows key) ≡ find (λ row. bytes_eq row.key key) rows
row_by_key rows table key = by (find (λ row. bytes_eq row.key key) rows) refl
  where
    none : (o : Option TypeRow) → row_named rows key ≡ o → find (λ row. bytes_eq row.key key) rows ≡ None → with_key key o ≡ None
    none None named e = refl
    none (Some row) named e = ap (λ b. cond b (Some row) None) (missed (is_named key) (λ row. bytes_eq row.key key) rows row e named)

    by : (o : Option TypeRow) → find (λ row. bytes_eq row.key key) rows ≡ o → with_key key (row_named rows key) ≡ o
    by None e = none (row_named rows key) refl e
    by (Some row) e =
        let it = found (λ row. row_named rows row.key ≡ Some row) (λ row. bytes_eq row.key key) rows row table e in
        let same : row.key ≡ key = (bytes_eq_decides row.key key).0 it.1 in
        ap (with_key key) (ap (row_named rows) (sym same) ∙ it.0) ∙ ap (λ b. cond b (Some row) None) it.1

-- ---- the table of the standards

pub builtin_table : is_table builtin_rows ≡ true
unfolding builtin_rows
builtin_table = refl
