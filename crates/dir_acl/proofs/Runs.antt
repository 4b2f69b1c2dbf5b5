-- Bytes that a reader takes one after the other may be taken at once, and a search by `memchr` finds where they end.
use Rattle.std.proofs.Common.{◌≡◌, ℕ, suc, ◌+◌, Bool, true, false, not, cond, List, [], ◌∷◌, ◌++◌, length, take, drop, Result, Ok, refl, sym, ap, subst, ◌∙◌, arith}
use Rattle.std.specs.Prelude.{◌==◌}
use Rattle.std.specs.List.{position_or_len}
use Rattle.std.proofs.lemmas.List.{append-nil, append_assoc}
use Rattle.dir_names.specs.Results.{and_then}
use Rattle.dir_names.specs.declared.schema.TypeRow.{TypeRow}
use Rattle.dir_acl.specs.Filters.{Tree}
use Rattle.dir_acl.specs.Filters.Reading.{Open, after_test, filter_from, in_test}
use Rattle.dir_acl.specs.Tests.{test_of}
use Rattle.dir_acl.specs.declared.fault.FilterFault.{FilterFault}

module _ (test : ℕ → Bool) where
  pub before_first_len : (xs : List ℕ) → length (take (position_or_len test xs) xs) ≡ position_or_len test xs
  before_first_len [] = refl
  before_first_len (x ∷ xs) = by (before_first_len xs) (test x)
    where
      by : length (take (position_or_len test xs) xs) ≡ position_or_len test xs → (t : Bool) → length (take (cond (not t) (1 + position_or_len test xs) 0) (x ∷ xs)) ≡ cond (not t) (1 + position_or_len test xs) 0
      by later true = refl
      by later false = subst (λ n. length (take n (x ∷ xs)) ≡ n) (omega arith) (ap suc later)

-- how many bytes come before the first `)`
abbrev pub before_end : List ℕ → ℕ
before_end text = position_or_len (λ b. b == 41) text

module _ (rows : List TypeRow) (stack : List Open) where
  -- the filter that a text spells after these bytes of a test
  abbrev after_bytes : List ℕ → List ℕ → Result Tree FilterFault
  after_bytes item text = filter_from rows (record { stack = stack; place = in_test item }) text

  -- the bytes of a test up to its `)` are one run
  pub test_run : (item text : List ℕ) → after_bytes item text ≡ after_bytes (item ++ take (before_end text) text) (drop (before_end text) text)
  test_run item [] = refl
  test_run item (b ∷ bs) = by (test_run (item ++ b ∷ []) bs) (b == 41) refl
    where
      count : (t : Bool) → (b == 41) ≡ t → before_end (b ∷ bs) ≡ cond (not t) (1 + before_end bs) 0
      count t e = ap (λ t. cond (not t) (1 + before_end bs) 0) e

      by : after_bytes (item ++ b ∷ []) bs ≡ after_bytes ((item ++ b ∷ []) ++ take (before_end bs) bs) (drop (before_end bs) bs) → (t : Bool) → (b == 41) ≡ t → after_bytes item (b ∷ bs) ≡ after_bytes (item ++ take (before_end (b ∷ bs)) (b ∷ bs)) (drop (before_end (b ∷ bs)) (b ∷ bs))
      by later true e =
          subst (λ n. after_bytes item (b ∷ bs) ≡ after_bytes (item ++ take n (b ∷ bs)) (drop n (b ∷ bs))) (sym (count true e))
          (ap (λ bytes. after_bytes bytes (b ∷ bs)) (sym (append-nil item)))
      by later false e =
          let n : before_end (b ∷ bs) ≡ suc (before_end bs) = count false e ∙ omega arith in
          subst (λ n. after_bytes item (b ∷ bs) ≡ after_bytes (item ++ take n (b ∷ bs)) (drop n (b ∷ bs))) (sym n)
          (ap (λ t. and_then (cond t (after_test stack (test_of rows item)) (Ok (record { stack = stack; place = in_test (item ++ b ∷ []) }))) (λ next. filter_from rows next bs)) e
          ∙ later
          ∙ ap (λ bytes. after_bytes bytes (drop (before_end bs) bs)) (append_assoc item (b ∷ []) (take (before_end bs) bs)))
