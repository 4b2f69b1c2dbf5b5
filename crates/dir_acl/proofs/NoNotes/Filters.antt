-- A filter without a note: each of its tests is of a known type from which no other is derived.
use Rattle.std.proofs.Common.{◌≡◌, ℕ, suc, ◌+◌, Bool, true, false, cond, not, List, [], ◌∷◌, ◌++◌, length, take, Option, Some, None, Result, Ok, Err, refl, sym, ap, ◌∙◌, arith}
use Rattle.std.specs.Prelude.{◌==◌, ◌&&◌, nat_lt, option_map}
use Rattle.std.specs.List.{after_first, before_first, position_or_len}
use Rattle.std.proofs.lemmas.List.{append_assoc}
use Rattle.dir_names.specs.Cut.{after_first_separator}
use Rattle.dir_names.specs.Described.{Described}
use Rattle.dir_names.specs.Descriptions.{description_of}
use Rattle.dir_names.specs.declared.fault.NameFault.{NameFault}
use Rattle.dir_acl.specs.declared.filter.Matching.{Matching}
use Rattle.dir_acl.specs.declared.filter.Test.{Test}
use Rattle.dir_acl.specs.Filters.{Tree, Trees, conjunction, disjunction, negation, test, none, first, Spells, SpellsEach, begins_test, is_test_text}
use Rattle.dir_acl.specs.Notes.{opened_notes, class_notes, compared_notes, tested_notes, test_notes, tests_notes, type_notes}
use Rattle.dir_acl.specs.Notes.Known.{is_clear, tests_known, each_known}
use Rattle.dir_acl.specs.Notes.Supertypes.{NotedTypes}
use Rattle.dir_acl.specs.Tests.{described_by, matching_by, operator_of, test_from, test_of, test_with}
use Rattle.dir_acl.proofs.Grammar.Sound.{first_true}
use Rattle.dir_acl.proofs.NoNotes.Lists.{left_empty, right_empty}
use Rattle.dir_acl.proofs.NoNotes.Types.{clear_if}

-- ---- the text before a test's `=` is the same, whatever follows the test

abbrev equals : ℕ → Bool
equals b = b == 61

cut_early : (item tail : List ℕ) → nat_lt (position_or_len equals item) (length item) ≡ true → before_first equals (item ++ tail) ≡ before_first equals item
cut_early [] tail e = absurd (cc)
cut_early (x ∷ xs) tail e = by (cut_early xs tail) (equals x) e
  where
    by : (nat_lt (position_or_len equals xs) (length xs) ≡ true → before_first equals (xs ++ tail) ≡ before_first equals xs) → (t : Bool)
        → nat_lt (cond (not t) (1 + position_or_len equals xs) 0) (length (x ∷ xs)) ≡ true
        → take (cond (not t) (1 + position_or_len equals (xs ++ tail)) 0) (x ∷ xs ++ tail) ≡ take (cond (not t) (1 + position_or_len equals xs) 0) (x ∷ xs)
    by rest true e = refl
    by rest false e =
        let within : nat_lt (position_or_len equals xs) (length xs) ≡ true = grind (arith, e) in
        let longer : 1 + position_or_len equals (xs ++ tail) ≡ suc (position_or_len equals (xs ++ tail)) = omega arith in
        let long : suc (position_or_len equals xs) ≡ 1 + position_or_len equals xs = omega arith in
        ap (λ k. take k (x ∷ xs ++ tail)) longer ∙ ap (λ l. x ∷ l) (rest within) ∙ ap (λ k. take k (x ∷ xs)) long

module _ (types : NotedTypes) (n : ℕ) where
  -- ---- one test

  abbrev maybe_known : Option Test → Bool
  maybe_known None = true
  maybe_known (Some t) = is_clear types t.attr

  -- the description of a test that reads is a known one
  described_known : (before value : List ℕ) (t : Test) (rest : Option (List ℕ)) → test_from types.rows before (Some value) ≡ Some t → compared_notes types n before rest ≡ [] → is_clear types t.attr ≡ true
  described_known before value t rest e notes = by (description_of types.rows (described_by (operator_of before) before)) refl e notes
    where
      found : (d : Described) (m : Option Matching) → option_map (λ matching. record { attr = d.key; matching = matching }) m ≡ Some t → is_clear types d.key ≡ true → is_clear types t.attr ≡ true
      found d None e known = absurd (cc)
      found d (Some m) e known = sym (ap maybe_known e) ∙ known

      by : (r : Result Described NameFault) → description_of types.rows (described_by (operator_of before) before) ≡ r → test_with types.rows (operator_of before) value r ≡ Some t → tested_notes types n rest r ≡ [] → is_clear types t.attr ≡ true
      by (Err fault) w e notes = absurd (cc)
      by (Ok d) w e notes = found d (matching_by types.rows d.key (operator_of before) value) e (clear_if types n (described_by (operator_of before) before) d w (left_empty (type_notes types n d) (class_notes n d rest) notes))

  test_known_at : (item tail : List ℕ) (t : Test) → test_of types.rows item ≡ Some t → test_notes types n (item ++ tail) ≡ [] → is_clear types t.attr ≡ true
  test_known_at item tail t e notes = by (nat_lt (position_or_len equals item) (length item)) refl e
    where
      by : (lt : Bool) → nat_lt (position_or_len equals item) (length item) ≡ lt → test_from types.rows (before_first equals item) (cond lt (Some (after_first equals item)) None) ≡ Some t → is_clear types t.attr ≡ true
      by false w e = absurd (cc)
      by true w e =
          described_known (before_first equals item) (after_first equals item) t (after_first_separator 61 (item ++ tail)) e
          (sym (ap (λ before. compared_notes types n before (after_first_separator 61 (item ++ tail))) (cut_early item tail w)) ∙ notes)

  test_known : (item tail : List ℕ) (t : Test) → is_test_text item ≡ true → test_of types.rows item ≡ Some t → opened_notes types n 40 (item ++ tail) ≡ [] → is_clear types t.attr ≡ true
  test_known [] tail t is e notes = absurd (cc)
  test_known (c ∷ cs) tail t is e notes =
      let begins : begins_test (c ∷ cs) ≡ true = first_true (begins_test (c ∷ cs)) _ is in
      test_known_at (c ∷ cs) tail t e (sym (ap (λ begun. cond begun (test_notes types n (c ∷ cs ++ tail)) []) begins) ∙ notes)

  -- ---- all tests

  after_prefix : (xs ys : List ℕ) → tests_notes types n (xs ++ ys) ≡ [] → tests_notes types n ys ≡ []
  after_prefix [] ys e = e
  after_prefix (x ∷ xs) ys e = after_prefix xs ys (right_empty (opened_notes types n x (xs ++ ys)) (tests_notes types n (xs ++ ys)) e)

  mutual
    pub tree_known : (t : Tree) (text rest : List ℕ) → Spells types.rows text t → tests_notes types n (text ++ rest) ≡ [] → tests_known types t ≡ true
    tree_known (conjunction ts) text rest h e =
        trees_known ts h.0 (41 ∷ rest) h.2 (ap (tests_notes types n) (sym (append_assoc h.0 (41 ∷ []) rest)) ∙ after_prefix (40 ∷ 38 ∷ []) ((h.0 ++ 41 ∷ []) ++ rest) (sym (ap (λ bytes. tests_notes types n (bytes ++ rest)) h.1) ∙ e))
    tree_known (disjunction ts) text rest h e =
        trees_known ts h.0 (41 ∷ rest) h.2 (ap (tests_notes types n) (sym (append_assoc h.0 (41 ∷ []) rest)) ∙ after_prefix (40 ∷ 124 ∷ []) ((h.0 ++ 41 ∷ []) ++ rest) (sym (ap (λ bytes. tests_notes types n (bytes ++ rest)) h.1) ∙ e))
    tree_known (negation t) text rest h e =
        tree_known t h.0 (41 ∷ rest) h.2 (ap (tests_notes types n) (sym (append_assoc h.0 (41 ∷ []) rest)) ∙ after_prefix (40 ∷ 33 ∷ []) ((h.0 ++ 41 ∷ []) ++ rest) (sym (ap (λ bytes. tests_notes types n (bytes ++ rest)) h.1) ∙ e))
    tree_known (test t) text rest h e =
        test_known h.0 (41 ∷ rest) t h.2 h.3
        (ap (opened_notes types n 40) (sym (append_assoc h.0 (41 ∷ []) rest))
        ∙ left_empty (opened_notes types n 40 ((h.0 ++ 41 ∷ []) ++ rest)) (tests_notes types n ((h.0 ++ 41 ∷ []) ++ rest)) (sym (ap (λ bytes. tests_notes types n (bytes ++ rest)) h.1) ∙ e))

    trees_known : (ts : Trees) (text rest : List ℕ) → SpellsEach types.rows text ts → tests_notes types n (text ++ rest) ≡ [] → each_known types ts ≡ true
    trees_known none text rest h e = refl
    trees_known (first t ts) text rest h e =
        let here : tests_notes types n (h.0 ++ (h.1 ++ rest)) ≡ [] = ap (tests_notes types n) (sym (append_assoc h.0 h.1 rest)) ∙ sym (ap (λ bytes. tests_notes types n (bytes ++ rest)) h.2) ∙ e in
        (λ i. tree_known t h.0 (h.1 ++ rest) h.3 here i && trees_known ts h.1 rest h.4 (after_prefix h.0 (h.1 ++ rest) here) i)
