-- Assignments that agree on some numbers, and one that is chosen from two.
use Rattle.std.proofs.Common.{◌≡◌, ℕ, Bool, true, false, not, cond, ◌==◌, List, [], ◌∷◌, ◌++◌, map, refl, sym, ap, ◌∙◌, true≢false, arith}
use Rattle.std.specs.Prelude.{⊤, ◌&&◌}
use Rattle.std.proofs.lemmas.Bool.Decides.{nat_tests}
use Rattle.std.specs.List.{flat_map, list_all}
use Rattle.dir_names.proofs.Both.{left, right}
use Rattle.dir_tree.specs.Dir.{Dir}
use Rattle.dir_acl.specs.declared.open_rules.Verdict.{Verdict}
use Rattle.dir_acl.specs.Bounds.{Numbered, NumberedClause, NumberedRule, clause_under, edit_under, holds_under, rule_under, settled, what_says, who_says}
use Rattle.dir_acl.specs.Decision.{Question}

-- ---- the numbers of parts and edits

abbrev pub numbers_of : {A : Type 0} → List (Numbered A) → List ℕ
numbers_of parts = map (λ part. part.number) parts

abbrev pub clause_numbers : NumberedClause → List ℕ
clause_numbers clause = clause.number ∷ numbers_of clause.who

abbrev pub clauses_numbers : List NumberedClause → List ℕ
clauses_numbers clauses = flat_map clause_numbers clauses

abbrev pub rule_numbers : NumberedRule → List ℕ
rule_numbers rule = numbers_of rule.what ++ clauses_numbers rule.clauses

abbrev pub all_numbers : List NumberedRule → List ℕ
all_numbers rules = flat_map rule_numbers rules

-- no number comes twice, so what is chosen for one part says nothing of another
abbrev pub AreOnce : List ℕ → Type 0
AreOnce [] = ⊤
AreOnce (n ∷ ns) = (list_all (λ m. not (m == n)) ns ≡ true) × AreOnce ns

-- both give the same for each of these numbers
abbrev pub Agree : (ℕ → Bool) → (ℕ → Bool) → List ℕ → Type 0
Agree f g [] = ⊤
Agree f g (n ∷ ns) = (f n ≡ g n) × Agree f g ns

-- none of the first numbers is among the others
abbrev pub Apart : List ℕ → List ℕ → Type 0
Apart [] ms = ⊤
Apart (n ∷ ns) ms = (list_all (λ m. not (m == n)) ms ≡ true) × Apart ns ms

-- ---- parts of lists

pub all_left : (test : ℕ → Bool) (xs ys : List ℕ) → list_all test (xs ++ ys) ≡ true → list_all test xs ≡ true
all_left test [] ys e = refl
all_left test (x ∷ xs) ys e = ap (λ b. b && list_all test xs) (left (test x) _ e) ∙ all_left test xs ys (right (test x) _ e)

pub all_right : (test : ℕ → Bool) (xs ys : List ℕ) → list_all test (xs ++ ys) ≡ true → list_all test ys ≡ true
all_right test [] ys e = e
all_right test (x ∷ xs) ys e = all_right test xs ys (right (test x) _ e)

pub once_apart : (xs ys : List ℕ) → AreOnce (xs ++ ys) → Apart xs ys
once_apart [] ys o = tt
once_apart (x ∷ xs) ys o = (all_right (λ m. not (m == x)) xs ys o.0, once_apart xs ys o.1)

pub once_left : (xs ys : List ℕ) → AreOnce (xs ++ ys) → AreOnce xs
once_left [] ys o = tt
once_left (x ∷ xs) ys o = (all_left (λ m. not (m == x)) xs ys o.0, once_left xs ys o.1)

pub once_right : (xs ys : List ℕ) → AreOnce (xs ++ ys) → AreOnce ys
once_right [] ys o = o
once_right (x ∷ xs) ys o = once_right xs ys o.1

agree_left : (f g : ℕ → Bool) (xs ys : List ℕ) → Agree f g (xs ++ ys) → Agree f g xs
agree_left f g [] ys a = tt
agree_left f g (x ∷ xs) ys a = (a.0, agree_left f g xs ys a.1)

agree_right : (f g : ℕ → Bool) (xs ys : List ℕ) → Agree f g (xs ++ ys) → Agree f g ys
agree_right f g [] ys a = a
agree_right f g (x ∷ xs) ys a = agree_right f g xs ys a.1

pub agree_on : (f g h : ℕ → Bool) (ns : List ℕ) → Agree f g ns → Agree g h ns → Agree f h ns
agree_on f g h [] a b = tt
agree_on f g h (n ∷ ns) a b = (a.0 ∙ b.0, agree_on f g h ns a.1 b.1)

-- ---- what is judged hangs on the numbers that are there

pub same_parts : {A : Type 0} (says : A → Verdict) (f g : ℕ → Bool) (parts : List (Numbered A)) → Agree f g (numbers_of parts) → list_all (holds_under f says) parts ≡ list_all (holds_under g says) parts
same_parts says f g [] a = refl
same_parts says f g (part ∷ parts) a = λ i. settled (a.0 i) (says part.part) && same_parts says f g parts a.1 i

module _ (d : Dir) (q : Question) where
  pub same_clauses : (f g : ℕ → Bool) (clauses : List NumberedClause) → Agree f g (clauses_numbers clauses) → map (clause_under f d q) clauses ≡ map (clause_under g d q) clauses
  same_clauses f g [] a = refl
  same_clauses f g (clause ∷ clauses) a = λ i.
      record {
        applies = same_parts (who_says d q) f g clause.who (agree_left f g (numbers_of clause.who) (clauses_numbers clauses) a.1) i;
        edit = edit_under (a.0 i) clause.edit;
        control = clause.control;
      }
      ∷ same_clauses f g clauses (agree_right f g (numbers_of clause.who) (clauses_numbers clauses) a.1) i

  same_rule : (f g : ℕ → Bool) (rule : NumberedRule) → Agree f g (rule_numbers rule) → rule_under f d q rule ≡ rule_under g d q rule
  same_rule f g rule a = λ i.
      record {
        fits = same_parts (what_says q) f g rule.what (agree_left f g (numbers_of rule.what) (clauses_numbers rule.clauses) a) i;
        clauses = same_clauses f g rule.clauses (agree_right f g (numbers_of rule.what) (clauses_numbers rule.clauses) a) i;
      }

  pub same_rules : (f g : ℕ → Bool) (rules : List NumberedRule) → Agree f g (all_numbers rules) → map (rule_under f d q) rules ≡ map (rule_under g d q) rules
  same_rules f g [] a = refl
  same_rules f g (rule ∷ rules) a = λ i. same_rule f g rule (agree_left f g (rule_numbers rule) (all_numbers rules) a) i ∷ same_rules f g rules (agree_right f g (rule_numbers rule) (all_numbers rules) a) i

-- ---- one for these numbers, another for the rest

abbrev pub chosen : List ℕ → (ℕ → Bool) → (ℕ → Bool) → ℕ → Bool
chosen [] f g n = g n
chosen (m ∷ ms) f g n = cond (n == m) (f n) (chosen ms f g n)

still_first : (f h : ℕ → Bool) (m : ℕ) (ns : List ℕ) → Agree h f ns → Agree (λ n. cond (n == m) (f n) (h n)) f ns
still_first f h m [] a = tt
still_first f h m (n ∷ ns) a = (by (n == m) a.0, still_first f h m ns a.1)
  where
    by : (b : Bool) → h n ≡ f n → cond b (f n) (h n) ≡ f n
    by true e = refl
    by false e = e

same_number : (m : ℕ) → (m == m) ≡ true
same_number m = grind (arith, nat_tests)

pub as_first : (ns : List ℕ) (f g : ℕ → Bool) → Agree (chosen ns f g) f ns
as_first [] f g = tt
as_first (m ∷ ms) f g = (ap (λ b. cond b (f m) (chosen ms f g m)) (same_number m), still_first f (chosen ms f g) m ms (as_first ms f g))

still_second : (f g h : ℕ → Bool) (m : ℕ) (ns : List ℕ) → list_all (λ n. not (n == m)) ns ≡ true → Agree h g ns → Agree (λ n. cond (n == m) (f n) (h n)) g ns
still_second f g h m [] e a = tt
still_second f g h m (n ∷ ns) e a = (by (n == m) (left (not (n == m)) _ e) a.0, still_second f g h m ns (right (not (n == m)) _ e) a.1)
  where
    by : (b : Bool) → not b ≡ true → h n ≡ g n → cond b (f n) (h n) ≡ g n
    by true w e = absurd (true≢false (sym w))
    by false w e = e

agree_itself : (g : ℕ → Bool) (ns : List ℕ) → Agree g g ns
agree_itself g [] = tt
agree_itself g (n ∷ ns) = (refl, agree_itself g ns)

pub as_second : (ns ms : List ℕ) (f g : ℕ → Bool) → Apart ns ms → Agree (chosen ns f g) g ms
as_second [] ms f g a = agree_itself g ms
as_second (n ∷ ns) ms f g a = still_second f g (chosen ns f g) n ms a.0 (as_second ns ms f g a.1)
