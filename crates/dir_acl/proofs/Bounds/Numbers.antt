-- The numbers of parts and edits: each comes once. What is known of a part hangs on none.
use Rattle.std.proofs.Common.{◌≡◌, ℕ, zero, suc, ◌+◌, Bool, true, false, not, ◌==◌, List, [], ◌∷◌, ◌++◌, length, map, refl, sym, ap, ◌∙◌, subst, arith}
use Rattle.std.specs.Prelude.{◌<◌, ◌&&◌}
use Rattle.std.proofs.lemmas.Bool.Decides.{nat_tests}
use Rattle.std.specs.List.{list_all}
use Rattle.dir_tree.specs.Dir.{Dir}
use Rattle.dir_acl.specs.declared.privileges.Privilege.{Privilege}
use Rattle.dir_acl.specs.Bounds.{clauses_size, numbered, numbered_clauses, numbered_rules, settled, what_says, who_says}
use Rattle.dir_acl.specs.Decision.{Question}
use Rattle.dir_acl.specs.Inside.Bounding.{weighed, weighed_clause}
use Rattle.dir_acl.specs.Rules.{AccessClause, AccessRule}
use Rattle.dir_acl.proofs.Bounds.Choices.{AreOnce, all_numbers, clauses_numbers, numbers_of}
use Rattle.dir_acl.proofs.Bounds.Passes.{clause_weight, rule_weight}

-- ---- so many numbers from one on

abbrev counted : ℕ → ℕ → List ℕ
counted n zero = []
counted n (suc k) = n ∷ counted (suc n) k

counted_both : (n a b : ℕ) → counted n (a + b) ≡ counted n a ++ counted (n + a) b
counted_both n zero b =
    let none : 0 + b ≡ b = omega arith in
    let same : n ≡ n + 0 = omega arith in
    ap (counted n) none ∙ ap (λ m. counted m b) same
counted_both n (suc a) b =
    let more : suc a + b ≡ suc (a + b) = omega arith in
    let next : suc n + a ≡ n + suc a = omega arith in
    ap (counted n) more ∙ ap (λ ns. n ∷ ns) (counted_both (suc n) a b) ∙ ap (λ m. n ∷ (counted (suc n) a ++ counted m b)) next

differs : (n m : ℕ) → n < m → not (m == n) ≡ true
differs n m less = grind (arith, nat_tests)

counted_fresh : (n m k : ℕ) → n < m → list_all (λ x. not (x == n)) (counted m k) ≡ true
counted_fresh n m zero less = refl
counted_fresh n m (suc k) less =
    let later : n < suc m = omega arith in
    λ i. differs n m less i && counted_fresh n (suc m) k later i

counted_once : (n k : ℕ) → AreOnce (counted n k)
counted_once n zero = tt
counted_once n (suc k) =
    let less : n < suc n = omega arith in
    (counted_fresh n (suc n) k less, counted_once (suc n) k)

-- ---- those of rules

numbers_counted : {A : Type 0} (n : ℕ) (parts : List A) → numbers_of (numbered n parts) ≡ counted n (length parts)
numbers_counted n [] = refl
numbers_counted n (part ∷ parts) = ap (λ ns. n ∷ ns) (numbers_counted (suc n) parts)

clauses_counted : (n : ℕ) (clauses : List AccessClause) → clauses_numbers (numbered_clauses n clauses) ≡ counted n (clauses_size clauses)
clauses_counted n [] = refl
clauses_counted n (clause ∷ clauses) =
    let size : suc (length clause.who + clauses_size clauses) ≡ suc (length clause.who) + clauses_size clauses = omega arith in
    (λ i. n ∷ (numbers_counted (suc n) clause.who i ++ clauses_counted (suc n + length clause.who) clauses i))
    ∙ ap (λ ns. n ∷ ns) (sym (counted_both (suc n) (length clause.who) (clauses_size clauses)))
    ∙ ap (counted n) size

abbrev rules_size : List AccessRule → ℕ
rules_size [] = 0
rules_size (rule ∷ rules) = (length rule.what + clauses_size rule.clauses) + rules_size rules

rules_counted : (n : ℕ) (rules : List AccessRule) → all_numbers (numbered_rules n rules) ≡ counted n (rules_size rules)
rules_counted n [] = refl
rules_counted n (rule ∷ rules) =
    let next : (n + length rule.what) + clauses_size rule.clauses ≡ n + (length rule.what + clauses_size rule.clauses) = omega arith in
    (λ i. (numbers_counted n rule.what i ++ clauses_counted (n + length rule.what) rule.clauses i) ++ rules_counted (n + length rule.what + clauses_size rule.clauses) rules i)
    ∙ (λ i. sym (counted_both n (length rule.what) (clauses_size rule.clauses)) i ++ counted (next i) (rules_size rules))
    ∙ sym (counted_both n (length rule.what + clauses_size rule.clauses) (rules_size rules))

pub rules_once : (n : ℕ) (rules : List AccessRule) → AreOnce (all_numbers (numbered_rules n rules))
rules_once n rules = subst AreOnce (sym (rules_counted n rules)) (counted_once n (rules_size rules))

-- ---- what is known of rules

all_same : {A : Type 0} (test : A → Bool) (n : ℕ) (parts : List A) → list_all (λ part. test part.part) (numbered n parts) ≡ list_all test parts
all_same test n [] = refl
all_same test n (part ∷ parts) = ap (λ b. test part && b) (all_same test (suc n) parts)

module _ (d : Dir) (q : Question) (p : Privilege) where
  clauses_weigh : (n : ℕ) (clauses : List AccessClause) → map (clause_weight d q p) (numbered_clauses n clauses) ≡ map (weighed_clause d q) clauses
  clauses_weigh n [] = refl
  clauses_weigh n (clause ∷ clauses) = λ i.
      record {
        may = all_same (λ w. settled true (who_says d q w)) (suc n) clause.who i;
        must = all_same (λ w. settled false (who_says d q w)) (suc n) clause.who i;
        edit = clause.edit;
        control = clause.control;
      }
      ∷ clauses_weigh (suc n + length clause.who) clauses i

  pub rules_weigh : (n : ℕ) (rules : List AccessRule) → map (rule_weight d q p) (numbered_rules n rules) ≡ map (weighed d q) rules
  rules_weigh n [] = refl
  rules_weigh n (rule ∷ rules) = λ i.
      record {
        may = all_same (λ r. settled true (what_says q r)) n rule.what i;
        must = all_same (λ r. settled false (what_says q r)) n rule.what i;
        clauses = clauses_weigh (n + length rule.what) rule.clauses i;
      }
      ∷ rules_weigh (n + length rule.what + clauses_size rule.clauses) rules i
