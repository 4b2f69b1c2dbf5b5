use Rattle.std.proofs.lemmas.Grind.{common_steps}
use Rattle.std.proofs.Common.{◌≡◌, ℕ, zero, suc, List, [], ◌∷◌, length, drop, min, refl, sym, ◌∙◌, arith, rules}
use Rattle.std.proofs.lemmas.Bool.Decides.{nat_tests}
use Rattle.std.specs.declared.cmp.Ordering.TheVariants.{Less, Greater}
use Rattle.std.specs.Cmp.{nat_cmp_is}
use Rattle.std.specs.Ordering.{nat_cmp}
use Rattle.dir_names.specs.Orders.{bytes_cmp}
use Rattle.dir_names.proofs.list.short.cmp_short.Goals as goal

zero_or_more : (n : ℕ) → nat_cmp 0 (suc n) ≡ Less
zero_or_more n = sym (nat_cmp_is 0 (suc n) Less (omega arith))

more_or_zero : (n : ℕ) → nat_cmp (suc n) 0 ≡ Greater
more_or_zero n = sym (nat_cmp_is (suc n) 0 Greater (omega arith))

both_more : (m n : ℕ) → nat_cmp (suc m) (suc n) ≡ nat_cmp m n
both_more m n = grind (arith, nat_tests)

at_end : (xs ys : List ℕ) (i : ℕ) → i ≡ min (length xs) (length ys) → nat_cmp (length xs) (length ys) ≡ bytes_cmp (drop i xs) (drop i ys)
at_end [] [] zero e = refl
at_end [] (y ∷ ys) zero e = zero_or_more (length ys)
at_end (x ∷ xs) [] zero e = more_or_zero (length xs)
at_end (x ∷ xs) (y ∷ ys) zero e = absurd (omega (arith, e))
at_end [] [] (suc i) e = absurd (omega (arith, e))
at_end [] (y ∷ ys) (suc i) e = absurd (omega (arith, e))
at_end (x ∷ xs) [] (suc i) e = absurd (omega (arith, e))
at_end (x ∷ xs) (y ∷ ys) (suc i) e = both_more (length xs) (length ys) ∙ at_end xs ys i (omega (arith, e))

pub returns-then-first-lt-FIRST : goal.returns-then-first-lt-FIRST
returns-then-first-lt-FIRST c =
    let one = c.args.one.now in
    let other = c.args.other.now in
    let lengths : c.cmp-then-first-lt-FIRST.result ≡ nat_cmp (length one) (length other) = search rules in
    let ended : c.loop-at.at ≡ min (length one) (length other) = omega arith in
    lengths ∙ at_end one other c.loop-at.at ended ∙ c.loop-at.invariant

pub returns-then-one-at : goal.returns-then-one-at
returns-then-one-at c = grind (arith, common_steps)

pub loop-at-preserved : goal.loop-at-preserved
loop-at-preserved c = grind (arith, common_steps)

pub returns : goal.returns
returns c = grind (arith, common_steps)
