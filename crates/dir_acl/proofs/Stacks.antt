-- The stack of open filters as its definition has it is as long as the `Vec`.
use Rattle.std.proofs.Common.{◌≡◌, ℕ, suc, ◌≤◌, ◌<◌, Bool, true, false, cond, List, [], ◌∷◌, length, reverse, Result, Ok, Err, refl, ap, ◌∙◌, arith}
use Rattle.std.specs.Prelude.{nat_lt}
use Rattle.std.proofs.lemmas.Bool.{ltb-true, lt-ltb}
use Rattle.std.proofs.lemmas.List.{length-reverse}
use Rattle.dir_acl.specs.declared.fault.FilterFault.{FilterFault}
use Rattle.dir_acl.specs.declared.fault.FilterFault.TheVariants.{TooDeep}
use Rattle.dir_acl.specs.declared.filter.reading.Open.{Open}
use Rattle.dir_acl.specs.declared.filter.reading.Open.TheVariants as level
use Rattle.dir_acl.specs.Filters.Packed.{Complete, outer}
use Rattle.dir_acl.specs.Filters.Reading as read
use Rattle.dir_acl.specs.Filters.Reading.{State, after_parenthesis, one_deeper}
use Rattle.dir_acl.specs.Inside.Stack.{stack_over}

as_long : (c : Complete) (levels : List Open) → length (stack_over c levels) ≡ length levels
as_long c [] = refl
as_long c (level.And ∷ levels) = ap suc (as_long (outer c.around) levels)
as_long c (level.Or ∷ levels) = ap suc (as_long (outer c.around) levels)
as_long c (level.Not ∷ levels) = ap suc (as_long c levels)

pub stack_length : (c : Complete) (levels : List Open) → length (stack_over c (reverse levels)) ≡ length levels
stack_length c levels = as_long c (reverse levels) ∙ length-reverse levels

abbrev deeper : List read.Open → Bool → Result State FilterFault
deeper s t = cond t (Ok (record { stack = s; place = after_parenthesis })) (Err TooDeep)

not_below : (a b : ℕ) → b ≤ a → nat_lt a b ≡ false
not_below a b h = by (nat_lt a b) refl
  where
    by : (t : Bool) → nat_lt a b ≡ t → t ≡ false
    by true e = let less = ltb-true a b e in absurd (omega arith)
    by false e = refl

pub full : (c : Complete) (levels : List Open) → 64 ≤ length levels → one_deeper (stack_over c (reverse levels)) ≡ Err TooDeep
full c levels h = ap (deeper (stack_over c (reverse levels))) (ap (λ n. nat_lt n 64) (stack_length c levels) ∙ not_below (length levels) 64 h)

pub room : (c : Complete) (levels : List Open) → length levels < 64 → one_deeper (stack_over c (reverse levels)) ≡ Ok (record { stack = stack_over c (reverse levels); place = after_parenthesis })
room c levels h = ap (deeper (stack_over c (reverse levels))) (ap (λ n. nat_lt n 64) (stack_length c levels) ∙ lt-ltb (length levels) 64 h)

pub ruleset stack_steps = (full, room)
