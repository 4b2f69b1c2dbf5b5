-- The turns of an endless script.
use Rattle.std.proofs.Common.{◌≡◌, ℕ, zero, suc, ◌≤◌, List, [], ◌++◌, length, take, drop, refl, sym, ap, ◌∙◌, append_assoc}
use Rattle.std.specs.List.{repeat}
use Rattle.std.proofs.lemmas.List.{at_drop_all}

-- at the end of the text one turn more is to come
pub turn_begun : (text : List ℕ) (at n : ℕ) → length text ≤ at → drop at text ++ repeat (suc n) text ≡ text ++ repeat n text
turn_begun text at n h = at_drop_all (λ t. t ++ repeat (suc n) text) text at h

-- what was given is no longer to come
pub part_given : (old given new text text' : List ℕ) (n : ℕ) → old ≡ given ++ new → text' ≡ text → old ++ repeat n text ≡ given ++ (new ++ repeat n text')
part_given old given new text text' n e same =
    ap (λ t. t ++ repeat n text) e ∙ append_assoc given new (repeat n text) ∙ ap (λ t. given ++ (new ++ repeat n t)) (sym same)

pub none_given : (old buffer new : List ℕ) (k : ℕ) → old ≡ take k buffer ++ new → k ≡ 0 → new ≡ [] → old ≡ []
none_given old buffer new k e none end = e ∙ rw (none, end) refl

repeat-nil : (n : ℕ) → repeat {A = ℕ} n [] ≡ []
repeat-nil zero = refl
repeat-nil (suc n) = repeat-nil n

drop_of_nil : (n : ℕ) → drop {A = ℕ} n [] ≡ []
drop_of_nil zero = refl
drop_of_nil (suc n) = refl

-- of an empty text nothing is to come
pub no_turns : (text : List ℕ) (at n : ℕ) → text ≡ [] → drop at text ++ repeat n text ≡ []
no_turns text at n e = rw e (ap (λ t. t ++ repeat n []) (drop_of_nil at) ∙ repeat-nil n)
