-- Words on answers, for all crates: one step after another, and what a call that may run out of memory answers beside what a definition says.
use Rattle.std.specs.Prelude.{◌≡◌, List, [], ◌∷◌, Option, Some, None, Result, Ok, Err}

-- `r.and_then(next)`: the next step, where there is a value; a fault stays
abbrev pub and_then : {A B E : Type 0} → Result A E → (A → Result B E) → Result B E
and_then (Ok x) next = next x
and_then (Err e) next = Err e

-- a call meets its definition: its value, seen by `view`, is the wanted one; and of its fault `Blames` holds, which says of each fault that the
-- definition wants it, and says nothing where memory ran out
abbrev pub Meets : {A E F T : Type 0} → (E → Result A F → Type 0) → (T → A) → Result T E → Result A F → Type 0
Meets Blames view (Ok x) wanted = wanted ≡ Ok (view x)
Meets Blames view (Err e) wanted = Blames e wanted

-- the elements' values in a list, if each element has one, as Rust's `collect` into an `Option`
abbrev pub option_cons : {B : Type 0} → Option B → Option (List B) → Option (List B)
option_cons None ys = None
option_cons (Some y) None = None
option_cons (Some y) (Some ys) = Some (y ∷ ys)

abbrev pub option_collect : {A B : Type 0} → (A → Option B) → List A → Option (List B)
option_collect f [] = Some []
option_collect f (x ∷ xs) = option_cons (f x) (option_collect f xs)
