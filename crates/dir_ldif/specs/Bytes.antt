-- Words on lists, most of them lists of bytes.
use Rattle.std.specs.Prelude.{ℕ, Bool, true, false, if◌then◌else◌, ◌==◌, List, [], ◌∷◌, Option, None, Some, ◌||◌}
use Rattle.std.specs.Option.{option_map}
use Rattle.dir_names.specs.Ascii.{line_feed, carriage_return}

-- the list has no element
abbrev pub is_empty : {A : Type 0} → List A → Bool
is_empty [] = true
is_empty (x ∷ xs) = false

-- the list begins with this number
abbrev pub begins_with : ℕ → List ℕ → Bool
begins_with b [] = false
begins_with b (c ∷ cs) = c == b

-- the list ends in this number
abbrev pub ends_in : ℕ → List ℕ → Bool
ends_in b [] = false
ends_in b (c ∷ []) = c == b
ends_in b (c ∷ d ∷ ds) = ends_in b (d ∷ ds)

-- the list without its last number, where that is this one
abbrev pub without_last : ℕ → List ℕ → List ℕ
without_last b [] = []
without_last b (c ∷ []) = if c == b then [] else (c ∷ [])
without_last b (c ∷ d ∷ ds) = c ∷ without_last b (d ∷ ds)

-- the list without the copies of this number that it begins with
abbrev pub without_leading : ℕ → List ℕ → List ℕ
without_leading b [] = []
without_leading b (c ∷ cs) = if c == b then without_leading b cs else (c ∷ cs)

-- what comes before the first such number, and what comes after it, if there is one
abbrev pub cut_at : ℕ → List ℕ → Option (List ℕ × List ℕ)
cut_at b [] = None
cut_at b (c ∷ cs) = if c == b then Some ([], cs) else option_map (λ p. (c ∷ p.0, p.1)) (cut_at b cs)

-- LF and CR
abbrev pub is_line_break : ℕ → Bool
is_line_break b = b == line_feed || b == carriage_return
