-- Lists in strictly rising order of their keys, as sets and as maps.
--     rises R ks        whether each key is below those after it
--     place R k ks      `Ok` with the index of the key, or `Err` with the index at which it would be put in
--     with_member, set_of      a set as the list of its members in order
use Rattle.std.specs.Prelude.{ℕ, suc, Bool, true, ◌&&◌, List, [], ◌∷◌, Result, Ok, Err}
use Rattle.std.specs.declared.cmp.Ordering.{Ordering}
use Rattle.std.specs.Ordering.{is_lt, match_ordering}
use Rattle.std.specs.List.{list_all, fold}

-- an index, one later
abbrev pub later : Result ℕ ℕ → Result ℕ ℕ
later (Ok i) = Ok (suc i)
later (Err i) = Err (suc i)

module _ {K : Type 0} (R : K → K → Ordering) where
  abbrev pub rises : List K → Bool
  rises [] = true
  rises (k ∷ ks) = list_all (λ x. is_lt (R k x)) ks && rises ks

  abbrev pub place : K → List K → Result ℕ ℕ
  place k [] = Err 0
  place k (x ∷ xs) = match_ordering (R k x) (Err 0) (Ok 0) (later (place k xs))

  -- the set with one member more
  abbrev pub with_member : K → List K → List K
  with_member k [] = k ∷ []
  with_member k (x ∷ xs) = match_ordering (R k x) (k ∷ x ∷ xs) (x ∷ xs) (x ∷ with_member k xs)

  -- the set of a list's elements
  abbrev pub set_of : List K → List K
  set_of xs = fold (λ set x. with_member x set) [] xs
