-- The number that the first bytes of a text are, by which most texts are told apart.
use Rattle.std.specs.Prelude.{◌≡◌, ℕ, zero, suc, ◌+◌, ◌*◌, IsTrue, nat_lt, List, [], ◌∷◌}
use Rattle.std.specs.List.{list_all}

-- so many bytes from a text's start, with bytes 0 where it has no more
abbrev pub padded : ℕ → List ℕ → List ℕ
padded zero text = []
padded (suc n) [] = 0 ∷ padded n []
padded (suc n) (b ∷ text) = b ∷ padded n text

-- the number that these bytes are after that number, the first one worth most
abbrev pub number_after : ℕ → List ℕ → ℕ
number_after n [] = n
number_after n (b ∷ bytes) = number_after (n * 256 + b) bytes

-- the number of a text's first 16 bytes
abbrev pub IsStart : List ℕ → ℕ → Type 0
IsStart text start = IsTrue (list_all (λ b. nat_lt b 256) (padded 16 text)) × (start ≡ number_after 0 (padded 16 text))
