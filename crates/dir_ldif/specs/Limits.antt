-- Limits that a promise gives as numbers.
use Rattle.std.specs.Prelude.{ℕ}

-- the greatest number of read calls of one reader: 2 ^ 40
abbrev pub most_read_calls : ℕ
most_read_calls = 1099511627776
