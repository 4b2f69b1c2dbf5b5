-- What is known of a text whose reader had no read call left.
use Rattle.std.specs.Prelude.{ℕ, ◌≤◌, List, length, Option}
use Rattle.std.specs.Io.KnownBytes.{Consumes}
use Rattle.dir_ldif.specs.Limits.{most_read_calls}

-- the source gave at least so many bytes
abbrev pub GaveAtLeast : Option (List ℕ) → Option (List ℕ) → ℕ → Type 0
GaveAtLeast left left' n = (bytes : List ℕ) × Consumes left left' bytes × (n ≤ length bytes)

-- a text of a byte or more for each read call of a reader
abbrev pub FillsReadCalls : List ℕ → Type 0
FillsReadCalls text = most_read_calls ≤ length text
