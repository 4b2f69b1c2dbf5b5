-- What contracts say of devices: the count of their failures, and what a sink took.
use Rattle.std.specs.Prelude.{◌≡◌, ℕ, ◌+◌, ◌-◌, ◌^◌, ◌≤◌, min, List, Option, Result, length, take, MatchResult}
use Rattle.std.specs.Io.KnownBytes.{Appends}

-- the greatest count of failures
abbrev pub most_failures : ℕ
most_failures = 2 ^ 64 - 1

-- the count after one more failure
abbrev pub one_more : ℕ → ℕ
one_more count = min (count + 1) most_failures

-- a call that succeeds leaves the count, and a failure adds one
abbrev pub Counts : {T E : Type 0} → Result T E → ℕ → ℕ → Type 0
Counts r old new = MatchResult r (λ _. new ≡ old) (λ _. new ≡ one_more old)

-- the device failed: its count rose, or was the greatest already
abbrev pub HasFailed : ℕ → ℕ → Type 0
HasFailed old new = one_more old ≤ new

-- the sink took the prefix of n bytes of the text, and nothing else
abbrev pub AppendsPrefix : Option (List ℕ) → Option (List ℕ) → List ℕ → ℕ → Type 0
AppendsPrefix old new text n = (n ≤ length text) × Appends old new (take n text)
