-- The bytes that most texts have.
use Rattle.std.specs.Prelude.{ℕ, Bool, ◌&&◌, nat_lt}
use Rattle.dir_names.specs.Ascii.{carriage_return}

-- ASCII past CR, which every value may have in its midst
abbrev pub is_usual : ℕ → Bool
is_usual b = nat_lt carriage_return b && nat_lt b 128
