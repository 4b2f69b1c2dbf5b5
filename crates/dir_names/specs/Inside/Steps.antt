-- The value that a text with escapes stands for, computed byte by byte. `SpellsByte` and `SpellsBytes` of `Names.Spells` say the same as a grammar.
use Rattle.std.specs.Prelude.{ℕ, ◌+◌, ◌*◌, Bool, true, false, cond, ◌==◌, nat_lt, List, [], ◌∷◌, Option, Some, None, option_map}
use Rattle.dir_names.specs.declared.name.reading.Place.{Place}
use Rattle.dir_names.specs.declared.name.reading.Place.TheVariants.{Outside, AfterBackslash, AfterDigit}
use Rattle.dir_names.specs.declared.name.reading.Step.{Step}
use Rattle.dir_names.specs.declared.name.reading.Step.TheVariants.{Space, Byte, Inside, Refused}
use Rattle.dir_names.specs.Ascii.{space, backslash}
use Rattle.dir_names.specs.Names.Escapes.{is_hex, hex_of, is_refused, is_escapable}

-- what a byte means outside an escape, after its backslash, and after its first digit
abbrev pub step_of : Place → ℕ → Step
step_of Outside b = cond (b == space) Space (cond (b == backslash) (Inside AfterBackslash) (cond (is_refused b) Refused (Byte b)))
step_of AfterBackslash b = cond (is_hex b) (Inside (AfterDigit (hex_of b))) (cond (is_escapable b) (Byte b) Refused)
step_of (AfterDigit high) b = cond (is_hex b) (Byte (high * 16 + hex_of b)) Refused

-- a space counts only if more of the value follows
abbrev pub with_space : List ℕ → List ℕ
with_space [] = []
with_space (b ∷ bs) = space ∷ b ∷ bs

abbrev pub value_after_step : Step → (Place → Option (List ℕ)) → Option (List ℕ)
value_after_step Space rest = option_map with_space (rest Outside)
value_after_step (Byte b) rest = option_map (λ bs. b ∷ bs) (rest Outside)
value_after_step (Inside place) rest = rest place
value_after_step Refused rest = None

-- no escape may be incomplete at the end
abbrev pub at_end : Place → Option (List ℕ)
at_end Outside = Some []
at_end AfterBackslash = None
at_end (AfterDigit high) = None

abbrev pub value_from : Place → List ℕ → Option (List ℕ)
value_from place [] = at_end place
value_from place (b ∷ bs) = value_after_step (step_of place b) (λ next. value_from next bs)

abbrev pub is_outside : Place → Bool
is_outside Outside = true
is_outside AfterBackslash = false
is_outside (AfterDigit high) = false

-- a first digit is a number below 16
abbrev pub has_digit : Place → Bool
has_digit Outside = true
has_digit AfterBackslash = true
has_digit (AfterDigit high) = nat_lt high 16

abbrev pub keeps_digit : Step → Bool
keeps_digit Space = true
keeps_digit (Byte b) = true
keeps_digit (Inside place) = has_digit place
keeps_digit Refused = true
