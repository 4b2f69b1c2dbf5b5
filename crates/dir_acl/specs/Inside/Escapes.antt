-- The value that a text with escapes stands for, computed byte by byte (RFC 4515, section 3: `valueencoding`).
use Rattle.std.specs.Prelude.{ℕ, ◌+◌, ◌*◌, Bool, true, false, cond, ◌||◌, ◌==◌, nat_lt, List, [], ◌∷◌, Option, Some, None, option_map}
use Rattle.dir_names.specs.Ascii.{nul, backslash}
use Rattle.dir_names.specs.Names.Escapes.{is_hex, hex_of}
use Rattle.dir_acl.specs.declared.filter.assertion.Escape.{Escape}
use Rattle.dir_acl.specs.declared.filter.assertion.Escape.TheVariants.{Outside, AfterBackslash, AfterDigit}
use Rattle.dir_acl.specs.declared.filter.assertion.Step.{Step}
use Rattle.dir_acl.specs.declared.filter.assertion.Step.TheVariants.{Byte, Inside, Refused}
use Rattle.dir_acl.specs.Signs.{open_parenthesis, close_parenthesis, asterisk}

-- what a value has only as an escape: NUL, `(`, `)` and `*`
abbrev pub is_refused : ℕ → Bool
is_refused b = (b == nul || b == open_parenthesis) || (b == close_parenthesis || b == asterisk)

abbrev pub step_of : Escape → ℕ → Step
step_of Outside b = cond (b == backslash) (Inside AfterBackslash) (cond (is_refused b) Refused (Byte b))
step_of AfterBackslash b = cond (is_hex b) (Inside (AfterDigit (hex_of b))) Refused
step_of (AfterDigit high) b = cond (is_hex b) (Byte (high * 16 + hex_of b)) Refused

abbrev pub after_step : Step → (Escape → Option (List ℕ)) → Option (List ℕ)
after_step (Byte b) rest = option_map (λ bs. b ∷ bs) (rest Outside)
after_step (Inside place) rest = rest place
after_step Refused rest = None

-- no escape may be incomplete at the end
abbrev pub at_end : Escape → Option (List ℕ)
at_end Outside = Some []
at_end AfterBackslash = None
at_end (AfterDigit high) = None

abbrev pub unescaped_from : Escape → List ℕ → Option (List ℕ)
unescaped_from place [] = at_end place
unescaped_from place (b ∷ bs) = after_step (step_of place b) (λ next. unescaped_from next bs)

abbrev pub is_outside : Escape → Bool
is_outside Outside = true
is_outside AfterBackslash = false
is_outside (AfterDigit high) = false

-- a first digit is a number below 16
abbrev pub has_digit : Escape → Bool
has_digit Outside = true
has_digit AfterBackslash = true
has_digit (AfterDigit high) = nat_lt high 16

abbrev pub keeps_digit : Step → Bool
keeps_digit (Byte b) = true
keeps_digit (Inside place) = has_digit place
keeps_digit Refused = true
