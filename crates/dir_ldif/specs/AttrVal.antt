-- The name and the value of a line (RFC 2849, attrval-spec).
use Rattle.std.specs.Prelude.{ℕ, Bool, ◌||◌, if◌then◌else◌, ◌==◌, nat_lt, List, [], ◌∷◌, length, Option, None, Some, Result, Ok, Err}
use Rattle.std.specs.List.{list_any}
use Rattle.std.specs.Result.{is_ok}
use Rattle.base64.specs.Engines.{standard}
use Rattle.base64.specs.GeneralPurpose.{decode_of}
use Rattle.dir_ldif.specs.declared.faults.RecordFault.{RecordFault}
use Rattle.dir_ldif.specs.declared.faults.RecordFault.TheVariants.{BadLine, BadBase64, UrlValue, ValueTooLong}
use Rattle.dir_ldif.specs.Bytes.{cut_at, without_leading}
use Rattle.dir_names.specs.Results.{and_then}
use Rattle.dir_names.specs.Ascii.{carriage_return, colon, less_than, nul, space}

-- any fault of decoding is `BadBase64`
abbrev pub or_bad_base64 : {E : Type 0} → Result (List ℕ) E → Result (List ℕ) RecordFault
or_bad_base64 (Ok bytes) = Ok bytes
or_bad_base64 (Err e) = Err BadBase64

-- the bytes that a text is the base64 of (RFC 4648, section 4)
unfoldable pub base64_value : List ℕ → Result (List ℕ) RecordFault
base64_value text = or_bad_base64 (decode_of standard text)

-- whether a text is base64
unfoldable pub is_base64 : List ℕ → Bool
is_base64 text = is_ok (base64_value text)

-- NUL and CR
abbrev pub is_nul_or_cr : ℕ → Bool
is_nul_or_cr b = b == nul || b == carriage_return

-- a value that is written plainly
abbrev pub plain_value : List ℕ → Result (List ℕ) RecordFault
plain_value text = if list_any is_nul_or_cr text then Err BadLine else Ok text

-- the value in what follows a name and its colon: after `:` base64, after `<` a URL, else plain. The spaces before it are
-- dropped
abbrev pub value_of : List ℕ → Result (List ℕ) RecordFault
value_of [] = Ok []
value_of (b ∷ bs) =
    if b == colon then base64_value (without_leading space bs)
    else (if b == less_than then Err UrlValue else plain_value (without_leading space (b ∷ bs)))

-- a value of at most 1,048,576 bytes
abbrev pub within_limit : List ℕ → Result (List ℕ) RecordFault
within_limit value = if nat_lt 1048576 (length value) then Err ValueTooLong else Ok value

-- the name, which is not empty, and the value
abbrev pub attrval_from : List ℕ → List ℕ → Result (List ℕ × List ℕ) RecordFault
attrval_from [] rest = Err BadLine
attrval_from (b ∷ name) rest = and_then (and_then (value_of rest) within_limit) (λ value. Ok (b ∷ name, value))

abbrev pub attrval_of_cut : Option (List ℕ × List ℕ) → Result (List ℕ × List ℕ) RecordFault
attrval_of_cut None = Err BadLine
attrval_of_cut (Some p) = attrval_from p.0 p.1

-- the name and the value of a line, which is cut at its first colon
unfoldable pub attrval_of : List ℕ → Result (List ℕ × List ℕ) RecordFault
attrval_of line = attrval_of_cut (cut_at colon line)
