-- Names that are sound and within the limits print to texts that read back.
use Rattle.std.proofs.Common.{◌≡◌, ℕ, zero, suc, ◌*◌, ◌≤◌, true, List, [], ◌∷◌, length, length-append, Ok, arith}
use Rattle.std.specs.Prelude.{nat_le, nat_lt}
use Rattle.std.specs.List.{list_all}
use Rattle.std.proofs.lemmas.Bool.Decides.{nat_tests}
use Rattle.base64.specs.GeneralPurpose.{IsBytes}
use Rattle.dir_names.specs.Names.{SpelledName, SpelledRdn}
use Rattle.dir_names.specs.Names.Printing.{printed_name, printed_rdn}
use Rattle.dir_names.specs.Names.Reading.{name_within_limits, rdn_within_limit}
use Rattle.dir_names.specs.Names.Limits.{is_rdn_within_limit}
use Rattle.dir_names.specs.ValueKeys.{is_ascii}
use Rattle.dir_names.proofs.ReadNames.{name_ascii, rdn_ascii, name_read_back, rdn_read_back}
use Rattle.dir_ldif.specs.SoundRecords.{IsSoundName, IsSoundRdn}
use Rattle.dir_ldif.proofs.WrittenLines.{and_first, and_second}

pub ascii_bytes : (xs : List ℕ) → is_ascii xs ≡ true → IsBytes xs
ascii_bytes [] e i = omega arith
ascii_bytes (x ∷ xs) e zero = let here : nat_lt x 128 ≡ true = and_first (nat_lt x 128) (is_ascii xs) e in grind (arith, nat_tests)
ascii_bytes (x ∷ xs) e (suc i) = ascii_bytes xs (and_second (nat_lt x 128) (is_ascii xs) e) i

small_within : (rdn : SpelledRdn) → is_rdn_within_limit rdn ≡ true → length (printed_rdn rdn) ≤ 4096
small_within rdn e = grind (arith, nat_tests)

joined_within : (name : SpelledName) → list_all is_rdn_within_limit name ≡ true → length (printed_name name) ≤ length name * 4097
joined_within [] e = omega arith
joined_within (r ∷ []) e = let here = small_within r (and_first (is_rdn_within_limit r) true e) in omega (arith, here)
joined_within (r ∷ s ∷ rest) e =
    let here = small_within r (and_first (is_rdn_within_limit r) (list_all is_rdn_within_limit (s ∷ rest)) e) in
    let later = joined_within (s ∷ rest) (and_second (is_rdn_within_limit r) (list_all is_rdn_within_limit (s ∷ rest)) e) in
    omega (arith, here, later, length-append (printed_rdn r) (44 ∷ printed_name (s ∷ rest)))

few_parts : (name : SpelledName) → nat_le (length name) 64 ≡ true → length name ≤ 64
few_parts name e = grind (arith, nat_tests)

pub name_short : (name : SpelledName) → IsSoundName name → length (printed_name name) ≤ 1048576
name_short name sound =
    let few = few_parts name (and_first (nat_le (length name) 64) (list_all is_rdn_within_limit name) sound.1) in
    let long = joined_within name (and_second (nat_le (length name) 64) (list_all is_rdn_within_limit name) sound.1) in
    omega (arith, few, long)

pub name_bytes : (name : SpelledName) → IsSoundName name → IsBytes (printed_name name)
name_bytes name sound = ascii_bytes (printed_name name) (name_ascii name sound.0)

pub name_back : (name : SpelledName) → IsSoundName name → name_within_limits (printed_name name) ≡ Ok name
name_back name sound = name_read_back name sound.0 sound.1

pub rdn_short : (rdn : SpelledRdn) → IsSoundRdn rdn → length (printed_rdn rdn) ≤ 1048576
rdn_short rdn sound = let here = small_within rdn sound.1 in omega (arith, here)

pub rdn_bytes : (rdn : SpelledRdn) → IsSoundRdn rdn → IsBytes (printed_rdn rdn)
rdn_bytes rdn sound = ascii_bytes (printed_rdn rdn) (rdn_ascii rdn sound.0)

pub rdn_back : (rdn : SpelledRdn) → IsSoundRdn rdn → rdn_within_limit (printed_rdn rdn) ≡ Ok rdn
rdn_back rdn sound = rdn_read_back rdn sound.0 sound.1
