-- What is read is sound: names are within the limits, and values are bytes.
use Rattle.std.proofs.Common.{◌≡◌, ℕ, ◌<◌, Bool, true, false, cond, List, [], ◌∷◌, ◌++◌, get_or, refl, sym, ap, ◌∙◌, Option, None, Some, Ok, Err}
use Rattle.base64.specs.GeneralPurpose.{IsBytes}
use Rattle.dir_names.specs.declared.fault.NameFault.TheVariants.{NameLimit}
use Rattle.dir_names.specs.Described.{Described}
use Rattle.dir_names.specs.Names.{SpelledName, SpelledRdn}
use Rattle.dir_names.specs.Names.Printing.{printed_name, printed_rdn}
use Rattle.dir_names.specs.ValueKeys.{is_ascii}
use Rattle.dir_names.specs.Names.Reading.{name_of, name_within_limits, only_rdn, only_rdn_of, pieces, rdn_of, rdn_within_limit}
use Rattle.dir_names.specs.Results.{option_collect}
use Rattle.dir_names.specs.Names.Limits.{is_rdn_within_limit, is_within_limits, ok_if_within}
use Rattle.dir_names.specs.Names.Sound.{is_sound_rdn}
use Rattle.dir_names.proofs.SoundLemmas.{bytes_from_fits, sound_name}
use Rattle.dir_ldif.specs.declared.records.Mod.{Mod}
use Rattle.dir_ldif.specs.SoundRecords.{AreBytes, IsSoundName, IsSoundRdn, ModsAreBytes, ValuesAreBytes}
use Rattle.dir_ldif.proofs.SoundNames.{ascii_bytes}
use Rattle.dir_ldif.proofs.WrittenLines.{and_first}

-- ---- names

within : {A : Type 0} (test : A → Bool) (o : Option A) (x : A) → ok_if_within test o ≡ Ok x → (o ≡ Some x) × (test x ≡ true)
within test None x e = absurd (cc)
within {A} test (Some y) x e = by (test y) refl e
  where
    by : (t : Bool) → test y ≡ t → cond t (Ok y) (Err NameLimit) ≡ Ok x → (Some y ≡ Some x) × (test x ≡ true)
    by true f g = let same : y ≡ x = cc in (ap Some same, ap test (sym same) ∙ f)
    by false f g = absurd (cc)

pub read_name_sound : (text : List ℕ) (name : SpelledName) → ((i : ℕ) → get_or text i 0 < 256) → name_within_limits text ≡ Ok name → IsSoundName name
read_name_sound text name small e =
    let read = within is_within_limits (name_of text) name e in
    (sound_name text name (bytes_from_fits text small) read.0, read.1)

-- the only RDN is a name of one
only_name : (pieces : List (List ℕ)) (rdn : SpelledRdn) → only_rdn pieces ≡ Some rdn → option_collect rdn_of pieces ≡ Some (rdn ∷ [])
only_name [] rdn e = absurd (cc)
only_name (piece ∷ []) rdn e = rw e refl
only_name (piece ∷ other ∷ more) rdn e = absurd (cc)

one_rdn : (text : List ℕ) (rdn : SpelledRdn) → only_rdn_of text ≡ Some rdn → name_of text ≡ Some (rdn ∷ [])
one_rdn [] rdn e = absurd (cc)
one_rdn (b ∷ bs) rdn e = only_name (pieces 44 false (b ∷ bs)) rdn e

pub read_rdn_sound : (text : List ℕ) (rdn : SpelledRdn) → ((i : ℕ) → get_or text i 0 < 256) → rdn_within_limit text ≡ Ok rdn → IsSoundRdn rdn
read_rdn_sound text rdn small e =
    let read = within is_rdn_within_limit (only_rdn_of text) rdn e in
    (and_first (is_sound_rdn rdn) true (sound_name text (rdn ∷ []) (bytes_from_fits text small) (one_rdn text rdn read.0)), read.1)

-- what a call printed, and what the text reads back as, say that the name is sound
pub printed_sound : (name : SpelledName) → is_ascii (printed_name name) ≡ true → name_within_limits (printed_name name) ≡ Ok name → IsSoundName name
printed_sound name ascii back = read_name_sound (printed_name name) name (ascii_bytes (printed_name name) ascii) back

pub printed_rdn_sound : (rdn : SpelledRdn) → is_ascii (printed_rdn rdn) ≡ true → rdn_within_limit (printed_rdn rdn) ≡ Ok rdn → IsSoundRdn rdn
printed_rdn_sound rdn ascii back = read_rdn_sound (printed_rdn rdn) rdn (ascii_bytes (printed_rdn rdn) ascii) back

-- ---- one more value

pub lines_more : (lines : List (Described × List ℕ)) (line : Described × List ℕ) → ValuesAreBytes lines → IsBytes line.1 → ValuesAreBytes (lines ++ line ∷ [])
lines_more [] line h b = (b, tt)
lines_more (l ∷ ls) line h b = (h.0, lines_more ls line h.1 b)

pub values_more : (values : List (List ℕ)) (value : List ℕ) → AreBytes values → IsBytes value → AreBytes (values ++ value ∷ [])
values_more [] value h b = (b, tt)
values_more (v ∷ vs) value h b = (h.0, values_more vs value h.1 b)

pub mods_more : (mods : List Mod) (m : Mod) → ModsAreBytes mods → AreBytes m.values → ModsAreBytes (mods ++ m ∷ [])
mods_more [] m h b = (b, tt)
mods_more (n ∷ ns) m h b = (h.0, mods_more ns m h.1 b)
