-- A base64 text in pieces: if its first 1,024 bytes are the text of 768 bytes, it is base64 exactly if the rest is; if not,
-- it is not.
use Rattle.std.proofs.Common.{◌≡◌, ℕ, zero, suc, ◌+◌, ◌-◌, ◌*◌, ◌/◌, ◌%◌, ◌<◌, ◌≤◌, nat_lt, nat_eq, ◌&&◌, Bool, true, false, List, [], ◌∷◌, ◌++◌, length, take, drop, replicate, slice_index, refl, sym, ap, subst, ◌∙◌, arith, inl, inr, ◌⊎◌}
use Rattle.std.specs.Prelude.{IfErr, IfOk}
use Rattle.std.proofs.lemmas.List.{take-append-drop, take_at, drop_at, length-append, length-drop, length-take-le, get_or-drop, length-replicate}
use Rattle.std.specs.declared.option.Option.{Option}
use Rattle.std.specs.declared.option.Option.TheVariants.{None, Some}
use Rattle.std.specs.declared.result.Result.{Result}
use Rattle.std.specs.declared.result.Result.TheVariants.{Ok, Err}
use Rattle.base64.specs.declared.decode.DecodeError.{DecodeError}
use Rattle.base64.specs.declared.engine.DecodePaddingMode.{DecodePaddingMode}
use Rattle.base64.specs.Decode.{IsDecodeTable, decode_error, decode_group, decode_outcome, decoded_bytes, group_bytes, group_error, groups_before_last, groups_bytes, groups_error, lone_error, no_leftover, or_else, scan_bytes, scan_last, suffix_bytes, suffix_error, symbol_error}
use Rattle.base64.specs.Engines.{standard}
use Rattle.base64.specs.GeneralPurpose.{IsBytes, IsDecodedInto, decode_of, encode_of}
use Rattle.base64.specs.Rfc4648.{encode_symbols, padding_len}
use Rattle.base64.specs.Tables.{is_inverse}
use Rattle.base64.proofs.Canonical.{IsScanned-scan}
use Rattle.base64.proofs.EngineFacts.{decode_of-encode_of, decode_of_strict, encode_of-append, front_bytes}
use Rattle.base64.proofs.RoundTrip.{length-encode_symbols}
use Rattle.base64.proofs.Tables.{IsDecodeTable_from, are_tables_inverse}
use Rattle.std.specs.Result.{is_ok}
use Rattle.std.proofs.lemmas.Bool.{cases_Bool, eq-eqb, eqb-true, lt-ltb}
use Rattle.dir_ldif.specs.declared.faults.RecordFault.TheVariants.{BadBase64, ValueTooLong}
use Rattle.dir_names.specs.Results.{and_then}
use Rattle.dir_ldif.specs.AttrVal.{base64_value, is_base64, or_bad_base64, within_limit}

-- ---- what is decoded is bytes

bytes-append : (a b : List ℕ) → IsBytes a → IsBytes b → IsBytes (a ++ b)
bytes-append [] b ha hb i = hb i
bytes-append (x ∷ a) b ha hb zero = ha 0
bytes-append (x ∷ a) b ha hb (suc i) = bytes-append a b (λ k. ha (suc k)) hb i

no_bytes : IsBytes []
no_bytes i = omega arith

three_bytes : (a b c : ℕ) → a < 256 → b < 256 → c < 256 → IsBytes (a ∷ b ∷ c ∷ [])
three_bytes a b c la lb lc zero = la
three_bytes a b c la lb lc (suc zero) = lb
three_bytes a b c la lb lc (suc (suc zero)) = lc
three_bytes a b c la lb lc (suc (suc (suc i))) = omega arith

pub take_bytes : (n : ℕ) (a : List ℕ) → IsBytes a → IsBytes (take n a)
take_bytes n a h = front_bytes (take n a) (drop n a) (subst IsBytes (sym (take-append-drop n a)) h)

pub drop_bytes : (n : ℕ) (a : List ℕ) → IsBytes a → IsBytes (drop n a)
drop_bytes n a h i = rw (get_or-drop n a i 0) (h (n + i))

group_small : (m0 m1 m2 m3 : ℕ) → m0 < 64 → m1 < 64 → m2 < 64 → m3 < 64 → IsBytes (decode_group m0 m1 m2 m3)
group_small m0 m1 m2 m3 l0 l1 l2 l3 =
    three_bytes (m0 * 4 + m1 / 16) (m1 % 16 * 16 + m2 / 4) (m2 % 4 * 64 + m3) (omega arith) (omega arith) (omega arith)

or_else_none : (x y : Option DecodeError) → or_else x y ≡ None → (x ≡ None) × (y ≡ None)
or_else_none None y h = (refl, h)
or_else_none (Some e) y h = cc h

symbol_small : (dec s : List ℕ) (i : ℕ) → IsDecodeTable dec → IsBytes s → symbol_error dec s i ≡ None → slice_index dec (slice_index s i) < 64
symbol_small dec s i table bytes h = elim (table (slice_index s i) (bytes i)) [
  | inl bad ↦ cc (rw bad at h)
  | inr good ↦ good
]

groups_small : (dec s : List ℕ) (q : ℕ) → IsDecodeTable dec → IsBytes s → groups_error dec s q ≡ None → IsBytes (groups_bytes dec s q)
unfolding groups_error groups_bytes
groups_small dec s zero table bytes none = no_bytes
groups_small dec s (suc q) table bytes none =
    let i : ℕ = 4 * q in
    let parts = or_else_none (groups_error dec s q) (group_error dec s i) none in
    let p0 = or_else_none (symbol_error dec s i) _ parts.1 in
    let p1 = or_else_none (symbol_error dec s (i + 1)) _ p0.1 in
    let p2 = or_else_none (symbol_error dec s (i + 2)) (symbol_error dec s (i + 3)) p1.1 in
    bytes-append (groups_bytes dec s q) (group_bytes dec s i) (groups_small dec s q table bytes parts.0)
    (group_small _ _ _ _ (symbol_small dec s i table bytes p0.0) (symbol_small dec s (i + 1) table bytes p1.0) (symbol_small dec s (i + 2) table bytes p2.0)
    (symbol_small dec s (i + 3) table bytes p2.1))

zeros_below : (k : ℕ) → slice_index (0 ∷ 0 ∷ 0 ∷ 0 ∷ []) k < 64
zeros_below zero = omega arith
zeros_below (suc zero) = omega arith
zeros_below (suc (suc zero)) = omega arith
zeros_below (suc (suc (suc zero))) = omega arith
zeros_below (suc (suc (suc (suc k)))) = omega arith

result_cases : {T E : Type 0} → (r : Result T E) → ((x : T) × (r ≡ Ok x)) ⊎ ((e : E) × (r ≡ Err e))
result_cases (Ok x) = inl (x, refl)
result_cases (Err e) = inr (e, refl)

suffix_small : (enc dec s : List ℕ) (pad at : ℕ) → is_inverse enc dec ≡ true → IsBytes s → length s ≤ at + 4 → IsBytes (suffix_bytes dec pad at s)
suffix_small enc dec s pad at inv bytes short =
    let rest : List ℕ = drop at s in
    let lr : length rest ≡ length s - at = length-drop at s in
    elim (result_cases (scan_last dec pad at s)) [
      | inl ok ↦
          let st = ok.0 in
          let held = IsScanned-scan enc dec rest pad at rest no_leftover st 0 inv (drop_bytes at s bytes) (omega arith) (omega arith) refl
          ((refl, refl, λ j lt. absurd (omega arith), λ j low lt. absurd (omega arith)), (omega arith, omega arith, omega arith, zeros_below)) ok.1 in
          let small = held.1.3 in
          let group = group_small (slice_index st.morsels 0) (slice_index st.morsels 1) (slice_index st.morsels 2) (slice_index st.morsels 3) (small 0) (small 1) (small 2) (small 3) in
          subst (λ r. IsBytes (scan_bytes r)) (sym ok.1) (take_bytes (st.morsels_count * 6 / 8) _ group)
      | inr err ↦ subst (λ r. IsBytes (scan_bytes r)) (sym err.1) no_bytes
    ]

outcome_ok : (x : Option DecodeError) (d b : List ℕ) → decode_outcome x d ≡ Ok b → (x ≡ None) × (d ≡ b)
outcome_ok None d b h = (refl, cc h)
outcome_ok (Some e) d b h = cc h

decoded_small : (enc dec s w : List ℕ) (pad : ℕ) (allow : Bool) (mode : DecodePaddingMode) → is_inverse enc dec ≡ true → IsBytes s
    → decode_outcome (decode_error dec pad allow mode s) (decoded_bytes dec pad s) ≡ Ok w → IsBytes w
decoded_small enc dec s w pad allow mode inv bytes ok =
    let parts = outcome_ok (decode_error dec pad allow mode s) (decoded_bytes dec pad s) w ok in
    let q : ℕ = groups_before_last (length s) in
    let p0 = or_else_none (lone_error dec pad s) (or_else (groups_error dec s q) (suffix_error dec pad allow mode (4 * q) s)) parts.0 in
    let p1 = or_else_none (groups_error dec s q) (suffix_error dec pad allow mode (4 * q) s) p0.1 in
    subst IsBytes parts.1 (bytes-append (groups_bytes dec s q) (suffix_bytes dec pad (4 * q) s) (groups_small dec s q (IsDecodeTable_from enc dec inv) bytes p1.0)
    (suffix_small enc dec s pad (4 * q) inv bytes (omega arith)))

pub decoded_is_bytes : (s w : List ℕ) → IsBytes s → decode_of standard s ≡ Ok w → IsBytes w
decoded_is_bytes s w bytes ok =
    decoded_small standard.encode_table standard.decode_table s w standard.padding.value standard.config.decode_allow_trailing_bits standard.config.decode_padding_mode
    (are_tables_inverse standard.encode_table standard.decode_table standard.padding.value standard.tables) bytes ok

-- ---- lengths

pub length-encoded : (w : List ℕ) → length (encode_of standard w) ≡ 4 * ((length w + 2) / 3)
length-encoded w =
    let pad : ℕ = 61 in
    omega (arith, length-append (encode_symbols standard.encode_table w) (replicate (padding_len (length w)) pad), length-encode_symbols standard.encode_table w, length-replicate (padding_len (length w)) pad)

pub is_encoded : (s w : List ℕ) → IsBytes s → decode_of standard s ≡ Ok w → s ≡ encode_of standard w
is_encoded s w bytes ok = decode_of_strict standard s w (refl, refl) bytes ok

-- the value of a text past the limit is past its own
pub long_value : (s w : List ℕ) → IsBytes s → decode_of standard s ≡ Ok w → 1398104 < length s → 1048576 < length w
long_value s w bytes ok long =
    let e : length s ≡ 4 * ((length w + 2) / 3) = ap length (is_encoded s w bytes ok) ∙ length-encoded w in
    omega arith

-- ---- two pieces

pub joined_pieces : (front rest a b : List ℕ) → IsBytes front → IsBytes rest → decode_of standard front ≡ Ok a → decode_of standard rest ≡ Ok b → length a ≡ 768
    → decode_of standard (front ++ rest) ≡ Ok (a ++ b)
joined_pieces front rest a b fb rb fa rs whole =
    let ea = is_encoded front a fb fa in
    let eb = is_encoded rest b rb rs in
    let both : encode_of standard (a ++ b) ≡ front ++ rest = encode_of-append standard a b (omega arith) ∙ rw (← ea, ← eb) refl in
    subst (λ t. decode_of standard t ≡ Ok (a ++ b)) both
    (decode_of-encode_of standard (a ++ b) refl (bytes-append a b (decoded_is_bytes front a fb fa) (decoded_is_bytes rest b rb rs)))

pub cut_pieces : (front rest w : List ℕ) → IsBytes (front ++ rest) → length front ≡ 1024 → 0 < length rest → decode_of standard (front ++ rest) ≡ Ok w
    → (decode_of standard front ≡ Ok (take 768 w)) × (length (take 768 w) ≡ 768) × (decode_of standard rest ≡ Ok (drop 768 w))
cut_pieces front rest w bytes lf some ok =
    let s : List ℕ = front ++ rest in
    let wb : IsBytes w = decoded_is_bytes s w bytes ok in
    let es : s ≡ encode_of standard w = is_encoded s w bytes ok in
    let ls : length s ≡ 4 * ((length w + 2) / 3) = ap length es ∙ length-encoded w in
    let lw : 768 ≤ length w = omega (arith, length-append front rest) in
    let a : List ℕ = take 768 w in
    let b : List ℕ = drop 768 w in
    let la : length a ≡ 768 = length-take-le 768 w lw in
    let parts : encode_of standard w ≡ encode_of standard a ++ encode_of standard b =
    ap (encode_of standard) (sym (take-append-drop 768 w)) ∙ encode_of-append standard a b (omega arith) in
    let le : length (encode_of standard a) ≡ 1024 = length-encoded a ∙ omega arith in
    let same : front ++ rest ≡ encode_of standard a ++ encode_of standard b = es ∙ parts in
    let ef : front ≡ encode_of standard a = sym (take_at front rest 1024 lf) ∙ ap (take 1024) same ∙ take_at (encode_of standard a) (encode_of standard b) 1024 le in
    let er : rest ≡ encode_of standard b = sym (drop_at front rest 1024 lf) ∙ ap (drop 1024) same ∙ drop_at (encode_of standard a) (encode_of standard b) 1024 le in (
      subst (λ t. decode_of standard t ≡ Ok a) (sym ef) (decode_of-encode_of standard a refl (take_bytes 768 w wb)),
      la,
      subst (λ t. decode_of standard t ≡ Ok b) (sym er) (decode_of-encode_of standard b refl (drop_bytes 768 w wb)),
    )

-- ---- the test of a text

pub base64-yes : (s b : List ℕ) → decode_of standard s ≡ Ok b → is_base64 s ≡ true
unfolding is_base64 base64_value
base64-yes s b e = ap (λ r. is_ok (or_bad_base64 r)) e

pub base64-no : (s : List ℕ) (f : DecodeError) → decode_of standard s ≡ Err f → is_base64 s ≡ false
unfolding is_base64 base64_value
base64-no s f e = ap (λ r. is_ok (or_bad_base64 r)) e

-- what decoding a text into a slice tells
pub told : (s old new : List ℕ) (r : Result ℕ DecodeError) → IfOk r (λ n. IsDecodedInto standard s n old new) → IfErr r (λ e. decode_of standard s ≡ Err e) → is_ok r ≡ is_base64 s
told s old new (Ok n) ok err = sym (base64-yes s (take n new) ok.0)
told s old new (Err e) ok err = sym (base64-no s e err)

pub whole_piece : (front rest a : List ℕ) → IsBytes front → IsBytes rest → length front ≡ 1024 → 0 < length rest → decode_of standard front ≡ Ok a → length a ≡ 768
    → is_base64 (front ++ rest) ≡ is_base64 rest
whole_piece front rest a fb rb lf some fa la = elim (result_cases (decode_of standard rest)) [
  | inl ok ↦ base64-yes (front ++ rest) (a ++ ok.0) (joined_pieces front rest a ok.0 fb rb fa ok.1 la) ∙ sym (base64-yes rest ok.0 ok.1)
  | inr err ↦ elim (result_cases (decode_of standard (front ++ rest))) [
    | inl ok ↦
        let cut = cut_pieces front rest ok.0 (bytes-append front rest fb rb) lf some ok.1 in
        cc (sym err.1 ∙ cut.2)
    | inr other ↦ base64-no (front ++ rest) other.0 other.1 ∙ sym (base64-no rest err.0 err.1)
  ]
]

pub other_piece : (front rest : List ℕ) → IsBytes front → IsBytes rest → length front ≡ 1024 → 0 < length rest
    → ((a : List ℕ) → decode_of standard front ≡ Ok a → length a ≡ 768 → ⊥) → is_base64 (front ++ rest) ≡ false
other_piece front rest fb rb lf some none = elim (result_cases (decode_of standard (front ++ rest))) [
  | inl ok ↦
      let cut = cut_pieces front rest ok.0 (bytes-append front rest fb rb) lf some ok.1 in
      absurd (none (take 768 ok.0) cut.0 cut.1)
  | inr err ↦ base64-no (front ++ rest) err.0 err.1
]

-- what decoding a piece into a slice tells
pub piece_told : (front rest old new : List ℕ) (n : ℕ) → IsBytes front → IsBytes rest → length front ≡ 1024 → 0 < length rest → n ≤ length new
    → IsDecodedInto standard front n old new → is_base64 (front ++ rest) ≡ (nat_eq n 768 && is_base64 rest)
piece_told front rest old new n fb rb lf some fits ok = elim (cases_Bool (nat_eq n 768)) [
  | inl same ↦
      let ln : n ≡ 768 = eqb-true n 768 same in
      whole_piece front rest (take n new) fb rb lf some ok.0 (length-take-le n new fits ∙ ln) ∙ ap (λ b. b && is_base64 rest) (sym same)
  | inr other ↦
      let none : (a : List ℕ) → decode_of standard front ≡ Ok a → length a ≡ 768 → ⊥ = λ a e la.
      let is : take n new ≡ a = cc (sym ok.0 ∙ e) in
      let ln : n ≡ 768 = sym (length-take-le n new fits) ∙ ap length is ∙ la in
      cc (sym other ∙ eq-eqb n 768 ln) in
      other_piece front rest fb rb lf some none ∙ ap (λ b. b && is_base64 rest) (sym other)
]

-- a text past the limit
pub long-yes : (s : List ℕ) → IsBytes s → 1398104 < length s → is_base64 s ≡ true → and_then (base64_value s) within_limit ≡ Err ValueTooLong
unfolding base64_value
long-yes s bytes long good = elim (result_cases (decode_of standard s)) [
  | inl ok ↦
      let past : nat_lt 1048576 (length ok.0) ≡ true = lt-ltb 1048576 (length ok.0) (long_value s ok.0 bytes ok.1 long) in
      ap (λ r. and_then (or_bad_base64 r) within_limit) ok.1 ∙ rw past refl
  | inr err ↦ cc (sym good ∙ base64-no s err.0 err.1)
]

pub long-no : (s : List ℕ) → is_base64 s ≡ false → and_then (base64_value s) within_limit ≡ Err BadBase64
unfolding base64_value
long-no s bad = elim (result_cases (decode_of standard s)) [
  | inl ok ↦ cc (sym bad ∙ base64-yes s ok.0 ok.1)
  | inr err ↦ ap (λ r. and_then (or_bad_base64 r) within_limit) err.1
]
