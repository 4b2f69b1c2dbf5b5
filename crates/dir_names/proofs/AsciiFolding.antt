-- ASCII takes a short way through folding.
use Rattle.std.proofs.Common.{◌≡◌, ℕ, ◌<◌, Bool, true, false, List, Ok, Err, refl, ap, sym, ◌∙◌, Decides, MatchBool, arith}
use Rattle.std.specs.Prelude.{nat_lt, IsAscii, IsUtf8, chars, encode_utf8_all}
use Rattle.std.specs.Str.{IsNotAscii, is_utf8, str_to_ascii_lowercase}
use Rattle.std.specs.Char.{to_ascii_lowercase}
use Rattle.std.specs.List.{All}
use Rattle.std.proofs.lemmas.Str.{chars-IsAscii, encodes-IsAscii, IsUtf8-from_ascii, is_utf8-from_IsUtf8, IsUtf8-from_is_utf8, chars_from_encodes}
use Rattle.std.proofs.lemmas.Str.Ascii.{IsAscii-from_all, All-from_ascii, IsAscii-map, lowercase_ascii}
use Rattle.std.proofs.lemmas.Bool.Decides.{Decides-by_and, Decides-ltb}
use Rattle.caseless.specs.Caseless.{default_case_fold}
use Rattle.caseless.proofs.CaselessLemmas.{default_case_fold-ascii}
use Rattle.unicode_normalization.specs.declared.Form.TheVariants.{Nfkc}
use Rattle.unicode_normalization.specs.Forms.{nfkc}
use Rattle.unicode_normalization.proofs.FormsLemmas.{normalize-ascii}
use Rattle.dir_names.specs.declared.fault.NameFault.TheVariants.{BadValue}
use Rattle.std.specs.Prelude.{◌==◌, ◌&&◌, not, length}
use Rattle.dir_names.specs.ValueKeys.Spaces.{without_extra_spaces}
use Rattle.dir_names.specs.ValueKeys.{folded_text, is_ascii, is_text, key_if}

pub is_ascii_decides : (text : List ℕ) → Decides (is_ascii text) (All (λ b. b < 128) text)
is_ascii_decides text = Decides-by_and (λ b. nat_lt b 128) (λ b. b < 128) is_ascii (λ b. Decides-ltb b 128) refl (λ _ _. refl) text

pub ascii_from_test : (text : List ℕ) → is_ascii text ≡ true → IsAscii text
ascii_from_test text e = IsAscii-from_all text ((is_ascii_decides text).0 e)

-- what std's test says
pub same_test : (text : List ℕ) (r : Bool) → MatchBool r (IsAscii text) (IsNotAscii text) → r ≡ is_ascii text
same_test text true h = sym ((is_ascii_decides text).1 (All-from_ascii text h))
same_test text false h = by (is_ascii text) refl
  where
    by : (t : Bool) → is_ascii text ≡ t → false ≡ t
    by true e = let low = ascii_from_test text e h.0 in absurd (omega (arith, low, h.1))
    by false e = refl

pub ascii_utf8 : (text : List ℕ) → IsAscii text → is_utf8 text ≡ true
ascii_utf8 text a = is_utf8-from_IsUtf8 text (IsUtf8-from_ascii text a)

pub folded_text-ascii : (text : List ℕ) → IsAscii text → folded_text text ≡ str_to_ascii_lowercase text
folded_text-ascii text a =
    let small = IsAscii-map to_ascii_lowercase text lowercase_ascii a in
    ap (λ cs. encode_utf8_all (nfkc (default_case_fold cs))) (chars-IsAscii text a)
    ∙ ap (λ cs. encode_utf8_all (nfkc cs)) (default_case_fold-ascii text (All-from_ascii text a))
    ∙ ap encode_utf8_all (normalize-ascii Nfkc (str_to_ascii_lowercase text) (All-from_ascii _ small))
    ∙ encodes-IsAscii (str_to_ascii_lowercase text) small

-- what the two calls give, one after the other
pub folded_by : (text small whole : List ℕ) → IsUtf8 small → small ≡ encode_utf8_all (default_case_fold (chars text)) → whole ≡ encode_utf8_all (nfkc (chars small)) → whole ≡ folded_text text
folded_by text small whole u e f = f ∙ ap (λ cs. encode_utf8_all (nfkc cs)) (sym (chars_from_encodes (default_case_fold (chars text)) small u (sym e)))

pub ascii_key : (text : List ℕ) → is_ascii text ≡ true → Ok (str_to_ascii_lowercase text) ≡ key_if (is_utf8 text) (folded_text text)
ascii_key text e =
    let a = ascii_from_test text e in
    ap Ok (sym (folded_text-ascii text a)) ∙ ap (λ b. key_if b (folded_text text)) (sym (ascii_utf8 text a))

pub utf8_key : (text : List ℕ) → IsUtf8 text → Ok (folded_text text) ≡ key_if (is_utf8 text) (folded_text text)
utf8_key text u = ap (λ b. key_if b (folded_text text)) (sym (is_utf8-from_IsUtf8 text u))

pub no_key : (text : List ℕ) → ¬ (IsUtf8 text) → key_if (is_utf8 text) (folded_text text) ≡ Err BadValue
no_key text n = by (is_utf8 text) refl
  where
    by : (b : Bool) → is_utf8 text ≡ b → key_if b (folded_text text) ≡ Err BadValue
    by true e = absurd (n (IsUtf8-from_is_utf8 text e))
    by false e = refl

pub not_utf8 : (text : List ℕ) → ¬ (IsUtf8 text) → is_utf8 text ≡ false
not_utf8 text n = by (is_utf8 text) refl
  where
    by : (b : Bool) → is_utf8 text ≡ b → b ≡ false
    by true e = absurd (n (IsUtf8-from_is_utf8 text e))
    by false e = refl

-- the key of an ASCII value regardless of case
pub ascii_text_key : (text : List ℕ) → false ≡ (length text == 0) → is_ascii text ≡ true → Ok (without_extra_spaces (str_to_ascii_lowercase text)) ≡ key_if (is_text text) (without_extra_spaces (folded_text text))
ascii_text_key text some e =
    let a = ascii_from_test text e in
    ap (λ t. Ok (without_extra_spaces t)) (sym (folded_text-ascii text a))
    ∙ (λ i. key_if (not (some i) && sym (ascii_utf8 text a) i) (without_extra_spaces (folded_text text)))
