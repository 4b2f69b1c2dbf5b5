-- A text that is written character by character, each of which is escaped.
use Rattle.std.proofs.Common.{◌≡◌, ℕ, List, [], ◌∷◌, ◌++◌, ◌<◌, arith, length, ◌/◌, ◌%◌, true, codes, cond, ◌&&◌, Result, IsOk, refl, sym, ap, ◌∙◌, append-nil, append_assoc}
use Rattle.std.proofs.lemmas.Str.{encode_ascii}
use Rattle.std.proofs.str.Decodes.{chars-nil, decodes_before}
use Rattle.std.specs.declared.fmt.Error.{Error}
use Rattle.std.specs.declared.fmt.Formatter.{Formatter}
use Rattle.std.specs.Char.{encode_utf8, is_control}
use Rattle.std.specs.Fmt.{HasWritten, HasWrittenStyled, WritesOnOk, WritesStyledOnOk}
use Rattle.std.specs.Str.{chars}
use Rattle.std.proofs.Math.Utf8.{scalar}
use Rattle.std.proofs.Output.{has_written_append, has_written_of_eq, has_written_styled_append, has_written_styled_of_eq}
use Rattle.dir_files.specs.Escape.{hex_digit, shown_char, shown_chars}

-- three texts in a row
module _ {W : Type 0} (took : W → List ℕ → W → Type 0) (f g h k : Formatter W) (r s t : Result (Unit {0}) Error) (a b c all : List ℕ) (is : a ++ b ++ c ≡ all) where
  pub three_written : WritesOnOk took f r a g → IsOk r → WritesOnOk took g s b h → IsOk s → WritesOnOk took h t c k → WritesOnOk took f t all k
  three_written first ok second ok' third plain last =
      let w : HasWritten took f a g = first plain ok in
      let v : HasWritten took g b h = second w.plain ok' in
      has_written_of_eq took f (a ++ b ++ c) all k is (has_written_append took f (a ++ b) h c k (has_written_append took f a g b h w v) (third v.plain last))

  pub three_shown : WritesStyledOnOk took f r a g → IsOk r → WritesStyledOnOk took g s b h → IsOk s → WritesStyledOnOk took h t c k → WritesStyledOnOk took f t all k
  three_shown first ok second ok' third flush last =
      let w : HasWrittenStyled took f a g = first flush ok in
      let v : HasWrittenStyled took g b h = second w.flush ok' in
      has_written_styled_of_eq took f (a ++ b ++ c) all k is (has_written_styled_append took f (a ++ b) h c k (has_written_styled_append took f a g b h w v) (third v.flush last))

-- a control character's code, from its digits
pub control_text : (c x y : ℕ) → is_control c ≡ true → x ≡ hex_digit (c / 16) → y ≡ hex_digit (c % 16) → x < 128 → y < 128
    → codes "\\x" ++ encode_utf8 x ++ encode_utf8 y ≡ shown_char c
control_text c x y is first second small small' =
    ap (λ (l : List ℕ). codes "\\x" ++ l ++ encode_utf8 y) (encode_ascii x small)
    ∙ ap (λ (l : List ℕ). codes "\\x" ++ (x ∷ []) ++ l) (encode_ascii y small')
    ∙ ap (λ (l : List ℕ). codes "\\x" ++ l) (λ i. first i ∷ second i ∷ [])
    ∙ sym (ap (λ b. cond b (codes "\\x" ++ hex_digit (c / 16) ∷ hex_digit (c % 16) ∷ []) (encode_utf8 c)) is)

pub shown_chars-append : (xs ys : List ℕ) → shown_chars (xs ++ ys) ≡ shown_chars xs ++ shown_chars ys
shown_chars-append [] ys = refl
shown_chars-append (x ∷ xs) ys = ap (λ (l : List ℕ). shown_char x ++ l) (shown_chars-append xs ys) ∙ sym (append_assoc (shown_char x) (shown_chars xs) (shown_chars ys))

pub chars_after_one : (c : ℕ) (rest : List ℕ) → scalar c ≡ true → chars (encode_utf8 c ++ rest) ≡ c ∷ chars rest
chars_after_one c rest is =
    ap (λ (l : List ℕ). chars (l ++ rest)) (sym (append-nil (encode_utf8 c))) ∙ decodes_before (c ∷ []) rest (ap (λ b. b && true) is)

-- one character more
module _ {W : Type 0} (took : W → List ℕ → W → Type 0) (f g h : Formatter W) (xs : List ℕ) (c : ℕ) where
  all : shown_chars xs ++ shown_char c ≡ shown_chars (xs ++ c ∷ [])
  all = ap (λ (l : List ℕ). shown_chars xs ++ l) (sym (append-nil (shown_char c))) ∙ sym (shown_chars-append xs (c ∷ []))

  pub one_more_written : HasWritten took f (shown_chars xs) g → HasWritten took g (shown_char c) h → HasWritten took f (shown_chars (xs ++ c ∷ [])) h
  one_more_written before now = has_written_of_eq took f (shown_chars xs ++ shown_char c) (shown_chars (xs ++ c ∷ [])) h all (has_written_append took f (shown_chars xs) g (shown_char c) h before now)

  pub one_more_shown : HasWrittenStyled took f (shown_chars xs) g → HasWrittenStyled took g (shown_char c) h → HasWrittenStyled took f (shown_chars (xs ++ c ∷ [])) h
  one_more_shown before now =
      has_written_styled_of_eq took f (shown_chars xs ++ shown_char c) (shown_chars (xs ++ c ∷ [])) h all (has_written_styled_append took f (shown_chars xs) g (shown_char c) h before now)

-- no character is left
pub whole_text : (text yielded rest : List ℕ) → chars text ≡ yielded ++ chars rest → length rest ≡ 0 → shown_chars yielded ≡ shown_chars (chars text)
whole_text text yielded [] is none = sym (ap shown_chars (is ∙ ap (λ (l : List ℕ). yielded ++ l) chars-nil ∙ append-nil yielded))
whole_text text yielded (x ∷ xs) is none = absurd (omega (arith, none))
