-- What is shown after words, whatever the options.
use Rattle.std.proofs.Common.{◌≡◌, ℕ, List, ◌++◌, Option, None, Some, Result, IsOk, refl, subst}
use Rattle.std.specs.declared.fmt.Error.{Error}
use Rattle.std.specs.declared.fmt.Formatter.{Formatter}
use Rattle.std.specs.Fmt.{DisplaysStyledOnOk, HasWrittenStyled, WritesStyledOnOk, option_append}
use Rattle.std.proofs.Output.{has_written_styled_append, has_written_styled_of_eq}

module _ {W : Type 0} (took : W → List ℕ → W → Type 0) (f g h : Formatter W) (r s : Result (Unit {0}) Error) where
  -- two texts in a row
  pub two_shown : (a b all : List ℕ) → WritesStyledOnOk took f r a g → IsOk r → WritesStyledOnOk took g s b h → a ++ b ≡ all → WritesStyledOnOk took f s all h
  two_shown a b all first ok second whole flush ok' =
      let w : HasWrittenStyled took f a g = first flush ok in
      has_written_styled_of_eq took f (a ++ b) all h whole (has_written_styled_append took f a g b h w (second w.flush ok'))

  -- words, and what a value shows under the options of the formatter, which stay as they are
  pub shown_after : {S : Type 0} (spec : Formatter W → S) (a : List ℕ) (o : S → Option (List ℕ)) → (HasWrittenStyled took f a g → spec g ≡ spec f) → WritesStyledOnOk took f r a g → IsOk r
      → DisplaysStyledOnOk took g s (o (spec g)) h → DisplaysStyledOnOk took f s (option_append (Some a) (o (spec f))) h
  shown_after {S} spec a o keeps first ok second = at (o (spec f)) refl
    where
      at : (v : Option (List ℕ)) → o (spec f) ≡ v → DisplaysStyledOnOk took f s (option_append (Some a) v) h
      at None is = tt
      at (Some b) is = λ flush ok'.
          let w : HasWrittenStyled took f a g = first flush ok in
          let same : DisplaysStyledOnOk took g s (o (spec f)) h = subst (λ (p : S). DisplaysStyledOnOk took g s (o p) h) (keeps w) second in
          let shows : WritesStyledOnOk took g s b h = subst (λ (v : Option (List ℕ)). DisplaysStyledOnOk took g s v h) is same in
          has_written_styled_append took f a g b h w (shows w.flush ok')
