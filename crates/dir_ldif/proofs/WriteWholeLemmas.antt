-- Lemmas on what a sink has taken of a text.
use Rattle.std.proofs.Common.{◌≡◌, ℕ, List, ◌++◌, length, take, drop, sym, ap, subst, ◌∙◌, append_assoc, length-append, Option, arith}
use Rattle.std.specs.Io.KnownBytes.{Appends, Keeps}
use Rattle.std.proofs.KnownBytes.{Appends-trans, Appends-kept}
use Rattle.std.proofs.Math.Seq.{take-append_seam}
use Rattle.std.proofs.lemmas.List.{take-append-drop}
use Rattle.dir_ldif.specs.Device.{AppendsPrefix}

pub front_of : (old new : Option (List ℕ)) (text front rest : List ℕ) → Appends old new front → text ≡ front ++ rest → (n : ℕ) × AppendsPrefix old new text n
front_of old new text front rest took whole = (
  length front,
  (
    omega (arith, ap length whole, length-append front rest),
    subst (Appends old new) (sym (ap (take (length front)) whole ∙ take-append_seam front rest)) took,
  ),
)

pub front_kept : (old mid new : Option (List ℕ)) (text front rest : List ℕ) → Appends old mid front → text ≡ front ++ rest → Keeps mid new → (n : ℕ) × AppendsPrefix old new text n
front_kept old mid new text front rest took whole keeps = front_of old new text front rest (Appends-kept old mid new front took keeps) whole

pub front_grown : (old mid new : Option (List ℕ)) (text front rest : List ℕ) (n : ℕ) → Appends old mid front → text ≡ front ++ rest → Appends mid new (take n rest)
    → (front : List ℕ) × Appends old new front × (text ≡ front ++ drop n rest)
front_grown old mid new text front rest n took whole more = (
  front ++ take n rest,
  Appends-trans old mid new front (take n rest) took more,
  whole ∙ ap (λ t. front ++ t) (sym (take-append-drop n rest)) ∙ sym (append_assoc front (take n rest) (drop n rest)),
)
