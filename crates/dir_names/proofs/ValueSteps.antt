-- A value read byte by byte: what was kept, the spaces that wait, and the rest.
use Rattle.std.proofs.Common.{◌≡◌, ℕ, ◌<◌, ◌≤◌, ◌+◌, ◌*◌, Bool, true, false, cond, List, [], ◌∷◌, ◌++◌, take, drop, length, get_or, Option, Some, None, refl, sym, ap, subst, ◌∙◌, append_assoc, arith}
use Rattle.std.specs.Option.{option_map}
use Rattle.std.proofs.Math.Seq.{take-length, drop-length}
use Rattle.std.proofs.lemmas.List.{take-append-drop, take-append-le, drop-append-le, length-append, drop_more}
use Rattle.dir_names.specs.declared.name.reading.Place.{Place}
use Rattle.dir_names.specs.declared.name.reading.Place.TheVariants.{Outside, AfterBackslash, AfterDigit}
use Rattle.dir_names.specs.declared.name.reading.Step.{Step}
use Rattle.dir_names.specs.declared.name.reading.Step.TheVariants.{Space, Byte, Inside, Refused}
use Rattle.dir_names.specs.Inside.Steps.{step_of, with_space, value_after_step, value_from, has_digit, keeps_digit, is_outside}
use Rattle.dir_names.specs.Names.Escapes.{is_hex, hex_of, is_escapable}

-- the value after what was kept and the spaces that wait
abbrev pub behind : List ℕ → List ℕ → Option (List ℕ) → Option (List ℕ)
behind kept waiting None = None
behind kept waiting (Some []) = Some kept
behind kept waiting (Some (b ∷ bs)) = Some (kept ++ (waiting ++ b ∷ bs))

space_behind : (kept waiting : List ℕ) (rest : Option (List ℕ)) → behind kept waiting (option_map with_space rest) ≡ behind kept (waiting ++ 32 ∷ []) rest
space_behind kept waiting None = refl
space_behind kept waiting (Some []) = refl
space_behind kept waiting (Some (b ∷ bs)) = ap (λ l. Some (kept ++ l)) (sym (append_assoc waiting (32 ∷ []) (b ∷ bs)))

byte_behind : (kept waiting : List ℕ) (c : ℕ) (rest : Option (List ℕ)) → behind kept waiting (option_map (λ bs. c ∷ bs) rest) ≡ behind ((kept ++ waiting) ++ c ∷ []) [] rest
byte_behind kept waiting c None = refl
byte_behind kept waiting c (Some []) = ap Some (sym (append_assoc kept waiting (c ∷ [])))
byte_behind kept waiting c (Some (b ∷ bs)) = ap Some (sym (append_assoc kept waiting (c ∷ b ∷ bs)) ∙ sym (append_assoc (kept ++ waiting) (c ∷ []) (b ∷ bs)))

-- what the loop keeps
pub record Reads (text : List ℕ) (out : List ℕ) (kept : ℕ) (place : Place) (rest : List ℕ) : Type 0 where
  pub digit : has_digit place ≡ true
  pub within : kept ≤ length out
  pub so_far : value_from Outside text ≡ behind (take kept out) (drop kept out) (value_from place rest)

pub reads_none : (text : List ℕ) → Reads text [] 0 Outside text
reads_none text = record { digit = refl; within = omega arith; so_far = by (value_from Outside text) }
  where
    by : (v : Option (List ℕ)) → v ≡ behind [] [] v
    by None = refl
    by (Some []) = refl
    by (Some (b ∷ bs)) = refl

no_space_behind : (x y : Bool) (h : Place) (c : ℕ) → cond x (Inside h) (cond y (Byte c) Refused) ≡ Space → ⊥
no_space_behind true y h c e = cc
no_space_behind false true h c e = cc
no_space_behind false false h c e = cc

no_space_second : (x : Bool) (c : ℕ) → cond x (Byte c) Refused ≡ Space → ⊥
no_space_second true c e = cc
no_space_second false c e = cc

-- a space leaves the place, which is Outside
outside_at_space : (place : Place) (b : ℕ) → step_of place b ≡ Space → place ≡ Outside
outside_at_space Outside b e = refl
outside_at_space AfterBackslash b e = absurd (no_space_behind (is_hex b) (is_escapable b) (AfterDigit (hex_of b)) b e)
outside_at_space (AfterDigit high) b e = absurd (no_space_second (is_hex b) (high * 16 + hex_of b) e)

-- the next byte of the text
pub reads_at : (text out : List ℕ) (kept : ℕ) (place : Place) (i : ℕ) → i < length text → Reads text out kept place (drop i text) → Reads text out kept place (get_or text i 0 ∷ drop (i + 1) text)
reads_at text out kept place i inside r = subst (Reads text out kept place) (drop_more text i 0 inside) r

module _ (text out : List ℕ) (kept : ℕ) (place : Place) (b : ℕ) (rest : List ℕ) (r : Reads text out kept place (b ∷ rest)) where
  step_is : (s : Step) → step_of place b ≡ s → value_from Outside text ≡ behind (take kept out) (drop kept out) (value_after_step s (λ next. value_from next rest))
  step_is s e = r.so_far ∙ ap (λ z. behind (take kept out) (drop kept out) (value_after_step z (λ next. value_from next rest))) e

  pub reads_space : step_of place b ≡ Space → (new : List ℕ) → new ≡ out ++ 32 ∷ [] → Reads text new kept place rest
  reads_space e new n = record {
    digit = r.digit;
    within = omega (arith, r.within, ap length n, length-append out (32 ∷ []));
    so_far =
        step_is Space e ∙ space_behind (take kept out) (drop kept out) (value_from Outside rest)
        ∙ (λ i. behind (taken i) (dropped i) (value_from (sym (outside_at_space place b e) i) rest));
  }
    where
      taken : take kept out ≡ take kept new
      taken = sym (ap (take kept) n ∙ take-append-le kept out (32 ∷ []) r.within)

      dropped : drop kept out ++ 32 ∷ [] ≡ drop kept new
      dropped = sym (ap (drop kept) n ∙ drop-append-le kept out (32 ∷ []) r.within)

  pub reads_byte : (c : ℕ) → step_of place b ≡ Byte c → (new : List ℕ) → new ≡ out ++ c ∷ [] → Reads text new (length new) Outside rest
  reads_byte c e new n = record {
    digit = refl;
    within = omega arith;
    so_far =
        step_is (Byte c) e ∙ byte_behind (take kept out) (drop kept out) c (value_from Outside rest)
        ∙ (λ i. behind (whole i) (sym (drop-length new) i) (value_from Outside rest));
  }
    where
      whole : (take kept out ++ drop kept out) ++ c ∷ [] ≡ take (length new) new
      whole = ap (λ l. l ++ c ∷ []) (take-append-drop kept out) ∙ sym n ∙ sym (take-length new)

  pub reads_inside : (next : Place) → step_of place b ≡ Inside next → keeps_digit (Inside next) ≡ true → Reads text out kept next rest
  reads_inside next e d = record { digit = d; within = r.within; so_far = step_is (Inside next) e }

  pub reads_refused : step_of place b ≡ Refused → value_from Outside text ≡ None
  reads_refused e = step_is Refused e

pub reads_all : (text out : List ℕ) (kept : ℕ) (place : Place) → Reads text out kept place [] → is_outside place ≡ true → value_from Outside text ≡ Some (take kept out)
reads_all text out kept Outside r e = r.so_far
reads_all text out kept AfterBackslash r e = absurd (cc)
reads_all text out kept (AfterDigit high) r e = absurd (cc)

pub reads_open : (text out : List ℕ) (kept : ℕ) (place : Place) → Reads text out kept place [] → is_outside place ≡ false → value_from Outside text ≡ None
reads_open text out kept Outside r e = absurd (cc)
reads_open text out kept AfterBackslash r e = r.so_far
reads_open text out kept (AfterDigit high) r e = r.so_far
