-- A value read byte by byte: what was written, and the rest.
use Rattle.std.proofs.Common.{◌≡◌, ℕ, ◌<◌, ◌+◌, true, false, List, [], ◌∷◌, ◌++◌, drop, length, get_or, Option, Some, None, refl, sym, ap, subst, ◌∙◌, append_assoc}
use Rattle.std.specs.Option.{option_map}
use Rattle.std.proofs.lemmas.List.{drop_more, append-nil}
use Rattle.dir_acl.specs.declared.filter.assertion.Escape.{Escape}
use Rattle.dir_acl.specs.declared.filter.assertion.Escape.TheVariants.{Outside, AfterBackslash, AfterDigit}
use Rattle.dir_acl.specs.declared.filter.assertion.Step.TheVariants.{Byte, Inside, Refused}
use Rattle.dir_acl.specs.Inside.Escapes.{step_of, after_step, unescaped_from, has_digit, is_outside}

-- the value after what was written
abbrev pub after : List ℕ → Option (List ℕ) → Option (List ℕ)
after out rest = option_map (λ bs. out ++ bs) rest

after_none : (v : Option (List ℕ)) → v ≡ after [] v
after_none None = refl
after_none (Some bs) = refl

after_byte : (out : List ℕ) (c : ℕ) (rest : Option (List ℕ)) → after out (option_map (λ bs. c ∷ bs) rest) ≡ after (out ++ c ∷ []) rest
after_byte out c None = refl
after_byte out c (Some bs) = ap Some (sym (append_assoc out (c ∷ []) bs))

-- what the loop keeps
pub record Reads (text : List ℕ) (out : List ℕ) (place : Escape) (rest : List ℕ) : Type 0 where
  pub digit : has_digit place ≡ true
  pub so_far : unescaped_from Outside text ≡ after out (unescaped_from place rest)

pub reads_none : (text : List ℕ) → Reads text [] Outside text
reads_none text = record { digit = refl; so_far = after_none (unescaped_from Outside text) }

pub reads_at : (text out : List ℕ) (place : Escape) (i : ℕ) → i < length text → Reads text out place (drop i text) → Reads text out place (get_or text i 0 ∷ drop (i + 1) text)
reads_at text out place i inside r = subst (Reads text out place) (drop_more text i 0 inside) r

pub reads_byte : (text out : List ℕ) (place : Escape) (b : ℕ) (rest : List ℕ) → Reads text out place (b ∷ rest) → (c : ℕ) → step_of place b ≡ Byte c → (new : List ℕ) → new ≡ out ++ c ∷ [] → Reads text new Outside rest
reads_byte text out place b rest r c e new n = record {
  digit = refl;
  so_far =
      r.so_far ∙ ap (λ s. after out (after_step s (λ next. unescaped_from next rest))) e ∙ after_byte out c (unescaped_from Outside rest)
      ∙ ap (λ l. after l (unescaped_from Outside rest)) (sym n);
}

pub reads_inside : (text out : List ℕ) (place : Escape) (b : ℕ) (rest : List ℕ) → Reads text out place (b ∷ rest) → (next : Escape) → step_of place b ≡ Inside next → has_digit next ≡ true → Reads text out next rest
reads_inside text out place b rest r next e d = record { digit = d; so_far = r.so_far ∙ ap (λ s. after out (after_step s (λ next. unescaped_from next rest))) e }

pub reads_refused : (text out : List ℕ) (place : Escape) (b : ℕ) (rest : List ℕ) → Reads text out place (b ∷ rest) → step_of place b ≡ Refused → unescaped_from Outside text ≡ None
reads_refused text out place b rest r e = r.so_far ∙ ap (λ s. after out (after_step s (λ next. unescaped_from next rest))) e

pub reads_end : (text out : List ℕ) (place : Escape) → Reads text out place [] → is_outside place ≡ true → unescaped_from Outside text ≡ Some out
reads_end text out Outside r e = r.so_far ∙ ap Some (append-nil out)
reads_end text out AfterBackslash r e = absurd (cc)
reads_end text out (AfterDigit high) r e = absurd (cc)

pub reads_cut : (text out : List ℕ) (place : Escape) → Reads text out place [] → is_outside place ≡ false → unescaped_from Outside text ≡ None
reads_cut text out Outside r e = absurd (cc)
reads_cut text out AfterBackslash r e = r.so_far
reads_cut text out (AfterDigit high) r e = r.so_far
