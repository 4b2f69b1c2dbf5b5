-- Printed texts, as they are written piece by piece.
use Rattle.std.proofs.Common.{◌≡◌, ℕ, cond, List, [], ◌∷◌, ◌++◌, map, refl, sym, ap, ◌∙◌, append_assoc}
use Rattle.std.specs.Prelude.{◌==◌}
use Rattle.std.specs.List.{flat_map, join_with_byte}
use Rattle.std.proofs.lemmas.List.{append-nil}
use Rattle.dir_names.specs.Names.Printing.{escape_of, printed_byte, printed_rest}

pub joined-flat : {A : Type 0} (f : A → List ℕ) (separator : ℕ) (x : A) (xs : List A) → join_with_byte separator (map f (x ∷ xs)) ≡ f x ++ flat_map (λ y. separator ∷ f y) xs
joined-flat f separator x [] = sym (append-nil (f x))
joined-flat f separator x (y ∷ ys) = ap (λ l. f x ++ separator ∷ l) (joined-flat f separator y ys)

pub rest-snoc : (middle : List ℕ) (last : ℕ) → printed_rest (middle ++ last ∷ []) ≡ flat_map printed_byte middle ++ cond (last == 32) (escape_of last) (printed_byte last)
rest-snoc [] last = refl
rest-snoc (b ∷ []) last = ap (λ l. l ++ cond (last == 32) (escape_of last) (printed_byte last)) (sym (append-nil (printed_byte b)))
rest-snoc (b ∷ c ∷ bs) last =
    ap (λ l. printed_byte b ++ l) (rest-snoc (c ∷ bs) last) ∙ sym (append_assoc (printed_byte b) (flat_map printed_byte (c ∷ bs)) (cond (last == 32) (escape_of last) (printed_byte last)))

-- a list of pieces after what was there
pub written : {A : Type 0} (f : A → List ℕ) (separator : ℕ) (x : A) (xs : List A) (old mid new : List ℕ) → mid ≡ old ++ f x → new ≡ mid ++ flat_map (λ y. separator ∷ f y) xs → old ++ join_with_byte separator (map f (x ∷ xs)) ≡ new
written f separator x xs old mid new e g =
    ap (λ l. old ++ l) (joined-flat f separator x xs) ∙ sym (append_assoc old (f x) (flat_map (λ y. separator ∷ f y) xs))
    ∙ ap (λ l. l ++ flat_map (λ y. separator ∷ f y) xs) (sym e) ∙ sym g
