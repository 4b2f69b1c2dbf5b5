-- The keys of values that are found without their rule's work.
use Rattle.std.proofs.Common.{◌≡◌, ℕ, Bool, true, false, List, [], ◌∷◌, length, Ok, refl, ap, sym, ◌∙◌, arith}
use Rattle.std.specs.Prelude.{◌==◌, ◌||◌, ◌&&◌, cond, not}
use Rattle.std.specs.Char.{is_ascii_uppercase, to_ascii_lowercase}
use Rattle.std.specs.List.{list_any}
use Rattle.std.specs.Str.{str_to_ascii_lowercase}
use Rattle.std.proofs.lemmas.Bool.Decides.{nat_tests}
use Rattle.dir_names.specs.declared.schema.Rule.TheVariants.{CaseIgnore, Ia5CaseIgnore, Ia5CaseExact, Integer, ObjectId, Telephone}
use Rattle.dir_names.specs.ValueKeys.{is_ascii, is_integer, is_object_id, key_if, text_key_of}
use Rattle.dir_names.specs.ValueKeys.Spaces.{without_extra_spaces, without_spaces_and_hyphens}
use Rattle.dir_names.proofs.AsciiFolding.{ascii_from_test, ascii_text_key, ascii_utf8, folded_text-ascii}

-- a text without capital letters is in lower case
pub no_capital : (bs : List ℕ) → list_any is_ascii_uppercase bs ≡ false → str_to_ascii_lowercase bs ≡ bs
no_capital [] e = refl
no_capital (b ∷ bs) e = by (is_ascii_uppercase b) refl e (no_capital bs)
  where
    by : (t : Bool) → is_ascii_uppercase b ≡ t → (t || list_any is_ascii_uppercase bs) ≡ false → (list_any is_ascii_uppercase bs ≡ false → str_to_ascii_lowercase bs ≡ bs) → str_to_ascii_lowercase (b ∷ bs) ≡ b ∷ bs
    by true q h rest = absurd (cc)
    by false q h rest = let same : to_ascii_lowercase b ≡ b = grind (arith, nat_tests) in λ i. same i ∷ rest h i

module _ (value : List ℕ) (ascii : is_ascii value ≡ true) where
  pub case_key : false ≡ (length value == 0) → text_key_of CaseIgnore value ≡ Ok (without_extra_spaces (str_to_ascii_lowercase value))
  case_key some = sym (ascii_text_key value some ascii)

  pub ia5_key : text_key_of Ia5CaseIgnore value ≡ Ok (without_extra_spaces (str_to_ascii_lowercase value))
  ia5_key = λ i. key_if (ascii i) (without_extra_spaces (str_to_ascii_lowercase value))

  pub ia5_exact_key : without_extra_spaces value ≡ value → text_key_of Ia5CaseExact value ≡ Ok value
  ia5_exact_key tidy = (λ i. key_if (ascii i) (without_extra_spaces value)) ∙ ap Ok tidy

pub integer_key : (value : List ℕ) → is_integer value ≡ true → text_key_of Integer value ≡ Ok value
integer_key value e = ap (λ t. key_if t value) e

pub object_id_key : (value : List ℕ) → is_object_id value ≡ true → text_key_of ObjectId value ≡ Ok (str_to_ascii_lowercase value)
object_id_key value e = ap (λ t. key_if t (str_to_ascii_lowercase value)) e

-- ---- telephone numbers

abbrev pub dialed : List ℕ → List ℕ
dialed [] = []
dialed (b ∷ bs) = cond (b == 32 || b == 45) (dialed bs) (to_ascii_lowercase b ∷ dialed bs)

same_test : (b : ℕ) → (to_ascii_lowercase b == 32 || to_ascii_lowercase b == 45) ≡ (b == 32 || b == 45)
same_test b = grind (arith, nat_tests)

other : (t : Bool) (x y : List ℕ) → cond (not t) x y ≡ cond t y x
other true x y = refl
other false x y = refl

pub dialed_is : (bs : List ℕ) → without_spaces_and_hyphens (str_to_ascii_lowercase bs) ≡ dialed bs
dialed_is [] = refl
dialed_is (b ∷ bs) =
    (λ i. cond (not (same_test b i)) (to_ascii_lowercase b ∷ dialed_is bs i) (dialed_is bs i))
    ∙ other (b == 32 || b == 45) (to_ascii_lowercase b ∷ dialed bs) (dialed bs)

-- a number as it is dialed
pub no_undialed : (bs : List ℕ) → list_any (λ b. b == 32 || b == 45 || is_ascii_uppercase b) bs ≡ false → without_spaces_and_hyphens (str_to_ascii_lowercase bs) ≡ bs
no_undialed bs e = dialed_is bs ∙ whole bs e
  where
    whole : (bs : List ℕ) → list_any (λ b. b == 32 || b == 45 || is_ascii_uppercase b) bs ≡ false → dialed bs ≡ bs
    whole [] e = refl
    whole (b ∷ bs) e = by (b == 32 || b == 45) (is_ascii_uppercase b) refl refl e (whole bs)
      where
        by : (t u : Bool) → (b == 32 || b == 45) ≡ t → is_ascii_uppercase b ≡ u → (t || u || list_any (λ b. b == 32 || b == 45 || is_ascii_uppercase b) bs) ≡ false → (list_any (λ b. b == 32 || b == 45 || is_ascii_uppercase b) bs ≡ false → dialed bs ≡ bs) → cond t (dialed bs) (to_ascii_lowercase b ∷ dialed bs) ≡ b ∷ bs
        by true u q p h rest = absurd (cc)
        by false true q p h rest = absurd (cc)
        by false false q p h rest = let same : to_ascii_lowercase b ≡ b = grind (arith, nat_tests) in λ i. same i ∷ rest h i

pub telephone_key : (value : List ℕ) → false ≡ (length value == 0) → is_ascii value ≡ true → text_key_of Telephone value ≡ Ok (without_spaces_and_hyphens (str_to_ascii_lowercase value))
telephone_key value some e =
    let a = ascii_from_test value e in
    (λ i. key_if (not (sym some i) && ascii_utf8 value a i) (without_spaces_and_hyphens (folded_text-ascii value a i)))
