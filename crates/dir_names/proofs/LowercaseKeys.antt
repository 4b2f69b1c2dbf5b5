-- The key of a tidy ASCII value regardless of case is its text in lower case.
use Rattle.std.proofs.Common.{◌≡◌, ℕ, Bool, true, false, cond, List, [], ◌∷◌, ◌++◌, length, Ok, refl, sym, ap, ◌∙◌, append_assoc, arith}
use Rattle.std.specs.Prelude.{◌==◌, ◌&&◌, nat_lt}
use Rattle.std.specs.Char.{to_ascii_lowercase}
use Rattle.std.specs.List.{list_all}
use Rattle.std.specs.Str.{str_to_ascii_lowercase}
use Rattle.std.proofs.lemmas.Bool.Decides.{nat_tests}
use Rattle.std.proofs.lemmas.List.{length-map, append-nil}
use Rattle.dir_names.specs.declared.schema.Rule.TheVariants.{CaseIgnore, Ia5CaseIgnore}
use Rattle.dir_names.specs.Inside.SortKeys.{IsKeyLowercase}
use Rattle.dir_names.specs.ValueKeys.{is_ascii, key_if}
use Rattle.dir_names.specs.ValueKeys.Spaces.{without_leading_spaces, without_trailing_spaces, begins_with_space, with_single_spaces, without_extra_spaces}
use Rattle.dir_names.proofs.AsciiFolding.{ascii_text_key}
use Rattle.dir_names.proofs.Both.{left, right}

-- ---- lower case leaves the spaces

same_space : (b : ℕ) → (to_ascii_lowercase b == 32) ≡ (b == 32)
same_space b = grind (arith, nat_tests)

choose : (t : Bool) (x y : List ℕ) → cond t (str_to_ascii_lowercase x) (str_to_ascii_lowercase y) ≡ str_to_ascii_lowercase (cond t x y)
choose true x y = refl
choose false x y = refl

leading : (bs : List ℕ) → without_leading_spaces (str_to_ascii_lowercase bs) ≡ str_to_ascii_lowercase (without_leading_spaces bs)
leading [] = refl
leading (b ∷ bs) =
    (λ i. cond (same_space b i) (leading bs i) (str_to_ascii_lowercase (b ∷ bs)))
    ∙ choose (b == 32) (without_leading_spaces bs) (b ∷ bs)

trailing : (bs : List ℕ) → without_trailing_spaces (str_to_ascii_lowercase bs) ≡ str_to_ascii_lowercase (without_trailing_spaces bs)
trailing [] = refl
trailing (b ∷ bs) =
    (λ i. cond (same_space b i && length (trailing bs i) == 0) [] (to_ascii_lowercase b ∷ trailing bs i))
    ∙ ap (λ n. cond (b == 32 && n == 0) [] (str_to_ascii_lowercase (b ∷ without_trailing_spaces bs))) (length-map (without_trailing_spaces bs) to_ascii_lowercase)
    ∙ choose (b == 32 && length (without_trailing_spaces bs) == 0) [] (b ∷ without_trailing_spaces bs)

begins : (bs : List ℕ) → begins_with_space (str_to_ascii_lowercase bs) ≡ begins_with_space bs
begins [] = refl
begins (b ∷ bs) = same_space b

single : (bs : List ℕ) → with_single_spaces (str_to_ascii_lowercase bs) ≡ str_to_ascii_lowercase (with_single_spaces bs)
single [] = refl
single (b ∷ bs) =
    (λ i. cond (same_space b i && begins bs i) (single bs i) (to_ascii_lowercase b ∷ single bs i))
    ∙ choose (b == 32 && begins_with_space bs) (with_single_spaces bs) (b ∷ with_single_spaces bs)

pub lowercase_words : (bs : List ℕ) → without_extra_spaces (str_to_ascii_lowercase bs) ≡ str_to_ascii_lowercase (without_extra_spaces bs)
lowercase_words bs =
    ap (λ l. without_trailing_spaces (without_leading_spaces l)) (single bs)
    ∙ ap without_trailing_spaces (leading (with_single_spaces bs))
    ∙ trailing (without_leading_spaces (with_single_spaces bs))

pub stays_tidy : (bs : List ℕ) → without_extra_spaces bs ≡ bs → without_extra_spaces (str_to_ascii_lowercase bs) ≡ str_to_ascii_lowercase bs
stays_tidy bs e = lowercase_words bs ∙ ap str_to_ascii_lowercase e

-- ---- the bytes

abbrev is_unmarked : ℕ → Bool
is_unmarked b = nat_lt 1 b && nat_lt b 128

unmarked_ascii : (bs : List ℕ) → list_all is_unmarked bs ≡ true → is_ascii bs ≡ true
unmarked_ascii [] e = refl
unmarked_ascii (b ∷ bs) e =
    let head : nat_lt b 128 ≡ true = right (nat_lt 1 b) (nat_lt b 128) (left (is_unmarked b) (list_all is_unmarked bs) e) in
    λ i. head i && unmarked_ascii bs (right (is_unmarked b) (list_all is_unmarked bs) e) i

lower_unmarked : (b : ℕ) → nat_lt 1 b ≡ true → nat_lt 1 (to_ascii_lowercase b) ≡ true
lower_unmarked b e = grind (arith, nat_tests)

unmarked_lower : (bs : List ℕ) → list_all is_unmarked bs ≡ true → list_all (λ b. nat_lt 1 b) (str_to_ascii_lowercase bs) ≡ true
unmarked_lower [] e = refl
unmarked_lower (b ∷ bs) e =
    let head = lower_unmarked b (left (nat_lt 1 b) (nat_lt b 128) (left (is_unmarked b) (list_all is_unmarked bs) e)) in
    λ i. head i && unmarked_lower bs (right (is_unmarked b) (list_all is_unmarked bs) e) i

-- ---- the keys

module _ (value : List ℕ) (some : false ≡ (length value == 0)) (unmarked : list_all (λ b. nat_lt 1 b && nat_lt b 128) value ≡ true) (tidy : without_extra_spaces value ≡ value) where
  pub case_key : IsKeyLowercase CaseIgnore value
  case_key = (sym (ascii_text_key value some (unmarked_ascii value unmarked)) ∙ ap Ok (stays_tidy value tidy), unmarked_lower value unmarked)

  pub ia5_key : IsKeyLowercase Ia5CaseIgnore value
  ia5_key =
      ((λ i. key_if (unmarked_ascii value unmarked i) (without_extra_spaces (str_to_ascii_lowercase value))) ∙ ap Ok (stays_tidy value tidy), unmarked_lower value unmarked)

-- ---- the text of an RDN, as it is put

pub one_pair : (old attr_type options value : List ℕ) → old ++ 1 ∷ 1 ∷ (((attr_type ++ (options ++ (value ++ 0 ∷ []))) ++ []) ++ 0 ∷ []) ≡ ((((old ++ 1 ∷ 1 ∷ []) ++ attr_type) ++ options) ++ value) ++ 0 ∷ 0 ∷ []
one_pair old attr_type options value = simp (append_assoc, append-nil) refl
