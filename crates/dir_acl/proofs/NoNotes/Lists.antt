-- Lists of notes that are empty, and tests that all elements of a list pass.
use Rattle.std.proofs.Common.{◌≡◌, ℕ, Bool, true, List, [], ◌∷◌, ◌++◌, refl, sym, ap, ◌∙◌}
use Rattle.std.specs.Prelude.{◌&&◌}
use Rattle.std.specs.List.{list_all}
use Rattle.std.specs.Str.{str_to_ascii_lowercase}
use Rattle.dir_names.specs.Orders.{bytes_eq, bytes_eq_decides}
use Rattle.dir_acl.specs.declared.note.Note.{Note}
use Rattle.dir_conf_text.specs.Keywords.{is_word}
use Rattle.dir_acl.proofs.Grammar.Sound.{first_true, second_true}

pub left_empty : (xs ys : List Note) → xs ++ ys ≡ [] → xs ≡ []
left_empty [] ys e = refl
left_empty (x ∷ xs) ys e = absurd (cc)

pub right_empty : (xs ys : List Note) → xs ++ ys ≡ [] → ys ≡ []
right_empty [] ys e = e
right_empty (x ∷ xs) ys e = absurd (cc)

module _ {A : Type 0} (test : A → Bool) where
  pub all_pushed : (xs : List A) (x : A) → list_all test xs ≡ true → test x ≡ true → list_all test (xs ++ x ∷ []) ≡ true
  all_pushed [] x so e = λ i. e i && true
  all_pushed (y ∷ ys) x so e = λ i. first_true (test y) (list_all test ys) so i && all_pushed ys x (second_true (test y) (list_all test ys) so) e i

-- no text is two words
pub both_words : (text one another : List ℕ) → is_word text one ≡ true → is_word text another ≡ true → is_word one another ≡ true
both_words text one another e f =
    let same : str_to_ascii_lowercase text ≡ str_to_ascii_lowercase one = (bytes_eq_decides (str_to_ascii_lowercase text) (str_to_ascii_lowercase one)).0 e in
    sym (ap (λ bytes. bytes_eq bytes (str_to_ascii_lowercase another)) same) ∙ f
