-- One option put into the set of those read so far.
use Rattle.std.proofs.Common.{◌≡◌, ℕ, T, Bool, true, false, not, List, [], ◌∷◌, map, refl, ap, sym, ◌∙◌, arith}
use Rattle.std.proofs.lemmas.Bool.Decides.{nat_tests}
use Rattle.std.specs.Prelude.{◌&&◌, ◌==◌}
use Rattle.std.specs.declared.cmp.Ordering.{Ordering}
use Rattle.std.specs.declared.cmp.Ordering.TheVariants.{Less, Equal, Greater}
use Rattle.std.specs.Char.{to_ascii_lowercase}
use Rattle.std.specs.List.{list_all, fold}
use Rattle.std.specs.Ordering.{match_ordering}
use Rattle.std.specs.Str.{str_to_ascii_lowercase}
use Rattle.dir_names.specs.Descriptions.{is_keychar, is_option}
use Rattle.dir_names.specs.Inside.Left.{lacks_nul}
use Rattle.dir_names.specs.Orders.{bytes_cmp, bytes_cmp_total}
use Rattle.dir_names.specs.Sorted.{rises, with_member, set_of}
use Rattle.dir_names.proofs.Both.{left, right}
use Rattle.dir_names.proofs.Placed.{so, rises-with_member}

pub truth : (b : Bool) → T b → b ≡ true
truth true t = refl
truth false t = absurd t

-- ---- an option has no byte 0

keychar_lacks_nul : (b : ℕ) → is_keychar b ≡ true → not (to_ascii_lowercase b == 0) ≡ true
keychar_lacks_nul b e = grind (arith, nat_tests)

both_hold : (a b : Bool) → a ≡ true → b ≡ true → (a && b) ≡ true
both_hold true b e f = f
both_hold false b e f = e

keychars_lack_nul : (bs : List ℕ) → list_all is_keychar bs ≡ true → lacks_nul (str_to_ascii_lowercase bs) ≡ true
keychars_lack_nul [] e = refl
keychars_lack_nul (b ∷ bs) e = both_hold _ _ (keychar_lacks_nul b (left _ _ e)) (keychars_lack_nul bs (right _ _ e))

option_lacks_nul : (text : List ℕ) → is_option text ≡ true → lacks_nul (str_to_ascii_lowercase text) ≡ true
option_lacks_nul text e = keychars_lack_nul text (right _ _ e)

all_with_member : (k : List ℕ) (ks : List (List ℕ)) → lacks_nul k ≡ true → list_all lacks_nul ks ≡ true → list_all lacks_nul (with_member bytes_cmp k ks) ≡ true
all_with_member k [] e f = both_hold _ _ e refl
all_with_member k (x ∷ xs) e f = by (bytes_cmp k x) (all_with_member k xs e (right _ _ f))
  where
    by : (o : Ordering) → list_all lacks_nul (with_member bytes_cmp k xs) ≡ true → list_all lacks_nul (match_ordering o (k ∷ x ∷ xs) (x ∷ xs) (x ∷ with_member bytes_cmp k xs)) ≡ true
    by Less rest = both_hold _ _ e f
    by Equal rest = f
    by Greater rest = both_hold _ _ (left _ _ f) rest

-- ---- what was read so far, with what is left, is the whole

pub record Keeps (set : List (List ℕ)) (left all : List (List ℕ)) : Type 0 where
  pub in_order : rises bytes_cmp set ≡ true
  pub lacks : list_all lacks_nul set ≡ true
  pub sound : list_all is_option all ≡ list_all is_option left
  pub so_far : fold (λ s x. with_member bytes_cmp x s) set (map str_to_ascii_lowercase left) ≡ set_of bytes_cmp (map str_to_ascii_lowercase all)

pub keeps_none : (all : List (List ℕ)) → Keeps [] all all
keeps_none all = record { in_order = refl; lacks = refl; sound = refl; so_far = refl }

pub keeps_more : (set new : List (List ℕ)) (option : List ℕ) (left rest all : List (List ℕ)) → left ≡ option ∷ rest → is_option option ≡ true → new ≡ with_member bytes_cmp (str_to_ascii_lowercase option) set → Keeps set left all → Keeps new rest all
keeps_more set new option left rest all e o n k = record {
  in_order = ap (rises bytes_cmp) n ∙ truth _ (rises-with_member bytes_cmp bytes_cmp_total (str_to_ascii_lowercase option) set (so _ k.in_order));
  lacks = ap (list_all lacks_nul) n ∙ all_with_member (str_to_ascii_lowercase option) set (option_lacks_nul option o) k.lacks;
  sound = k.sound ∙ ap (list_all is_option) e ∙ ap (λ b. b && list_all is_option rest) o;
  so_far =
      ap (λ s. fold (λ s x. with_member bytes_cmp x s) s (map str_to_ascii_lowercase rest)) n
      ∙ ap (λ l. fold (λ s x. with_member bytes_cmp x s) set (map str_to_ascii_lowercase l)) (sym e) ∙ k.so_far;
}
