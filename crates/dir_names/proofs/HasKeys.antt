-- Whether a name has a key, said of its RDNs and their pairs.
use Rattle.std.proofs.Common.{◌≡◌, ℕ, ◌<◌, length, get_or, Bool, true, false, ◌&&◌, List, [], ◌∷◌, reverse, Option, Some, None, is_some, refl, sym, ap, ◌∙◌}
use Rattle.std.specs.List.{list_all}
use Rattle.std.specs.Option.{option_and_then, option_map}
use Rattle.std.specs.Result.{result_ok}
use Rattle.std.proofs.lemmas.List.{reverse-append}
use Rattle.std.proofs.lemmas.List.Folds.{list_all-append, list_all_at}
use Rattle.dir_names.specs.declared.schema.TypeRow.{TypeRow}
use Rattle.dir_names.specs.NameKeys.{attr_of, name_key, rdn_key, set_if_distinct}
use Rattle.dir_names.specs.Names.{SpelledPair, SpelledName}
use Rattle.dir_names.specs.Results.{option_collect, option_cons}
use Rattle.dir_names.specs.Table.{rule_of}
use Rattle.dir_names.specs.ValueKeys.{text_key_of}

-- an RDN of one pair has a key where the pair's value has one
pub one_pair : (rows : List TypeRow) (p : SpelledPair) → is_some (rdn_key rows (p ∷ [])) ≡ is_some (result_ok (text_key_of (rule_of rows (attr_of rows p.0)) p.1))
one_pair rows p = by (result_ok (text_key_of (rule_of rows (attr_of rows p.0)) p.1))
  where
    by : (o : Option (List ℕ)) → is_some (option_and_then set_if_distinct (option_cons (option_map (λ (v : List ℕ). (attr_of rows p.0, v)) o) (Some []))) ≡ is_some o
    by None = refl
    by (Some v) = refl

all_some : {A B : Type 0} (f : A → Option B) (xs : List A) → is_some (option_collect f xs) ≡ list_all (λ x. is_some (f x)) xs
all_some f [] = refl
all_some f (x ∷ xs) = by (f x) (option_collect f xs) ∙ ap (λ b. is_some (f x) && b) (all_some f xs)
  where
    by : {B : Type 0} (o : Option B) (os : Option (List B)) → is_some (option_cons o os) ≡ (is_some o && is_some os)
    by None os = refl
    by (Some y) None = refl
    by (Some y) (Some ys) = refl

pub all_reverse : {A : Type 0} (p : A → Bool) (xs : List A) → list_all p (reverse xs) ≡ list_all p xs
all_reverse p [] = refl
all_reverse p (x ∷ xs) = ap (list_all p) (reverse-append (x ∷ []) xs) ∙ list_all-append p (reverse xs) (x ∷ []) ∙ ap (λ b. b && (p x && true)) (all_reverse p xs) ∙ by (list_all p xs) (p x)
  where
    by : (a b : Bool) → (a && (b && true)) ≡ (b && a)
    by true true = refl
    by true false = refl
    by false true = refl
    by false false = refl

-- a name has a key where each of its RDNs has one
pub has_each : (rows : List TypeRow) (name : SpelledName) → is_some (name_key rows name) ≡ list_all (λ r. is_some (rdn_key rows r)) name
has_each rows name = all_some (rdn_key rows) (reverse name) ∙ all_reverse (λ r. is_some (rdn_key rows r)) name

-- one element that fails
pub lacks_at : {A : Type 0} (p : A → Bool) (xs : List A) (i : ℕ) (x : A) → i < length xs → x ≡ get_or xs i x → p x ≡ false → list_all p xs ≡ false
lacks_at p xs i x within is fails = list_all_at p xs i x within (ap p (sym is) ∙ fails)
