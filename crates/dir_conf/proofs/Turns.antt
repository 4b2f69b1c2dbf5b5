-- Values that are taken one after the other.
use Rattle.std.proofs.Common.{◌≡◌, ℕ, ◌+◌, List, [], ◌∷◌, ◌++◌, Result, Ok, Err, refl, ap, sym, ◌∙◌, append_assoc}
use Rattle.dir_names.specs.Results.{and_then}
use Rattle.dir_conf.specs.declared.fault.ConfFault.{ConfFault}
use Rattle.dir_conf.specs.declared.cn_config.macros.Macro.{Macro}
use Rattle.dir_conf.specs.declared.cn_config.records.Attribute.{Attribute}
use Rattle.dir_conf.specs.CnConfig.{macros_after, types_in, types_of}
use Rattle.dir_conf.specs.CnConfig.Records.{gather}
use Rattle.dir_conf.specs.CnConfig.Values.{Numbered, in_turn, value_at}

-- the values so far, and then those that are left
abbrev pub after : {B E : Type 0} → List B → Result (List B) E → Result (List B) E
after before rest = and_then rest (λ more. Ok (before ++ more))

moved : {B E : Type 0} (before : List B) (y : B) (rest : Result (List B) E) → after before (and_then rest (λ more. Ok (y ∷ more))) ≡ after (before ++ y ∷ []) rest
moved before y (Ok more) = ap Ok (sym (append_assoc before (y ∷ []) more))
moved before y (Err e) = refl

pub one_more : (before : List Numbered) (place : ℕ) (value : Numbered) (more : List Numbered) (first : Numbered) → value_at place value ≡ Ok first → after before (in_turn place (value ∷ more)) ≡ after (before ++ first ∷ []) (in_turn (place + 1) more)
one_more before place value more first e = ap (λ r. after before (and_then r (λ y. and_then (in_turn (place + 1) more) (λ rest. Ok (y ∷ rest))))) e ∙ moved before first (in_turn (place + 1) more)

pub one_gathered : {A B : Type 0} (f : A → Result (List B) ConfFault) (before : List B) (x : A) (xs : List A) (y : B) → f x ≡ Ok (y ∷ []) → after before (gather f (x ∷ xs)) ≡ after (before ++ y ∷ []) (gather f xs)
one_gathered f before x xs y e = ap (λ r. after before (and_then r (λ some. and_then (gather f xs) (λ rest. Ok (some ++ rest))))) e ∙ moved before y (gather f xs)

some_moved : {B E : Type 0} (before some : List B) (rest : Result (List B) E) → after before (and_then rest (λ more. Ok (some ++ more))) ≡ after (before ++ some) rest
some_moved before some (Ok more) = ap Ok (sym (append_assoc before some more))
some_moved before some (Err e) = refl

pub some_gathered : {A B : Type 0} (f : A → Result (List B) ConfFault) (before : List B) (x : A) (xs : List A) (some : List B) → f x ≡ Ok some → after before (gather f (x ∷ xs)) ≡ after (before ++ some) (gather f xs)
some_gathered f before x xs some e = ap (λ r. after before (and_then r (λ some. and_then (gather f xs) (λ rest. Ok (some ++ rest))))) e ∙ some_moved before some (gather f xs)

pub types_gathered : (macros now : List Macro) (before some : List (List ℕ)) (entry : List Attribute) (more : List (List Attribute)) → macros_after macros entry ≡ Ok now → types_in now entry ≡ Ok some
    → after before (types_of macros (entry ∷ more)) ≡ after (before ++ some) (types_of now more)
types_gathered macros now before some entry more e f =
    ap (λ r. after before (and_then r (λ now. and_then (types_in now entry) (λ some. and_then (types_of now more) (λ rest. Ok (some ++ rest)))))) e
    ∙ ap (λ r. after before (and_then r (λ some. and_then (types_of now more) (λ rest. Ok (some ++ rest))))) f
    ∙ some_moved before some (types_of now more)
