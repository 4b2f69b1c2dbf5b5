-- What is read of cn=config is flat: no definition has the end of a line, and no argument a line feed.
use Rattle.std.proofs.Common.{◌≡◌, ℕ, Bool, true, false, cond, not, ◌==◌, List, [], ◌∷◌, ◌++◌, map, codes, Option, Some, None, Result, Ok, Err, refl, ap, subst, ◌∙◌, arith}
use Rattle.std.specs.List.{list_all}
use Rattle.std.specs.Prelude.{option_map}
use Rattle.std.proofs.lemmas.Bool.Decides.{nat_tests}
use Rattle.std.proofs.lemmas.List.Folds.{list_all-append}
use Rattle.dir_names.specs.Keys.{DnKeys}
use Rattle.dir_names.specs.Results.{and_then}
use Rattle.dir_names.specs.declared.schema.TypeRow.{TypeRow}
use Rattle.dir_conf.specs.declared.cn_config.arguments.Spot.{Spot}
use Rattle.dir_conf.specs.declared.cn_config.arguments.Spot.TheVariants.{Between, Plain, Quoted, Closed}
use Rattle.dir_conf.specs.declared.cn_config.arguments.Step.TheVariants.{Skip, Take, Close, Refuse}
use Rattle.dir_conf.specs.declared.cn_config.macros.Macro.{Macro}
use Rattle.dir_conf.specs.declared.cn_config.records.Attribute.{Attribute}
use Rattle.dir_conf.specs.declared.fault.ConfFault.{ConfFault}
use Rattle.dir_conf.specs.declared.fault.ConfFault.TheVariants.{BadArguments}
use Rattle.dir_conf.specs.declared.site.Directive.{Directive}
use Rattle.dir_conf.specs.declared.site.Directive.TheVariants.{Suffix, RootDn}
use Rattle.dir_conf.specs.declared.site.Line.{Line}
use Rattle.dir_conf.specs.CnConfig.{definitions, is_own_schema, lines_in, macros_after, rule_by, rule_line, rules_if_frontend, rules_in, site_of, types_in, types_of, whole_line, whole_lines}
use Rattle.dir_conf_text.specs.Lines.{is_space}
use Rattle.dir_conf.specs.CnConfig.Arguments.{after_step, arguments_from, arguments_of, last_argument, step_in_argument, step_of}
use Rattle.dir_conf.specs.CnConfig.Databases.{database_of, is_frontend}
use Rattle.dir_conf.specs.CnConfig.Macros.{by_first, definition, plain_byte, without_spaces}
use Rattle.dir_conf.specs.CnConfig.Records.{gather, values_of}
use Rattle.dir_conf.specs.CnConfig.Values.{Numbered}
use Rattle.dir_conf.specs.Flat.{Content, is_no_feed}
use Rattle.dir_conf.specs.Laws.{has_one_line, is_no_end}
use Rattle.dir_conf.proofs.FlatLines.{both}

pub joined_all : {A : Type 0} (p : A → Bool) (xs ys : List A) → list_all p xs ≡ true → list_all p ys ≡ true → list_all p (xs ++ ys) ≡ true
joined_all p xs ys e f = list_all-append p xs ys ∙ both _ _ e f

-- ---- results

-- what holds of the value, if there is one
abbrev pub OfValue : {A E : Type 0} → (A → Type 0) → Result A E → Type 0
OfValue P (Ok a) = P a
OfValue P (Err e) = Unit {0}

pub at_value : {A E : Type 0} (P : A → Type 0) (r : Result A E) (a : A) → OfValue P r → r ≡ Ok a → P a
at_value P r a h e = subst (OfValue P) e h

pub then_value : {A B E : Type 0} (P : B → Type 0) (r : Result A E) (next : A → Result B E) → ((a : A) → OfValue P (next a)) → OfValue P (and_then r next)
then_value P (Ok a) next h = h a
then_value P (Err e) next h = tt

both_values : {B E : Type 0} (p : B → Bool) (r s : Result (List B) E) → OfValue (λ ys. list_all p ys ≡ true) r → OfValue (λ ys. list_all p ys ≡ true) s
    → OfValue (λ ys. list_all p ys ≡ true) (and_then r (λ some. and_then s (λ rest. Ok (some ++ rest))))
both_values p (Ok some) (Ok rest) e f = joined_all p some rest e f
both_values p (Ok some) (Err why) e f = tt
both_values p (Err why) s e f = tt

gathered_all : {A B : Type 0} (p : B → Bool) (f : A → Result (List B) ConfFault) → ((a : A) → OfValue (λ ys. list_all p ys ≡ true) (f a)) → (xs : List A) → OfValue (λ ys. list_all p ys ≡ true) (gather f xs)
gathered_all p f h [] = refl
gathered_all p f h (x ∷ xs) = both_values p (f x) (gather f xs) (h x) (gathered_all p f h xs)

-- ---- definitions

plain_no_end : (b : ℕ) → is_no_end (plain_byte b) ≡ true
plain_no_end b = by (is_space b) refl
  where
    by : (t : Bool) → is_space b ≡ t → is_no_end (cond t 32 b) ≡ true
    by true e = refl
    by false e = grind (arith, nat_tests)

pub plain_no_ends : (text : List ℕ) → list_all is_no_end (map plain_byte text) ≡ true
plain_no_ends [] = refl
plain_no_ends (b ∷ bs) = both (is_no_end (plain_byte b)) _ (plain_no_end b) (plain_no_ends bs)

definitions_no_ends : (macros : List Macro) (values : List Numbered) → list_all (list_all is_no_end) (definitions macros values) ≡ true
definitions_no_ends macros [] = refl
definitions_no_ends macros (value ∷ more) = both (list_all is_no_end (definition macros value.1)) _ (plain_no_ends (by_first macros value.1 (without_spaces value.1))) (definitions_no_ends macros more)

types_in_flat : (macros : List Macro) (entry : List Attribute) → OfValue (λ types. list_all (list_all is_no_end) types ≡ true) (types_in macros entry)
types_in_flat macros entry = by (is_own_schema entry)
  where
    by : (t : Bool) → OfValue (λ types. list_all (list_all is_no_end) types ≡ true) (cond t (Ok []) (and_then (values_of (codes "olcAttributeTypes") entry) (λ values. Ok (definitions macros values))))
    by true = refl
    by false =
        then_value (λ types. list_all (list_all is_no_end) types ≡ true) (values_of (codes "olcAttributeTypes") entry) (λ values. Ok (definitions macros values)) (λ values. definitions_no_ends macros values)

types_flat : (macros : List Macro) (entries : List (List Attribute)) → OfValue (λ types. list_all (list_all is_no_end) types ≡ true) (types_of macros entries)
types_flat macros [] = refl
types_flat macros (entry ∷ more) =
    then_value (λ types. list_all (list_all is_no_end) types ≡ true) (macros_after macros entry) (λ now. and_then (types_in now entry) (λ some. and_then (types_of now more) (λ rest. Ok (some ++ rest))))
    (λ now. both_values (list_all is_no_end) (types_in now entry) (types_of now more) (types_in_flat now entry) (types_flat now more))

-- ---- arguments

abbrev AreFlat : Option (List (List ℕ)) → Type 0
AreFlat None = Unit {0}
AreFlat (Some arguments) = list_all (list_all is_no_feed) arguments ≡ true

one_first : (item : List ℕ) (o : Option (List (List ℕ))) → list_all is_no_feed item ≡ true → AreFlat o → AreFlat (option_map (λ arguments. item ∷ arguments) o)
one_first item None e f = tt
one_first item (Some arguments) e f = both (list_all is_no_feed item) _ e f

last_flat : (spot : Spot) (item : List ℕ) → list_all is_no_feed item ≡ true → AreFlat (last_argument spot item)
last_flat Between item e = refl
last_flat Plain item e = both (list_all is_no_feed item) _ e refl
last_flat Quoted item e = tt
last_flat Closed item e = both (list_all is_no_feed item) _ e refl

black_no_feed : (b : ℕ) → is_space b ≡ false → is_no_feed b ≡ true
black_no_feed b e = grind (arith, nat_tests)

other_no_feed : (b : ℕ) → (b == 10) ≡ false → is_no_feed b ≡ true
other_no_feed b e = ap not e

pub longer : (item : List ℕ) (b : ℕ) → list_all is_no_feed item ≡ true → is_no_feed b ≡ true → list_all is_no_feed (item ++ b ∷ []) ≡ true
longer item b e f = joined_all is_no_feed item (b ∷ []) e (both (is_no_feed b) _ f refl)

module _ (b : ℕ) (bs item : List ℕ) (flat : list_all is_no_feed item ≡ true) (rest : (next : Spot) (bytes : List ℕ) → list_all is_no_feed bytes ≡ true → AreFlat (arguments_from next bytes bs)) where
  in_argument : is_space b ≡ false → AreFlat (after_step (step_in_argument b) b item (λ next bytes. arguments_from next bytes bs))
  in_argument e = by (b == 34)
    where
      by : (t : Bool) → AreFlat (after_step (cond t (Skip Quoted) (Take Plain)) b item (λ next bytes. arguments_from next bytes bs))
      by true = rest Quoted item flat
      by false = rest Plain (item ++ b ∷ []) (longer item b flat (black_no_feed b e))

  one_byte : (spot : Spot) → AreFlat (after_step (step_of spot b) b item (λ next bytes. arguments_from next bytes bs))
  one_byte Between = by (is_space b) refl
    where
      by : (t : Bool) → is_space b ≡ t → AreFlat (after_step (cond t (Skip Between) (step_in_argument b)) b item (λ next bytes. arguments_from next bytes bs))
      by true e = rest Between item flat
      by false e = in_argument e
  one_byte Plain = by (is_space b) refl
    where
      by : (t : Bool) → is_space b ≡ t → AreFlat (after_step (cond t Close (step_in_argument b)) b item (λ next bytes. arguments_from next bytes bs))
      by true e = one_first item _ flat (rest Between [] refl)
      by false e = in_argument e
  one_byte Quoted = by (b == 34) (b == 10) refl
    where
      by : (t u : Bool) → (b == 10) ≡ u → AreFlat (after_step (cond t (Skip Closed) (cond u Refuse (Take Quoted))) b item (λ next bytes. arguments_from next bytes bs))
      by true u e = rest Closed item flat
      by false true e = tt
      by false false e = rest Quoted (item ++ b ∷ []) (longer item b flat (other_no_feed b e))
  one_byte Closed = by (is_space b)
    where
      by : (t : Bool) → AreFlat (after_step (cond t Close Refuse) b item (λ next bytes. arguments_from next bytes bs))
      by true = one_first item _ flat (rest Between [] refl)
      by false = tt

from_flat : (spot : Spot) (item text : List ℕ) → list_all is_no_feed item ≡ true → AreFlat (arguments_from spot item text)
from_flat spot item [] e = last_flat spot item e
from_flat spot item (b ∷ bs) e = one_byte b bs item e (λ next bytes h. from_flat next bytes bs h) spot

-- ---- lines

whole_flat : (directive : Directive) (value : Numbered) → OfValue (λ lines. list_all has_one_line lines ≡ true) (whole_line directive value)
whole_flat directive value = by (list_all is_no_feed value.1) refl
  where
    by : (t : Bool) → list_all is_no_feed value.1 ≡ t → OfValue (λ lines. list_all has_one_line lines ≡ true) (cond t (Ok (record { directive = directive; arguments = value.1 ∷ [] } ∷ [])) (Err (BadArguments value.0)))
    by true e = both _ _ (both (list_all is_no_feed value.1) _ e refl) refl
    by false e = tt

rule_flat : (value : Numbered) → OfValue (λ lines. list_all has_one_line lines ≡ true) (rule_line value)
rule_flat value = by (arguments_of value.1) (from_flat Between [] value.1 refl)
  where
    by : (o : Option (List (List ℕ))) → AreFlat o → OfValue (λ lines. list_all has_one_line lines ≡ true) (rule_by value.0 o)
    by None e = tt
    by (Some arguments) e = both (list_all (list_all is_no_feed) arguments) _ e refl

whole_lines_flat : (directive : Directive) (name : List ℕ) (entry : List Attribute) → OfValue (λ lines. list_all has_one_line lines ≡ true) (whole_lines directive name entry)
whole_lines_flat directive name entry = then_value (λ lines. list_all has_one_line lines ≡ true) (values_of name entry) (gather (whole_line directive)) (λ values. gathered_all has_one_line (whole_line directive) (whole_flat directive) values)

rules_flat : (entry : List Attribute) → OfValue (λ lines. list_all has_one_line lines ≡ true) (rules_in entry)
rules_flat entry = then_value (λ lines. list_all has_one_line lines ≡ true) (values_of (codes "olcAccess") entry) (gather rule_line) (λ values. gathered_all has_one_line rule_line rule_flat values)

frontend_flat : (entry : List Attribute) → OfValue (λ lines. list_all has_one_line lines ≡ true) (rules_if_frontend entry)
frontend_flat entry = by (is_frontend entry)
  where
    by : (t : Bool) → OfValue (λ lines. list_all has_one_line lines ≡ true) (cond t (rules_in entry) (Ok []))
    by true = rules_flat entry
    by false = refl

three_values : (r s t : Result (List Line) ConfFault) → OfValue (λ lines. list_all has_one_line lines ≡ true) r → OfValue (λ lines. list_all has_one_line lines ≡ true) s → OfValue (λ lines. list_all has_one_line lines ≡ true) t
    → OfValue (λ lines. list_all has_one_line lines ≡ true) (and_then r (λ suffixes. and_then s (λ roots. and_then t (λ rules. Ok (suffixes ++ roots ++ rules)))))
three_values (Ok a) (Ok b) (Ok c) e f g = joined_all has_one_line (a ++ b) c (joined_all has_one_line a b e f) g
three_values (Ok a) (Ok b) (Err why) e f g = tt
three_values (Ok a) (Err why) t e f g = tt
three_values (Err why) s t e f g = tt

lines_flat : (entry : List Attribute) → OfValue (λ lines. list_all has_one_line lines ≡ true) (lines_in entry)
lines_flat entry = three_values _ _ _ (whole_lines_flat Suffix (codes "olcSuffix") entry) (whole_lines_flat RootDn (codes "olcRootDN") entry) (rules_flat entry)

-- ---- the site

abbrev pub IsFlatSite : Content → Type 0
IsFlatSite site = (list_all (list_all is_no_end) site.types ≡ true) × (list_all has_one_line site.own ≡ true) × (list_all has_one_line site.frontend ≡ true)

pub site_flat : (rows : List TypeRow) (wanted : DnKeys) (entries : List (List Attribute)) → OfValue IsFlatSite (site_of rows wanted entries)
site_flat rows wanted entries = by (types_of [] entries) (types_flat [] entries) (database_of rows wanted entries) (gather rules_if_frontend entries) (gathered_all has_one_line rules_if_frontend frontend_flat entries)
  where
    with_lines : (types : List (List ℕ)) → list_all (list_all is_no_end) types ≡ true → (own more : Result (List Line) ConfFault) → OfValue (λ lines. list_all has_one_line lines ≡ true) own → OfValue (λ lines. list_all has_one_line lines ≡ true) more
        → OfValue IsFlatSite (and_then own (λ own. and_then more (λ more. Ok (record { types = types; own = own; frontend = more }))))
    with_lines types e (Ok own) (Ok more) f g = (e, f, g)
    with_lines types e (Ok own) (Err why) f g = tt
    with_lines types e (Err why) more f g = tt

    by : (r : Result (List (List ℕ)) ConfFault) → OfValue (λ types. list_all (list_all is_no_end) types ≡ true) r → (d : Result (List Attribute) ConfFault) → (more : Result (List Line) ConfFault) → OfValue (λ lines. list_all has_one_line lines ≡ true) more
        → OfValue IsFlatSite (and_then r (λ types. and_then d (λ database. and_then (lines_in database) (λ own. and_then more (λ more. Ok (record { types = types; own = own; frontend = more }))))))
    by (Ok types) e (Ok database) more f = with_lines types e (lines_in database) more (lines_flat database) f
    by (Ok types) e (Err why) more f = tt
    by (Err why) e d more f = tt
