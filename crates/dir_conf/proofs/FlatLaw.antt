-- A flat configuration is read as what its site has.
use Rattle.std.proofs.Common.{◌≡◌, ℕ, ◌+◌, ◌≤◌, Bool, true, false, cond, not, ◌&&◌, nat_lt, List, [], ◌∷◌, ◌++◌, length, map, codes, Some, Result, Ok, Err, refl, sym, ap, ◌∙◌, true≢false, arith}
use Rattle.std.specs.List.{list_all}
use Rattle.std.proofs.lemmas.Bool.Decides.{nat_tests}
use Rattle.dir_names.specs.Results.{and_then}
use Rattle.dir_names.specs.declared.schema.TypeRow.{TypeRow}
use Rattle.dir_acl.specs.declared.fault.ConfigCause.TheVariants.{ConfigTooLong}
use Rattle.dir_conf_text.specs.declared.joining.Joining.TheVariants.{Plain}
use Rattle.dir_conf_text.specs.declared.text.ConfigLine.{ConfigLine}
use Rattle.dir_conf_text.specs.Arguments.{words_of}
use Rattle.dir_conf_text.specs.Definitions.{definition_in}
use Rattle.dir_conf_text.specs.Lines.{begins_with_blank, lines_after, logical_lines, unfolded}
use Rattle.dir_conf_text.specs.Text.{config_lines, defined_or, lines_said, said_in, with_said, worded}
use Rattle.dir_acl.specs.declared.fault.ConfigFault.{ConfigFault}
use Rattle.dir_acl.specs.Config.{Settings, after_arguments, after_lines, at_line, bounded_lines, config_of, config_of_lines, config_types, directive, no_settings, of_suffix, types_after, types_with}
use Rattle.dir_conf.specs.declared.site.Directive.{Directive}
use Rattle.dir_conf.specs.declared.site.Directive.TheVariants.{Suffix, RootDn, Access}
use Rattle.dir_conf.specs.declared.site.Line.{Line}
use Rattle.dir_conf.specs.Flat.{directive_text, flat_text, name_of, type_text}
use Rattle.dir_conf.specs.Laws.{FlatReads, IsFlat, directives_at, first_directive, in_database, types_at}
use Rattle.dir_conf.proofs.FlatLines.{both, directive_defines, directive_words, flat_cut, lines_of}

-- ---- results

same_after : {A B E : Type 0} (r : Result A E) (f g : A → Result B E) → ((a : A) → f a ≡ g a) → and_then r f ≡ and_then r g
same_after (Ok a) f g e = e a
same_after (Err e) f g h = refl

nothing_after : {A E : Type 0} (r : Result A E) → and_then r (λ a. Ok a) ≡ r
nothing_after (Ok a) = refl
nothing_after (Err e) = refl

joined_after : {A B C E : Type 0} (r : Result A E) (f : A → Result B E) (g : B → Result C E) → and_then r (λ a. and_then (f a) g) ≡ and_then (and_then r f) g
joined_after (Ok a) f g = refl
joined_after (Err e) f g = refl

-- ---- the lines with their numbers

abbrev numbered : ℕ → List (List ℕ) → List (ℕ × List ℕ)
numbered n [] = []
numbered n (line ∷ lines) = (n, line) ∷ numbered (n + 1) lines

abbrev is_own : List ℕ → Bool
is_own line = not (begins_with_blank line)

own_lines : (last : ℕ × List ℕ) (n : ℕ) (lines : List (List ℕ)) → list_all is_own lines ≡ true → lines_after Plain last n lines ≡ last ∷ numbered n lines
own_lines last n [] e = refl
own_lines last n (line ∷ lines) e = by (own_lines (n, line) (n + 1) lines) (begins_with_blank line) e
  where
    by : (list_all is_own lines ≡ true → lines_after Plain (n, line) (n + 1) lines ≡ (n, line) ∷ numbered (n + 1) lines) → (t : Bool) → (not t && list_all is_own lines) ≡ true → cond t (lines_after Plain (last.0, last.1 ++ line) (n + 1) lines) (last ∷ lines_after Plain (n, line) (n + 1) lines) ≡ last ∷ (n, line) ∷ numbered (n + 1) lines
    by rest true h = absurd (true≢false (sym h))
    by rest false h = ap (λ more. last ∷ more) (rest h)

own_directive : (directive : Directive) (rest : List ℕ) → is_own (name_of directive ++ rest) ≡ true
own_directive Suffix rest = refl
own_directive RootDn rest = refl
own_directive Access rest = refl

own_directives : (lines : List Line) → list_all is_own (map directive_text lines ++ [] ∷ []) ≡ true
own_directives [] = refl
own_directives (line ∷ more) = both (is_own (directive_text line)) _ (own_directive line.directive _) (own_directives more)

own_types : (types : List (List ℕ)) (lines : List (List ℕ)) → list_all is_own lines ≡ true → list_all is_own (map type_text types ++ lines) ≡ true
unfolding type_text
own_types [] lines e = e
own_types (definition ∷ more) lines e = own_types more lines e

flat_lines : (types : List (List ℕ)) (lines : List Line) → IsFlat types lines → logical_lines Plain (flat_text types lines) ≡ (1, codes "# slapkit slapconf") ∷ numbered 2 (lines_of types lines)
flat_lines types lines flat =
    ap (unfolded Plain) (flat_cut types lines flat)
    ∙ own_lines (1, codes "# slapkit slapconf") 2 (lines_of types lines) (own_types types (codes "database mdb" ∷ map directive_text lines ++ [] ∷ []) (own_directives lines))

within_limit : (n : ℕ) → n ≤ 16777216 → nat_lt 16777216 n ≡ false
within_limit n e = grind (arith, nat_tests)

too_long : Result (List ConfigLine) ConfigFault
too_long = Err (record { line = 0; cause = ConfigTooLong })

-- a comment says nothing
flat_bounded : (types : List (List ℕ)) (lines : List Line) → IsFlat types lines → bounded_lines (flat_text types lines) ≡ Ok (lines_said (numbered 2 (lines_of types lines)))
unfolding too_long
flat_bounded types lines flat =
    ap (λ t. cond t too_long (Ok (config_lines (flat_text types lines)))) (within_limit (length (flat_text types lines)) flat.bound)
    ∙ ap (λ found. Ok (lines_said found)) (flat_lines types lines flat)

-- a directive's line has its words
directive_said : (line : Line) → said_in (directive_text line) ≡ worded (Some (name_of line.directive) ∷ map Some line.arguments)
directive_said line =
    ap (λ found. defined_or (words_of (directive_text line)) found) (directive_defines line.directive line.arguments)
    ∙ ap worded (directive_words line.directive line.arguments)

-- ---- the types

no_number_more : (n : ℕ) → n ≡ n + 0
no_number_more n = omega arith

next_number : {A : Type 0} (n : ℕ) (a : A) (more : List A) → n + 1 + length more ≡ n + length (a ∷ more)
next_number n a more = omega arith

types_read : (rows : List TypeRow) (n : ℕ) (types lines : List (List ℕ))
    → types_after rows (lines_said (numbered n (map type_text types ++ lines))) ≡ and_then (types_at rows n types) (λ now. types_after now (lines_said (numbered (n + length types) lines)))
unfolding type_text
types_read rows n [] lines = ap (λ m. types_after rows (lines_said (numbered m lines))) (no_number_more n)
types_read rows n (definition ∷ more) lines =
    same_after (at_line n (types_with rows (Some (32 ∷ definition)))) _ _
    (λ now. types_read now (n + 1) more lines ∙ ap (λ m. and_then (types_at now (n + 1) more) (λ next. types_after next (lines_said (numbered m lines)))) (next_number n definition more))
    ∙ joined_after (at_line n (types_with rows (Some (32 ∷ definition)))) (λ now. types_at now (n + 1) more) (λ now. types_after now (lines_said (numbered (n + length (definition ∷ more)) lines)))

directives_define : (rows : List TypeRow) (n : ℕ) (lines : List Line) → types_after rows (lines_said (numbered n (map directive_text lines ++ [] ∷ []))) ≡ Ok rows
directives_define rows n [] = refl
directives_define rows n (line ∷ more) =
    ap (λ said. types_after rows (with_said n said (lines_said (numbered (n + 1) (map directive_text more ++ [] ∷ []))))) (directive_said line)
    ∙ directives_define rows (n + 1) more

types_of : (types : List (List ℕ)) (lines : List Line) → IsFlat types lines → (rows : List TypeRow) → config_types rows (flat_text types lines) ≡ types_at rows 2 types
types_of types lines flat rows =
    ap (λ found. and_then found (types_after rows)) (flat_bounded types lines flat)
    ∙ types_read rows 2 types (codes "database mdb" ∷ map directive_text lines ++ [] ∷ [])
    ∙ same_after (types_at rows 2 types) _ (λ now. Ok now) (λ now. directives_define now (2 + length types + 1) lines)
    ∙ nothing_after (types_at rows 2 types)

-- ---- the directives

types_say_nothing : (rows : List TypeRow) (settings : Settings) (n : ℕ) (types lines : List (List ℕ))
    → after_lines rows settings (lines_said (numbered n (map type_text types ++ lines))) ≡ after_lines rows settings (lines_said (numbered (n + length types) lines))
unfolding type_text
types_say_nothing rows settings n [] lines = ap (λ m. after_lines rows settings (lines_said (numbered m lines))) (no_number_more n)
types_say_nothing rows settings n (definition ∷ more) lines =
    types_say_nothing rows settings (n + 1) more lines ∙ ap (λ m. after_lines rows settings (lines_said (numbered m lines))) (next_number n definition more)

directives_read : (rows : List TypeRow) (settings : Settings) (n : ℕ) (lines : List Line)
    → after_lines rows settings (lines_said (numbered n (map directive_text lines ++ [] ∷ []))) ≡ directives_at rows settings n lines
directives_read rows settings n [] = refl
directives_read rows settings n (line ∷ more) =
    ap (λ said. after_lines rows settings (with_said n said (lines_said (numbered (n + 1) (map directive_text more ++ [] ∷ []))))) (directive_said line)
    ∙ same_after (at_line n (directive rows settings (name_of line.directive) (map Some line.arguments))) _ _ (λ now. directives_read rows now (n + 1) more)

third : (k : ℕ) → 2 + k + 1 ≡ k + 3
third k = omega arith

directives_of : (types : List (List ℕ)) (lines : List Line) → IsFlat types lines → (rows : List TypeRow)
    → config_of rows (flat_text types lines) ≡ and_then (directives_at rows in_database (first_directive types) lines) (λ settings. of_suffix settings settings.suffix)
directives_of types lines flat rows =
    ap (λ found. and_then found (config_of_lines rows)) (flat_bounded types lines flat)
    ∙ ap (λ found. and_then found (λ settings. of_suffix settings settings.suffix))
    (types_say_nothing rows no_settings 2 types (codes "database mdb" ∷ map directive_text lines ++ [] ∷ [])
    ∙ directives_read rows in_database (2 + length types + 1) lines
    ∙ ap (λ n. directives_at rows in_database n lines) (third (length types)))

pub flat_reads : FlatReads
flat_reads types lines flat = record { defined = types_of types lines flat; directed = directives_of types lines flat }
