-- The lines of a flat configuration, and the arguments of each.
use Rattle.std.proofs.Common.{◌≡◌, ℕ, ◌-◌, Bool, true, false, cond, ◌&&◌, ◌==◌, List, [], ◌∷◌, ◌++◌, length, take, map, codes, Some, None, refl, sym, ap, ◌∙◌, true≢false, arith}
use Rattle.std.specs.List.{flat_map, list_all, onto_first, slice_get}
use native.Mathlib.Numerals.{unary_clauses}
use Rattle.std.proofs.lemmas.Bool.Decides.{nat_tests}
use Rattle.std.proofs.lemmas.List.{append_assoc, append-nil}
use Rattle.dir_names.proofs.Both.{left, right}
use Rattle.dir_names.specs.Cut.{parts_at}
use Rattle.dir_conf_text.specs.Arguments.{words_of}
use Rattle.dir_names.specs.Trimming.{is_return, without_return}
use Rattle.dir_conf_text.specs.Lines.{physical_lines}
use Rattle.dir_conf_text.specs.Quoting.{escaped, is_bare, is_bare_byte, is_escaped, preceded, quoted}
use Rattle.dir_conf_text.specs.Definitions.{definition_in}
use Rattle.dir_acl.proofs.Grammar.Sound.{not_true}
use Rattle.dir_conf_text.proofs.WrittenArguments.{written_arguments}
use Rattle.dir_conf.specs.declared.site.Directive.{Directive}
use Rattle.dir_conf.specs.declared.site.Directive.TheVariants.{Suffix, RootDn, Access}
use Rattle.dir_conf.specs.declared.site.Line.{Line}
use Rattle.dir_conf.specs.Flat.{directive_line, directive_text, flat_text, is_no_feed, name_of, type_line, type_text}
use Rattle.dir_conf.specs.Laws.{IsFlat, has_one_line, is_no_end}

pub both : (a b : Bool) → a ≡ true → b ≡ true → (a && b) ≡ true
both true b e f = f
both false b e f = absurd (true≢false (sym e))

-- ---- lines

-- a text begins with its first line
pub line_cut : (line rest : List ℕ) → list_all is_no_feed line ≡ true → parts_at 10 (line ++ 10 ∷ rest) ≡ line ∷ parts_at 10 rest
line_cut [] rest e = refl
line_cut (b ∷ bs) rest e =
    ap (λ t. cond t ([] ∷ parts_at 10 (bs ++ 10 ∷ rest)) (onto_first b (parts_at 10 (bs ++ 10 ∷ rest)))) (not_true _ (left _ _ e))
    ∙ ap (onto_first b) (line_cut bs rest (right (is_no_feed b) _ e))

pub all_joined : (p : ℕ → Bool) (xs ys : List ℕ) → list_all p xs ≡ true → list_all p ys ≡ true → list_all p (xs ++ ys) ≡ true
all_joined p [] ys e f = f
all_joined p (x ∷ xs) ys e f = both (p x) _ (left _ _ e) (all_joined p xs ys (right (p x) _ e) f)

-- whether a line ends in a carriage return
abbrev pub ends_in_return : List ℕ → Bool
ends_in_return [] = false
ends_in_return (b ∷ []) = b == 13
ends_in_return (b ∷ c ∷ cs) = ends_in_return (c ∷ cs)

last_is_return : (line : List ℕ) → ends_in_return line ≡ false → is_return (slice_get line (length line - 1)) ≡ false
last_is_return [] e = refl
last_is_return (b ∷ []) e = e
last_is_return (b ∷ c ∷ cs) e = let rest : is_return (slice_get (c ∷ cs) (length (c ∷ cs) - 1)) ≡ false = last_is_return (c ∷ cs) e in simp unary_clauses (simp unary_clauses at rest)

pub without_none : (line : List ℕ) → ends_in_return line ≡ false → without_return line ≡ line
without_none line e = ap (λ t. cond t (take (length line - 1) line) line) (last_is_return line e)

ends_as : (xs : List ℕ) (b : ℕ) (bs : List ℕ) → ends_in_return (xs ++ b ∷ bs) ≡ ends_in_return (b ∷ bs)
ends_as [] b bs = refl
ends_as (x ∷ []) b bs = refl
ends_as (x ∷ y ∷ ys) b bs = ends_as (y ∷ ys) b bs

-- no byte of a line is a carriage return
pub no_return : (line : List ℕ) → list_all is_no_end line ≡ true → ends_in_return line ≡ false
no_return [] e = refl
no_return (b ∷ []) e = not_true _ (right (is_no_feed b) _ (left _ _ e))
no_return (b ∷ c ∷ cs) e = no_return (c ∷ cs) (right (is_no_end b) _ e)

no_feed : (line : List ℕ) → list_all is_no_end line ≡ true → list_all is_no_feed line ≡ true
no_feed [] e = refl
no_feed (b ∷ bs) e = both (is_no_feed b) _ (left _ _ (left _ _ e)) (no_feed bs (right (is_no_end b) _ e))

-- ---- directives

pub directive_words : (directive : Directive) (arguments : List (List ℕ)) → words_of (name_of directive ++ flat_map preceded arguments) ≡ Some (name_of directive) ∷ map Some arguments
directive_words Suffix [] = written_arguments (codes "suffix") [] refl
directive_words Suffix (argument ∷ more) = written_arguments (codes "suffix") (argument ∷ more) refl
directive_words RootDn [] = written_arguments (codes "rootdn") [] refl
directive_words RootDn (argument ∷ more) = written_arguments (codes "rootdn") (argument ∷ more) refl
directive_words Access [] = written_arguments (codes "access") [] refl
directive_words Access (argument ∷ more) = written_arguments (codes "access") (argument ∷ more) refl

-- such a line defines no type
pub directive_defines : (directive : Directive) (arguments : List (List ℕ)) → definition_in (name_of directive ++ flat_map preceded arguments) ≡ None
directive_defines Suffix [] = refl
directive_defines Suffix (argument ∷ more) = refl
directive_defines RootDn [] = refl
directive_defines RootDn (argument ∷ more) = refl
directive_defines Access [] = refl
directive_defines Access (argument ∷ more) = refl

-- ---- what such lines are

name_free : (directive : Directive) → list_all is_no_feed (name_of directive) ≡ true
name_free Suffix = refl
name_free RootDn = refl
name_free Access = refl

escaped_free : (argument : List ℕ) → list_all is_no_feed argument ≡ true → list_all is_no_feed (flat_map escaped argument) ≡ true
escaped_free [] e = refl
escaped_free (b ∷ bs) e = by (is_escaped b) (both (is_no_feed b) _ (left _ _ e) (escaped_free bs (right (is_no_feed b) _ e)))
  where
    by : (t : Bool) → list_all is_no_feed (b ∷ flat_map escaped bs) ≡ true → list_all is_no_feed (cond t (92 ∷ b ∷ []) (b ∷ []) ++ flat_map escaped bs) ≡ true
    by true rest = rest
    by false rest = rest

quoted_free : (argument : List ℕ) → list_all is_no_feed argument ≡ true → list_all is_no_feed (quoted argument) ≡ true
quoted_free argument e = by (is_bare argument)
  where
    by : (t : Bool) → list_all is_no_feed (cond t argument (34 ∷ flat_map escaped argument ++ 34 ∷ [])) ≡ true
    by true = e
    by false = all_joined is_no_feed (flat_map escaped argument) (34 ∷ []) (escaped_free argument e) refl

arguments_free : (arguments : List (List ℕ)) → list_all (list_all is_no_feed) arguments ≡ true → list_all is_no_feed (flat_map preceded arguments) ≡ true
arguments_free [] e = refl
arguments_free (argument ∷ more) e =
    all_joined is_no_feed (preceded argument) (flat_map preceded more) (quoted_free argument (left _ _ e)) (arguments_free more (right (list_all is_no_feed argument) _ e))

-- no line feed is in a directive's line
pub directive_free : (directive : Directive) (arguments : List (List ℕ)) → list_all (list_all is_no_feed) arguments ≡ true → list_all is_no_feed (name_of directive ++ flat_map preceded arguments) ≡ true
directive_free directive arguments e = all_joined is_no_feed (name_of directive) (flat_map preceded arguments) (name_free directive) (arguments_free arguments e)

bare_end : (b : ℕ) (bs : List ℕ) → list_all is_bare_byte (b ∷ bs) ≡ true → ends_in_return (b ∷ bs) ≡ false
bare_end b [] e = bare_no_return b (left _ _ e)
  where
    bare_no_return : (b : ℕ) → is_bare_byte b ≡ true → (b == 13) ≡ false
    bare_no_return b e = grind (arith, nat_tests)
bare_end b (c ∷ cs) e = bare_end c cs (right (is_bare_byte b) _ e)

quotes_end : (argument : List ℕ) → ends_in_return (32 ∷ 34 ∷ flat_map escaped argument ++ 34 ∷ []) ≡ false
quotes_end argument = ends_as (32 ∷ 34 ∷ flat_map escaped argument) 34 []

preceded_end : (argument : List ℕ) → ends_in_return (preceded argument) ≡ false
preceded_end [] = refl
preceded_end (b ∷ bs) = by (is_bare (b ∷ bs)) refl
  where
    by : (t : Bool) → is_bare (b ∷ bs) ≡ t → ends_in_return (32 ∷ cond t (b ∷ bs) (34 ∷ flat_map escaped (b ∷ bs) ++ 34 ∷ [])) ≡ false
    by true e = bare_end b bs e
    by false e = quotes_end (b ∷ bs)

arguments_end : (before : List ℕ) (arguments : List (List ℕ)) → ends_in_return before ≡ false → ends_in_return (before ++ flat_map preceded arguments) ≡ false
arguments_end before [] e = ap ends_in_return (append-nil before) ∙ e
arguments_end before (argument ∷ more) e =
    ap ends_in_return (sym (append_assoc before (preceded argument) (flat_map preceded more)))
    ∙ arguments_end (before ++ preceded argument) more (ends_as before 32 (quoted argument) ∙ preceded_end argument)

name_end : (directive : Directive) → ends_in_return (name_of directive) ≡ false
name_end Suffix = refl
name_end RootDn = refl
name_end Access = refl

-- a directive's line has no carriage return at its end
pub directive_end : (directive : Directive) (arguments : List (List ℕ)) → ends_in_return (name_of directive ++ flat_map preceded arguments) ≡ false
directive_end directive arguments = arguments_end (name_of directive) arguments (name_end directive)

-- ---- the lines of a text

pub physical_cut : (line rest : List ℕ) → list_all is_no_feed line ≡ true → ends_in_return line ≡ false → physical_lines (line ++ 10 ∷ rest) ≡ line ∷ physical_lines rest
physical_cut line rest free plain = ap (map without_return) (line_cut line rest free) ∙ ap (λ first. first ∷ physical_lines rest) (without_none line plain)

moved : (line tail rest : List ℕ) → ((line ++ 10 ∷ []) ++ tail) ++ rest ≡ line ++ 10 ∷ (tail ++ rest)
moved line tail rest = append_assoc (line ++ 10 ∷ []) tail rest ∙ append_assoc line (10 ∷ []) (tail ++ rest)

type_free : (definition : List ℕ) → list_all is_no_end definition ≡ true → list_all is_no_feed (type_text definition) ≡ true
unfolding type_text
type_free definition e = all_joined is_no_feed (codes "attributetype ") definition refl (no_feed definition e)

type_end : (definition : List ℕ) → list_all is_no_end definition ≡ true → ends_in_return (type_text definition) ≡ false
unfolding type_text
type_end definition e = no_return (type_text definition) (all_joined is_no_end (codes "attributetype ") definition refl e)

pub types_cut : (types : List (List ℕ)) (rest : List ℕ) → list_all (list_all is_no_end) types ≡ true → physical_lines (flat_map type_line types ++ rest) ≡ map type_text types ++ physical_lines rest
types_cut [] rest e = refl
types_cut (definition ∷ more) rest e =
    let plain : list_all is_no_end definition ≡ true = left _ _ e in
    ap physical_lines (moved (type_text definition) (flat_map type_line more) rest)
    ∙ physical_cut (type_text definition) (flat_map type_line more ++ rest) (type_free definition plain) (type_end definition plain)
    ∙ ap (λ lines. type_text definition ∷ lines) (types_cut more rest (right (list_all is_no_end definition) _ e))

pub directives_cut : (lines : List Line) → list_all has_one_line lines ≡ true → physical_lines (flat_map directive_line lines) ≡ map directive_text lines ++ [] ∷ []
directives_cut [] e = refl
directives_cut (line ∷ more) e =
    ap physical_lines (append_assoc (directive_text line) (10 ∷ []) (flat_map directive_line more))
    ∙ physical_cut (directive_text line) (flat_map directive_line more) (directive_free line.directive line.arguments (left _ _ e)) (directive_end line.directive line.arguments)
    ∙ ap (λ lines. directive_text line ∷ lines) (directives_cut more (right (has_one_line line) _ e))

-- a site's lines after the first, which is a comment
abbrev pub lines_of : List (List ℕ) → List Line → List (List ℕ)
lines_of types lines = map type_text types ++ (codes "database mdb" ∷ map directive_text lines ++ [] ∷ [])

pub flat_cut : (types : List (List ℕ)) (lines : List Line) → IsFlat types lines → physical_lines (flat_text types lines) ≡ codes "# slapkit slapconf" ∷ lines_of types lines
flat_cut types lines flat =
    let rest : List ℕ = codes "database mdb\n" ++ flat_map directive_line lines in
    ap physical_lines (append_assoc (codes "# slapkit slapconf\n" ++ flat_map type_line types) (codes "database mdb\n") (flat_map directive_line lines))
    ∙ physical_cut (codes "# slapkit slapconf") (flat_map type_line types ++ rest) refl refl
    ∙ ap (λ lines. codes "# slapkit slapconf" ∷ lines)
    (types_cut types rest flat.defined
    ∙ ap (λ lines. map type_text types ++ lines)
    (physical_cut (codes "database mdb") (flat_map directive_line lines) refl refl ∙ ap (λ lines. codes "database mdb" ∷ lines) (directives_cut lines flat.directed))
    )
