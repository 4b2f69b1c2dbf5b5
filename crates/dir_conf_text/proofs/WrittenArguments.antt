-- Arguments that were written are read as they were.
use Rattle.std.proofs.Common.{◌≡◌, ℕ, Bool, true, false, cond, not, ◌||◌, ◌==◌, nat_lt, List, [], ◌∷◌, ◌++◌, map, Some, refl, sym, ap, ◌∙◌, true≢false, arith}
use Rattle.std.specs.List.{flat_map, list_all}
use Rattle.std.proofs.lemmas.Bool.Decides.{nat_tests}
use Rattle.std.proofs.lemmas.List.{append_assoc, append-nil}
use Rattle.dir_names.proofs.Both.{left, right}
use Rattle.dir_conf_text.specs.Arguments.{after_step, arguments_from, arguments_of, step_in_argument, step_of}
use Rattle.dir_names.specs.Trimming.{is_blank}
use Rattle.dir_conf_text.specs.Quoting.{escaped, is_bare, is_bare_byte, is_escaped, preceded, quoted}
use Rattle.dir_conf_text.specs.declared.arguments.Spot.TheVariants.{Between, Plain, Quoted, PlainEscape, QuotedEscape}
use Rattle.dir_conf_text.specs.declared.arguments.Step.TheVariants.{Skip, Take, Close}

not_true : (x : Bool) → not x ≡ true → x ≡ false
not_true true e = absurd (cc)
not_true false e = refl

neither_left : (a b : Bool) → (a || b) ≡ false → a ≡ false
neither_left true b e = e
neither_left false b e = refl

neither_right : (a b : Bool) → (a || b) ≡ false → b ≡ false
neither_right true b e = absurd (true≢false e)
neither_right false b e = e

-- a bare byte is taken as it is
not_blank : (b : ℕ) → is_bare_byte b ≡ true → is_blank b ≡ false
not_blank b e = grind (arith, nat_tests)

bare_inside : (b : ℕ) → is_bare_byte b ≡ true → step_in_argument b ≡ Take Plain
bare_inside b e =
    let free : is_escaped b ≡ false = not_true _ (right (nat_lt 32 b) _ e) in
    ap (λ t. cond t (Skip PlainEscape) (cond (b == 34) (Skip Quoted) (Take Plain))) (neither_right (b == 34) (b == 92) free)
    ∙ ap (λ t. cond t (Skip Quoted) (Take Plain)) (neither_left (b == 34) (b == 92) free)

bare_first : (b : ℕ) → is_bare_byte b ≡ true → step_of Between b ≡ Take Plain
bare_first b e = ap (λ t. cond t (Skip Between) (step_in_argument b)) (not_blank b e) ∙ bare_inside b e

bare_next : (b : ℕ) → is_bare_byte b ≡ true → step_of Plain b ≡ Take Plain
bare_next b e = ap (λ t. cond t Close (step_in_argument b)) (not_blank b e) ∙ bare_inside b e

bare_reads : (item argument rest : List ℕ) → list_all is_bare_byte argument ≡ true → arguments_from Plain item (argument ++ rest) ≡ arguments_from Plain (item ++ argument) rest
bare_reads item [] rest e = ap (λ bytes. arguments_from Plain bytes rest) (sym (append-nil item))
bare_reads item (b ∷ bs) rest e =
    ap (λ s. after_step s b item (λ next bytes. arguments_from next bytes (bs ++ rest))) (bare_next b (left _ _ e))
    ∙ bare_reads (item ++ b ∷ []) bs rest (right (is_bare_byte b) _ e)
    ∙ ap (λ bytes. arguments_from Plain bytes rest) (append_assoc item (b ∷ []) bs)

escaped_reads : (item argument rest : List ℕ) → arguments_from Quoted item (flat_map escaped argument ++ 34 ∷ rest) ≡ arguments_from Plain (item ++ argument) rest
escaped_reads item [] rest = ap (λ bytes. arguments_from Plain bytes rest) (sym (append-nil item))
escaped_reads item (b ∷ bs) rest = by (is_escaped b) refl ∙ escaped_reads (item ++ b ∷ []) bs rest ∙ ap (λ bytes. arguments_from Plain bytes rest) (append_assoc item (b ∷ []) bs)
  where
    by : (t : Bool) → is_escaped b ≡ t → arguments_from Quoted item ((cond t (92 ∷ b ∷ []) (b ∷ []) ++ flat_map escaped bs) ++ 34 ∷ rest) ≡ arguments_from Quoted (item ++ b ∷ []) (flat_map escaped bs ++ 34 ∷ rest)
    by true e = refl
    by false e =
        ap (λ t. after_step (cond t (Skip QuotedEscape) (cond (b == 34) (Skip Plain) (Take Quoted))) b item (λ next bytes. arguments_from next bytes (flat_map escaped bs ++ 34 ∷ rest))) (neither_right (b == 34) (b == 92) e)
        ∙ ap (λ t. after_step (cond t (Skip Plain) (Take Quoted)) b item (λ next bytes. arguments_from next bytes (flat_map escaped bs ++ 34 ∷ rest))) (neither_left (b == 34) (b == 92) e)

quotes_read : (argument rest : List ℕ) → arguments_from Between [] ((34 ∷ flat_map escaped argument ++ 34 ∷ []) ++ rest) ≡ arguments_from Plain argument rest
quotes_read argument rest = ap (arguments_from Quoted []) (append_assoc (flat_map escaped argument) (34 ∷ []) rest) ∙ escaped_reads [] argument rest

-- an argument that was written is read
quoted_reads : (argument rest : List ℕ) → arguments_from Between [] (quoted argument ++ rest) ≡ arguments_from Plain argument rest
quoted_reads [] rest = quotes_read [] rest
quoted_reads (b ∷ bs) rest = by (is_bare (b ∷ bs)) refl
  where
    by : (t : Bool) → is_bare (b ∷ bs) ≡ t → arguments_from Between [] (cond t (b ∷ bs) (34 ∷ flat_map escaped (b ∷ bs) ++ 34 ∷ []) ++ rest) ≡ arguments_from Plain (b ∷ bs) rest
    by true e =
        ap (λ s. after_step s b [] (λ next bytes. arguments_from next bytes (bs ++ rest))) (bare_first b (left _ _ e))
        ∙ bare_reads (b ∷ []) bs rest (right (is_bare_byte b) _ e)
    by false e = quotes_read (b ∷ bs) rest

preceded_read : (item : List ℕ) (arguments : List (List ℕ)) → arguments_from Plain item (flat_map preceded arguments) ≡ Some item ∷ map Some arguments
preceded_read item [] = refl
preceded_read item (argument ∷ more) =
    ap (λ next. Some item ∷ next) (quoted_reads argument (flat_map preceded more) ∙ preceded_read argument more)

bare_as_it_is : (word : List ℕ) → is_bare word ≡ true → quoted word ≡ word
bare_as_it_is word e = ap (λ t. cond t word (34 ∷ flat_map escaped word ++ 34 ∷ [])) e

-- a line that begins with a word that can stand without quotes, and goes on with arguments as they are written
pub written_arguments : (word : List ℕ) (arguments : List (List ℕ)) → is_bare word ≡ true → arguments_of (word ++ flat_map preceded arguments) ≡ Some word ∷ map Some arguments
written_arguments word arguments e =
    ap (λ first. arguments_from Between [] (first ++ flat_map preceded arguments)) (sym (bare_as_it_is word e))
    ∙ quoted_reads word (flat_map preceded arguments)
    ∙ preceded_read word arguments
