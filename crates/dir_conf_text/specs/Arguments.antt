-- The arguments of a line (slapd.conf(5), "GENERAL FORMAT").
use Rattle.std.specs.Prelude.{ℕ, cond, ◌||◌, ◌==◌, List, [], ◌∷◌, ◌++◌, Option, Some, None, is_some, option_map}
use Rattle.dir_names.specs.Ascii.{double_quote, backslash}
use Rattle.dir_conf_text.specs.declared.arguments.Spot.{Spot}
use Rattle.dir_conf_text.specs.declared.arguments.Spot.TheVariants.{Between, Plain, Quoted, PlainEscape, QuotedEscape}
use Rattle.dir_conf_text.specs.declared.arguments.Step.{Step}
use Rattle.dir_conf_text.specs.declared.arguments.Step.TheVariants.{Skip, Take, Close}
use Rattle.dir_names.specs.Trimming.{is_blank}
use Rattle.dir_conf_text.specs.Lines.{is_comment}
use Rattle.dir_conf_text.specs.Definitions.{definition_in}

-- a byte of an argument outside quotes, or its first one: a quote begins a stretch in which white space is kept, and is dropped; a backslash takes the next byte
-- as it is
abbrev pub step_in_argument : ℕ → Step
step_in_argument b = cond (b == backslash) (Skip PlainEscape) (cond (b == double_quote) (Skip Quoted) (Take Plain))

abbrev pub step_of : Spot → ℕ → Step
step_of Between b = cond (is_blank b) (Skip Between) (step_in_argument b)
step_of Plain b = cond (is_blank b) Close (step_in_argument b)
step_of Quoted b = cond (b == backslash) (Skip QuotedEscape) (cond (b == double_quote) (Skip Plain) (Take Quoted))
step_of PlainEscape b = Take Plain
step_of QuotedEscape b = Take Quoted

-- the argument that the line's end leaves: none with an open quote or a final backslash
abbrev pub last_argument : Spot → List ℕ → List (Option (List ℕ))
last_argument Between item = []
last_argument Plain item = Some item ∷ []
last_argument Quoted item = None ∷ []
last_argument PlainEscape item = None ∷ []
last_argument QuotedEscape item = None ∷ []

-- what a byte does: it is no part of the argument that is being read, or the next one of its bytes, or ends it
abbrev pub after_step : Step → ℕ → List ℕ → (Spot → List ℕ → List (Option (List ℕ))) → List (Option (List ℕ))
after_step (Skip next) b item rest = rest next item
after_step (Take next) b item rest = rest next (item ++ b ∷ [])
after_step Close b item rest = Some item ∷ rest Between []

abbrev pub arguments_from : Spot → List ℕ → List ℕ → List (Option (List ℕ))
arguments_from spot item [] = last_argument spot item
arguments_from spot item (b ∷ bs) = after_step (step_of spot b) b item (λ next bytes. arguments_from next bytes bs)

-- the arguments of a line, cut at white space that is not in quotes. One with an open quote or a backslash at the line's end is `None`; it is the last
abbrev pub arguments_of : List ℕ → List (Option (List ℕ))
arguments_of line = arguments_from Between [] line

-- the words of a line: its arguments. A comment has none, nor has the definition of a type, which is not cut
abbrev pub words_of : List ℕ → List (Option (List ℕ))
words_of line = cond (is_comment line || is_some (definition_in line)) [] (arguments_of line)

abbrev pub all_whole : List (Option (List ℕ)) → Option (List (List ℕ))
all_whole [] = Some []
all_whole (None ∷ more) = None
all_whole (Some word ∷ more) = option_map (λ rest. word ∷ rest) (all_whole more)

-- the words of a line, if none has an open quote or a final backslash
abbrev pub whole_words : List ℕ → Option (List (List ℕ))
whole_words line = all_whole (words_of line)
