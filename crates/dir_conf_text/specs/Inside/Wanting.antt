-- How far a line is read, and how many of its words have yet to begin.
use Rattle.std.specs.Prelude.{ℕ, ◌+◌, ◌-◌, cond, ◌==◌, List, [], ◌∷◌}
use Rattle.dir_conf_text.specs.declared.arguments.Spot.{Spot}
use Rattle.dir_conf_text.specs.declared.arguments.Spot.TheVariants.{Between, Plain, Quoted, PlainEscape, QuotedEscape}
use Rattle.dir_conf_text.specs.declared.arguments.Step.{Step}
use Rattle.dir_conf_text.specs.declared.arguments.Step.TheVariants.{Skip, Take, Close}
use Rattle.dir_conf_text.specs.declared.physical.Wanting.{Wanting}
use Rattle.dir_conf_text.specs.Arguments.{step_of}
use Rattle.dir_names.specs.Trimming.{is_blank}

abbrev pub wanting_of : Wanting → Spot × ℕ
wanting_of wanting = (wanting.spot, wanting.words)

abbrev pub next_spot : Step → Spot
next_spot (Skip next) = next
next_spot (Take next) = next
next_spot Close = Between

-- between words any byte but white space begins one
abbrev pub words_begun : Spot → ℕ → ℕ
words_begun Between b = cond (is_blank b) 0 1
words_begun Plain b = 0
words_begun Quoted b = 0
words_begun PlainEscape b = 0
words_begun QuotedEscape b = 0

abbrev pub after_byte : Spot × ℕ → ℕ → Spot × ℕ
after_byte wanting b = (next_spot (step_of wanting.0 b), wanting.1 - words_begun wanting.0 b)

abbrev pub after_bytes : Spot × ℕ → List ℕ → Spot × ℕ
after_bytes wanting [] = wanting
after_bytes wanting (b ∷ bs) = after_bytes (after_byte wanting b) bs

-- of these physical lines, the first of which is line `n`, the one on which the last of the words begins
abbrev pub line_of_last : Spot × ℕ → ℕ → List (List ℕ) → ℕ
line_of_last wanting n [] = n
line_of_last wanting n (line ∷ lines) = cond ((after_bytes wanting line).1 == 0) n (line_of_last (after_bytes wanting line) (n + 1) lines)
