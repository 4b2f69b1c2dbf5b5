-- The definitions of attribute types in a slapd.conf (slapd.conf(5), `attributetype`).
use Rattle.std.specs.Prelude.{ℕ, cond, List, [], ◌∷◌, codes, drop, Option, Some, None}
use Rattle.std.specs.List.{before_first, position_or_len}
use Rattle.dir_names.specs.Trimming.{is_blank}
use Rattle.dir_conf_text.specs.Keywords.{is_word}

-- a text without the white space that it begins with
abbrev pub without_blanks : List ℕ → List ℕ
without_blanks [] = []
without_blanks (b ∷ bs) = cond (is_blank b) (without_blanks bs) (b ∷ bs)

-- the first word of a text as it stands, quotes and all, and what is after it
abbrev pub first_word : List ℕ → List ℕ
first_word text = before_first is_blank text

abbrev pub after_word : List ℕ → List ℕ
after_word text = drop (position_or_len is_blank text) text

abbrev pub defined_after : List ℕ → Option (List ℕ)
defined_after text = cond (is_word (first_word text) (codes "attributetype")) (Some (after_word text)) None

-- the definition in a line: all that is after its first word, where that is `attributetype`
abbrev pub definition_in : List ℕ → Option (List ℕ)
definition_in line = defined_after (without_blanks line)
