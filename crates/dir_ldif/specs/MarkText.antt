-- The mark of a group in an undo text: the comment line `# undo N`, with N from 1.
use Rattle.std.specs.Prelude.{ℕ, Bool, ◌&&◌, List, [], ◌∷◌, ◌++◌, take, drop, codes, decimal}
use Rattle.std.specs.Str.{bytes_eq}
use Rattle.dir_names.specs.Ascii.{line_feed}
use Rattle.dir_names.specs.ValueKeys.{is_positive}

-- what stands in a mark before its number
abbrev pub mark_words : List ℕ
mark_words = codes "# undo "

-- a mark: its number is from 1 on, without a leading zero
abbrev pub is_mark : List ℕ → Bool
is_mark text = bytes_eq (take 7 text) mark_words && is_positive (drop 7 text)

-- the mark of a group, by its number
abbrev pub mark_of : ℕ → List ℕ
mark_of n = mark_words ++ decimal n

-- its line
abbrev pub mark_line : ℕ → List ℕ
mark_line n = mark_of n ++ line_feed ∷ []
