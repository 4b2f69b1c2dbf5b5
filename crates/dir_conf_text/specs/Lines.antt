-- The logical lines of a slapd.conf (slapd.conf(5), "GENERAL FORMAT"), as the specification joins physical lines and as slapd does.
use Rattle.std.specs.Prelude.{ℕ, ◌+◌, ◌-◌, Bool, false, cond, not, ◌&&◌, ◌||◌, ◌==◌, nat_lt, List, [], ◌∷◌, ◌++◌, length, take, drop, map, codes, Option, None, Some}
use Rattle.std.specs.List.{slice_get}
use Rattle.dir_names.specs.Ascii.{backslash, line_feed, sharp, space}
use Rattle.dir_names.specs.Cut.{parts_at}
use Rattle.dir_names.specs.Trimming.{is_blank, without_return}
use Rattle.dir_conf_text.specs.declared.joining.Joining.{Joining}
use Rattle.dir_conf_text.specs.declared.joining.Joining.TheVariants.{Plain, AsSlapd}
use Rattle.dir_conf_text.specs.declared.lines.TextLine.{TextLine}
use Rattle.dir_conf_text.specs.Keywords.{is_word}

-- a line, after the number of its first physical line
abbrev pub line_by : TextLine → ℕ × List ℕ
line_by line = (line.number, line.text)

-- the physical lines, each without one carriage return at its end
abbrev pub physical_lines : List ℕ → List (List ℕ)
physical_lines text = map without_return (parts_at line_feed text)

abbrev pub is_comment : List ℕ → Bool
is_comment [] = false
is_comment (b ∷ bs) = b == sharp

-- ---- a physical line that goes on with the one before: in the specification one that begins with space or tab

abbrev pub begins_with_blank : List ℕ → Bool
begins_with_blank [] = false
begins_with_blank (b ∷ bs) = is_blank b

-- ---- the same in slapd

-- tab, line feed, vertical tab, form feed, carriage return and space
abbrev pub is_space : ℕ → Bool
is_space b = b == space || (nat_lt 8 b && nat_lt b 14)

abbrev pub begins_with_space : List ℕ → Bool
begins_with_space [] = false
begins_with_space (b ∷ bs) = is_space b

-- a line that begins with `include` ends with its physical line
abbrev pub begins_with_include : List ℕ → Bool
begins_with_include line = is_word (take 7 line) (codes "include")

abbrev pub is_backslash : Option ℕ → Bool
is_backslash None = false
is_backslash (Some b) = b == backslash

abbrev pub ends_in_backslash : List ℕ → Bool
ends_in_backslash line = is_backslash (slice_get line (length line - 1))

-- a backslash at the end, which has none before it
abbrev pub is_open : List ℕ → Bool
is_open line = ends_in_backslash line && not (ends_in_backslash (take (length line - 1) line))

-- whether the next physical line goes on with a line
abbrev pub joins_in_slapd : List ℕ → List ℕ → Bool
joins_in_slapd line next = not (begins_with_include line) && (is_open line || begins_with_space next)

-- in the place of the backslash as it is, and else with a space in the place of its first byte
abbrev pub joined_by_slapd : List ℕ → List ℕ → List ℕ
joined_by_slapd line next = cond (is_open line) (take (length line - 1) line ++ next) (line ++ space ∷ drop 1 next)

-- what comes after the line feed that ends a text is no line
abbrev pub is_feed : Option ℕ → Bool
is_feed None = false
is_feed (Some b) = b == line_feed

abbrev pub without_feed : List ℕ → List ℕ
without_feed text = cond (is_feed (slice_get text (length text - 1))) (take (length text - 1) text) text

-- ---- both

abbrev pub text_of : Joining → List ℕ → List ℕ
text_of Plain text = text
text_of AsSlapd text = without_feed text

abbrev pub joins : Joining → List ℕ → List ℕ → Bool
joins Plain line next = begins_with_blank next
joins AsSlapd line next = joins_in_slapd line next

abbrev pub joined : Joining → List ℕ → List ℕ → List ℕ
joined Plain line next = line ++ next
joined AsSlapd line next = joined_by_slapd line next

-- the logical lines, each with the number of its first physical line: after the last one so far come the physical lines from number `n` on
abbrev pub lines_after : Joining → ℕ × List ℕ → ℕ → List (List ℕ) → List (ℕ × List ℕ)
lines_after joining last n [] = last ∷ []
lines_after joining last n (line ∷ lines) =
    cond (joins joining last.1 line) (lines_after joining (last.0, joined joining last.1 line) (n + 1) lines) (last ∷ lines_after joining (n, line) (n + 1) lines)

-- the first line of the text stays for itself
abbrev pub unfolded : Joining → List (List ℕ) → List (ℕ × List ℕ)
unfolded joining [] = []
unfolded joining (line ∷ lines) = lines_after joining (1, line) 2 lines

abbrev pub logical_lines : Joining → List ℕ → List (ℕ × List ℕ)
logical_lines joining text = unfolded joining (physical_lines (text_of joining text))
