-- What a reader that counts the groups of an undo text makes of a comment line.
use Rattle.std.specs.Prelude.{ℕ, ◌+◌, Bool, false, true, not, ◌||◌, if◌then◌else◌, nat_lt, List, Option, None, Some, Result, Ok, Err, is_none}
use Rattle.std.specs.Str.{bytes_eq}
use Rattle.dir_ldif.specs.MarkText.{is_mark, mark_of}
use Rattle.dir_ldif.specs.declared.faults.StreamFault.{StreamFault}
use Rattle.dir_ldif.specs.declared.faults.StreamFault.TheVariants.{BadMark}
use Rattle.dir_ldif.specs.declared.reader.marks.Marks.{Marks}

-- the marks of a reader that has passed none: one for which a mark is a comment, and one of so many groups
abbrev pub ignored : Marks
ignored = record { groups = None; passed = 0; is_over = false }

abbrev pub up_to : ℕ → Marks
up_to groups = record { groups = Some groups; passed = 0; is_over = false }

-- the marks once the one that is due was met: the text is over where it comes after the last wanted group
abbrev pub after_due : ℕ → Marks → Marks
after_due groups m = if nat_lt m.passed groups then record m { passed = m.passed + 1 } else record m { is_over = true }

-- the marks after a comment line that stands where a block may begin: a mark must be the one that is due, where groups are wanted
abbrev pub after_mark : Option ℕ → Marks → List ℕ → Result Marks StreamFault
after_mark None m text = Ok m
after_mark (Some groups) m text =
    if not (is_mark text) then Ok m
    else (if bytes_eq text (mark_of (m.passed + 1)) then Ok (after_due groups m) else Err BadMark)

abbrev pub after_comment : Marks → List ℕ → Result Marks StreamFault
after_comment m text = after_mark m.groups m text

-- a record may come: where groups are wanted, none comes before the first mark
abbrev pub may_have_records : Marks → Bool
may_have_records m = is_none m.groups || nat_lt 0 m.passed
