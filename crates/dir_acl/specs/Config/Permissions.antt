-- The <access> and the <control> of a clause (slapd.access(5), "THE <ACCESS> FIELD", "THE <CONTROL> FIELD").
use Rattle.std.specs.Prelude.{ℕ, true, cond, ◌==◌, List, [], ◌∷◌, length, codes, Option, Some, None, option_and_then}
use Rattle.std.specs.Char.{to_ascii_lowercase}
use Rattle.std.specs.Str.{bytes_eq}
use Rattle.dir_names.specs.Ascii.{equals_sign, hyphen, plus}
use Rattle.dir_acl.specs.declared.access.Control.{Control}
use Rattle.dir_acl.specs.declared.access.Control.TheVariants.{Stop, Continue, Break}
use Rattle.dir_acl.specs.declared.access.Edit.{Edit}
use Rattle.dir_acl.specs.declared.access.Edit.TheVariants as edit
use Rattle.dir_acl.specs.declared.privileges.Level.{Level}
use Rattle.dir_acl.specs.declared.privileges.Privileges.{Privileges}
use Rattle.dir_conf_text.specs.Keywords.{is_word}
use Rattle.dir_acl.specs.Inside.RunningSet.{joined}
use Rattle.dir_acl.specs.Privileges.{level_of, level_set, no_privileges, privileges_text}

-- ---- <access>

-- the privileges of a small letter: m w a z r s c x d
abbrev pub privileges_of_small : ℕ → Option Privileges
privileges_of_small b =
    cond (b == 109) (Some (record no_privileges { manage = true }))
    (cond (b == 119) (Some (record no_privileges { add = true; delete = true }))
    (cond (b == 97) (Some (record no_privileges { add = true }))
    (cond (b == 122) (Some (record no_privileges { delete = true }))
    (cond (b == 114) (Some (record no_privileges { read = true }))
    (cond (b == 115) (Some (record no_privileges { search = true }))
    (cond (b == 99) (Some (record no_privileges { compare = true }))
    (cond (b == 120) (Some (record no_privileges { auth = true }))
    (cond (b == 100) (Some (record no_privileges { disclose = true })) None))))))))

-- letters in any case
abbrev pub privileges_of_letter : ℕ → Option Privileges
privileges_of_letter b = privileges_of_small (to_ascii_lowercase b)

abbrev pub joined_letters : Privileges → List ℕ → Option Privileges
joined_letters set [] = Some set
joined_letters set (b ∷ bs) = option_and_then (λ more. joined_letters (joined set more) bs) (privileges_of_letter b)

-- `0` alone, or one or more letters
abbrev pub privileges_of_letters : List ℕ → Option Privileges
privileges_of_letters letters = cond (is_word letters (codes "0")) (Some no_privileges) (cond (length letters == 0) None (joined_letters no_privileges letters))

-- the set that has this text (`privileges_text`): a sign and its letters
abbrev pub set_with_text : List ℕ → Option Privileges
set_with_text [] = None
set_with_text (sign ∷ letters) = option_and_then (λ set. cond (bytes_eq (privileges_text set) (sign ∷ letters)) (Some set) None) (privileges_of_letters letters)

abbrev pub edit_by : ℕ → Privileges → Option Edit
edit_by sign set = cond (sign == equals_sign) (Some (edit.Set set)) (cond (sign == plus) (Some (edit.Add set)) (cond (sign == hyphen) (Some (edit.Remove set)) None))

-- `=`, `+` or `-`, and the privileges
abbrev pub signed_edit : List ℕ → Option Edit
signed_edit [] = None
signed_edit (sign ∷ letters) = option_and_then (edit_by sign) (privileges_of_letters letters)

abbrev pub edit_with : Option Level → List ℕ → Option Edit
edit_with None word = signed_edit word
edit_with (Some level) word = Some (edit.Set (level_set level))

-- a level, or a sign and privileges
abbrev pub edit_of : List ℕ → Option Edit
edit_of word = edit_with (level_of word) word

-- a clause without an <access> changes nothing: `+0`
abbrev pub no_edit : Edit
no_edit = edit.Add no_privileges

-- ---- <control>

abbrev pub control_of : List ℕ → Option Control
control_of word =
    cond (is_word word (codes "stop")) (Some Stop) (cond (is_word word (codes "continue")) (Some Continue) (cond (is_word word (codes "break")) (Some Break) None))
