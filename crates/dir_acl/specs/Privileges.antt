-- Privileges and levels (slapd.access(5), "THE <ACCESS> FIELD").
use Rattle.std.specs.Prelude.{ℕ, Bool, true, false, cond, not, ◌&&◌, ◌||◌, List, [], ◌∷◌, ◌++◌, Option, Some, None, codes}
use Rattle.std.specs.Str.{str_eq_ignore_ascii_case}
use Rattle.dir_acl.specs.declared.privileges.Level.{Level}
use Rattle.dir_acl.specs.declared.privileges.Level.TheVariants as level
use Rattle.dir_acl.specs.declared.privileges.Privilege.{Privilege}
use Rattle.dir_acl.specs.declared.privileges.Privilege.TheVariants.{Manage, Add, Delete, Read, Search, Compare, Auth, Disclose}
use Rattle.dir_acl.specs.declared.privileges.Privileges.{Privileges}

-- whether a set has the privilege
abbrev pub has : Privileges → Privilege → Bool
has set Manage = set.manage
has set Add = set.add
has set Delete = set.delete
has set Read = set.read
has set Search = set.search
has set Compare = set.compare
has set Auth = set.auth
has set Disclose = set.disclose

abbrev pub no_privileges : Privileges
no_privileges = record { manage = false; add = false; delete = false; read = false; search = false; compare = false; auth = false; disclose = false }

abbrev pub all_privileges : Privileges
all_privileges = record { manage = true; add = true; delete = true; read = true; search = true; compare = true; auth = true; disclose = true }

-- ---- levels: disclose `d`, auth `xd`, compare `cxd`, search `scxd`, read `rscxd`, write `wrscxd`, add `arscxd`, delete `zrscxd`, manage `mwrscxd`

abbrev pub read_set : Privileges
read_set = record { manage = false; add = false; delete = false; read = true; search = true; compare = true; auth = true; disclose = true }

abbrev pub level_set : Level → Privileges
level_set level.None = no_privileges
level_set level.Disclose = record no_privileges { disclose = true }
level_set level.Auth = record no_privileges { auth = true; disclose = true }
level_set level.Compare = record no_privileges { compare = true; auth = true; disclose = true }
level_set level.Search = record no_privileges { search = true; compare = true; auth = true; disclose = true }
level_set level.Read = read_set
level_set level.Write = record read_set { add = true; delete = true }
level_set level.Add = record read_set { add = true }
level_set level.Delete = record read_set { delete = true }
level_set level.Manage = all_privileges

-- a level is allowed if its own privilege is held: `a` and `z` for write, else that of its first letter. `none` always is
abbrev pub is_allowed : Privileges → Level → Bool
is_allowed set level.None = true
is_allowed set level.Disclose = set.disclose
is_allowed set level.Auth = set.auth
is_allowed set level.Compare = set.compare
is_allowed set level.Search = set.search
is_allowed set level.Read = set.read
is_allowed set level.Write = set.add && set.delete
is_allowed set level.Add = set.add
is_allowed set level.Delete = set.delete
is_allowed set level.Manage = set.manage

-- the level that a word names, in any ASCII case
abbrev pub write_level : List ℕ → Option Level
write_level word =
    cond (str_eq_ignore_ascii_case word (codes "write")) (Some level.Write)
    (cond (str_eq_ignore_ascii_case word (codes "add")) (Some level.Add)
    (cond (str_eq_ignore_ascii_case word (codes "delete")) (Some level.Delete)
    (cond (str_eq_ignore_ascii_case word (codes "manage")) (Some level.Manage) None)))

abbrev pub level_of : List ℕ → Option Level
level_of word =
    cond (str_eq_ignore_ascii_case word (codes "none")) (Some level.None)
    (cond (str_eq_ignore_ascii_case word (codes "disclose")) (Some level.Disclose)
    (cond (str_eq_ignore_ascii_case word (codes "auth")) (Some level.Auth)
    (cond (str_eq_ignore_ascii_case word (codes "compare")) (Some level.Compare)
    (cond (str_eq_ignore_ascii_case word (codes "search")) (Some level.Search)
    (cond (str_eq_ignore_ascii_case word (codes "read")) (Some level.Read) (write_level word))))))

-- ---- the text of a set: `=` and the letters, in the order `m`, `w` (or `a`, or `z`), `r`, `s`, `c`, `x`, `d`; or `=0`

abbrev pub letter_if : Bool → ℕ → List ℕ
letter_if true letter = letter ∷ []
letter_if false letter = []

abbrev pub is_none : Privileges → Bool
is_none set = not ((((((((set.manage || set.add) || set.delete) || set.read) || set.search) || set.compare) || set.auth) || set.disclose))

abbrev pub privileges_text : Privileges → List ℕ
privileges_text set =
    (((((((((61 ∷ [] ++ letter_if set.manage 109) ++ letter_if (set.add && set.delete) 119) ++ letter_if (set.add && not set.delete) 97) ++ letter_if (set.delete && not set.add) 122)
    ++ letter_if set.read 114) ++ letter_if set.search 115) ++ letter_if set.compare 99) ++ letter_if set.auth 120) ++ letter_if set.disclose 100) ++ letter_if (is_none set) 48
