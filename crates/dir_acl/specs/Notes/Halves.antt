-- `w` is `a` and `z` (slapd.access(5), "THE <ACCESS> FIELD"). In slapd 2.5 an <access> that takes one of the two away leaves neither, until one is added again. Here
-- the other one stays.
use Rattle.std.specs.Prelude.{Bool, false, cond, not}
use Rattle.dir_acl.specs.declared.access.Edit.{Edit}
use Rattle.dir_acl.specs.declared.access.Edit.TheVariants as edit

-- takes one of `a` and `z` away, and not both
abbrev pub takes_half : Edit → Bool
takes_half (edit.Set set) = false
takes_half (edit.Add set) = false
takes_half (edit.Remove set) = cond set.add (not set.delete) set.delete
