use Rattle.std.proofs.Common.{◌≡◌, drop}
use Rattle.std.specs.Str.{str_to_ascii_lowercase}
use Rattle.dir_names.specs.Orders.{bytes_cmp}
use Rattle.dir_names.proofs.schema.index.cmp_lowercase.Given as goal

abbrev pub invariant-loop-at : goal.invariant-loop-at
invariant-loop-at l = bytes_cmp (drop l.at l.one) (drop l.at (str_to_ascii_lowercase l.text)) ≡ bytes_cmp l.one (str_to_ascii_lowercase l.text)
