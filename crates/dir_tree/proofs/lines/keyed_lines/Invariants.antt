use Rattle.std.proofs.Common.{◌≡◌, All}
use Rattle.dir_names.specs.Results.{option_collect}
use Rattle.dir_names.proofs.AllLemmas.{prefixed}
use Rattle.dir_tree.specs.Inside.Arranged.{HasKey}
use Rattle.dir_tree.specs.NewEntry.{keyed_line, keyed_lines}
use Rattle.dir_tree.proofs.lines.keyed_lines.Given as goal

abbrev pub invariant-loop-description : goal.invariant-loop-description
invariant-loop-description l =
    (keyed_lines l.schema l.fn.lines ≡ prefixed l.keyed.items (option_collect (keyed_line l.schema) l.description-iterator.rest.items))
    × All (HasKey l.schema) l.keyed.items
