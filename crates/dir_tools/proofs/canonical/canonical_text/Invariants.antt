use Rattle.std.proofs.Common.{◌≡◌, ◌++◌, map}
use Rattle.std.specs.List.{flat_map}
use Rattle.dir_tools.specs.Canonical.{canonical_of, entry_text}
use Rattle.dir_tools.proofs.canonical.canonical_text.Given as goal

abbrev pub invariant-loop-name : goal.invariant-loop-name
invariant-loop-name g l =
    l.text.items ++ flat_map entry_text (map (λ item. (item.0, item.1.now)) l.name-iterator.rest.items) ≡ canonical_of (g.D.Directory.state l.directory)
