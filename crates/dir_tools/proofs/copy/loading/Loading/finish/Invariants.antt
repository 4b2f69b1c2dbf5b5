use Rattle.std.proofs.Common.{◌≡◌}
use Rattle.std.specs.List.Sorted.{IsStrictlySortedBy}
use Rattle.std.specs.Map.{keys_of}
use Rattle.dir_names.specs.Orders.{dn_key_cmp}
use Rattle.dir_tools.specs.CopyOf.{LoadedCopy}
use Rattle.dir_tools.specs.Inside.Loading.{IsLoaded}
use Rattle.dir_tools.proofs.Orphans.{IsSplit, waits}
use Rattle.dir_tools.proofs.copy.loading.Loading.finish.Given as goal

abbrev pub invariant-loop-key : goal.invariant-loop-key
invariant-loop-key g l =
    ((g.D.Directory.state l.directory).suffix ≡ (g.D.Directory.state l.fn.self.directory).suffix)
    × IsStrictlySortedBy dn_key_cmp (keys_of l.key-iterator)
    × ((m : LoadedCopy) → IsLoaded g.D.Directory.state m l.fn.self → IsSplit m (waits l.key-iterator) l.orphans.keys l.orphans.first (g.D.Directory.state l.directory))
