use Rattle.std.proofs.Common.{◌≡◌, ◌++◌, drop, map}
use Rattle.dir_conf.specs.CnConfig.Values.{numbered}
use Rattle.dir_conf.specs.Suffixes.{texts_of}
use Rattle.dir_conf.proofs.suffixes.texts_of.Given as goal

abbrev pub invariant-loop-value : goal.invariant-loop-value
invariant-loop-value l = texts_of (map numbered l.values) ≡ l.found.items ++ texts_of (map numbered (drop l.value-index l.values))
