use Rattle.std.proofs.Common.{◌≡◌, drop, map}
use Rattle.dir_conf.specs.CnConfig.{entry_of}
use Rattle.dir_conf.specs.CnConfig.Records.{gather}
use Rattle.dir_conf.proofs.Turns.{after}
use Rattle.dir_conf.proofs.cn_config.entries_in.Given as goal

abbrev pub invariant-loop-block : goal.invariant-loop-block
invariant-loop-block l = gather entry_of (map (λ block. block.items) l.blocks) ≡ after (map (λ entry. entry.items) l.found.items) (gather entry_of (map (λ block. block.items) (drop l.block-index l.blocks)))
