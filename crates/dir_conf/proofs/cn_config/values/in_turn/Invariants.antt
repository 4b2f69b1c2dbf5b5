use Rattle.std.proofs.Common.{◌≡◌, drop, map}
use Rattle.dir_conf.specs.CnConfig.Values.{in_turn, numbered}
use Rattle.dir_conf.proofs.Turns.{after}
use Rattle.dir_conf.proofs.cn_config.values.in_turn.Given as goal

abbrev pub invariant-loop-place : goal.invariant-loop-place
invariant-loop-place l = in_turn 0 (map numbered l.values) ≡ after (map numbered l.found.items) (in_turn l.place (map numbered (drop l.place l.values)))
