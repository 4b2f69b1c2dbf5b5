use Rattle.dir_conf.proofs.Below.{decided}
use Rattle.dir_conf.proofs.cn_config.databases.is_at_or_below.Goals as goal

pub returns : goal.returns
returns c = decided c.args.key.now c.args.above.now c.at_or_below.result c.at_or_below.ensures.0 c.at_or_below.ensures.1
