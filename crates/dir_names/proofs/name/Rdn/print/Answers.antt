use Rattle.dir_names.proofs.ReadNames.{rdn_ascii, only_rdn_back, rdn_read_back}
use Rattle.dir_names.specs.Names.Printing.{printed_rdn}
use Rattle.dir_names.proofs.ReadsSpells.{reads_only_rdn}
use Rattle.dir_names.proofs.name.Rdn.print.Goals as goal

pub returns-in_err-print_rdn-clause-ascii : goal.returns-in_err-print_rdn-clause-ascii
returns-in_err-print_rdn-clause-ascii c = rdn_ascii c.args.self.now (c.print_rdn.ensures.sound)

pub returns-in_err-print_rdn-clause-back : goal.returns-in_err-print_rdn-clause-back
returns-in_err-print_rdn-clause-back c = only_rdn_back c.args.self.now (c.print_rdn.ensures.sound)

pub returns-clause-ascii : goal.returns-clause-ascii
returns-clause-ascii c = rdn_ascii c.args.self.now (c.print_rdn.ensures.sound)

pub returns-clause-back : goal.returns-clause-back
returns-clause-back c = only_rdn_back c.args.self.now (c.print_rdn.ensures.sound)

pub returns-in_err-print_rdn-clause-spells : goal.returns-in_err-print_rdn-clause-spells
returns-in_err-print_rdn-clause-spells c = reads_only_rdn (printed_rdn c.args.self.now) c.args.self.now (only_rdn_back c.args.self.now (c.print_rdn.ensures.sound))

pub returns-clause-spells : goal.returns-clause-spells
returns-clause-spells c = reads_only_rdn (printed_rdn c.args.self.now) c.args.self.now (only_rdn_back c.args.self.now (c.print_rdn.ensures.sound))

pub returns-in_err-print_rdn-clause-read_back : goal.returns-in_err-print_rdn-clause-read_back
returns-in_err-print_rdn-clause-read_back c = rdn_read_back c.args.self.now (c.print_rdn.ensures.sound) (c.print_rdn.ensures.within_limit)

pub returns-clause-read_back : goal.returns-clause-read_back
returns-clause-read_back c = rdn_read_back c.args.self.now (c.print_rdn.ensures.sound) (c.print_rdn.ensures.within_limit)
