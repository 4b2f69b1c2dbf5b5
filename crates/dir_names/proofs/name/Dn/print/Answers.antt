use Rattle.std.proofs.Common.{ap, sym, ◌∙◌}
use Rattle.dir_names.specs.Names.Limits.{is_within_limits}
use Rattle.dir_names.specs.Names.Sound.{is_sound_name}
use Rattle.dir_names.proofs.ReadNames.{name_ascii, name_back, name_read_back}
use Rattle.dir_names.specs.Names.Printing.{printed_name}
use Rattle.dir_names.proofs.ReadsSpells.{reads_spells}
use Rattle.dir_names.proofs.name.Dn.print.Goals as goal

pub returns-in_err-print_name-clause-ascii : goal.returns-in_err-print_name-clause-ascii
returns-in_err-print_name-clause-ascii c = name_ascii c.args.self.now (ap is_sound_name (sym c.self.view_is) ∙ c.self.invariant.0)

pub returns-in_err-print_name-clause-back : goal.returns-in_err-print_name-clause-back
returns-in_err-print_name-clause-back c = name_back c.args.self.now (ap is_sound_name (sym c.self.view_is) ∙ c.self.invariant.0)

pub returns-clause-ascii : goal.returns-clause-ascii
returns-clause-ascii c = name_ascii c.args.self.now (ap is_sound_name (sym c.self.view_is) ∙ c.self.invariant.0)

pub returns-clause-back : goal.returns-clause-back
returns-clause-back c = name_back c.args.self.now (ap is_sound_name (sym c.self.view_is) ∙ c.self.invariant.0)

pub returns-in_err-print_name-clause-spells : goal.returns-in_err-print_name-clause-spells
returns-in_err-print_name-clause-spells c = reads_spells (printed_name c.args.self.now) c.args.self.now (name_back c.args.self.now (ap is_sound_name (sym c.self.view_is) ∙ c.self.invariant.0))

pub returns-clause-spells : goal.returns-clause-spells
returns-clause-spells c = reads_spells (printed_name c.args.self.now) c.args.self.now (name_back c.args.self.now (ap is_sound_name (sym c.self.view_is) ∙ c.self.invariant.0))

pub returns-in_err-print_name-clause-read_back : goal.returns-in_err-print_name-clause-read_back
returns-in_err-print_name-clause-read_back c = name_read_back c.args.self.now (ap is_sound_name (sym c.self.view_is) ∙ c.self.invariant.0) (ap is_within_limits (sym c.self.view_is) ∙ c.self.invariant.1)

pub returns-clause-read_back : goal.returns-clause-read_back
returns-clause-read_back c = name_read_back c.args.self.now (ap is_sound_name (sym c.self.view_is) ∙ c.self.invariant.0) (ap is_within_limits (sym c.self.view_is) ∙ c.self.invariant.1)
