use Rattle.std.proofs.Common.{sym, ◌∙◌}
use Rattle.std.specs.Option.{option_copied}
use Rattle.dir_tools.specs.Inside.Asking.{access_in}
use Rattle.dir_tools.proofs.AccessParts.{no_access, no_attr, whole_word}
use Rattle.dir_tools.proofs.acl.parts.read_word.Goals as goal

pub returns-in-None : goal.returns-in-None
returns-in-None c =
    let cut = c.split_once-2 in
    no_attr c.args.schema.now c.args.text.now c.split_once.result.0.now cut.result.0.now (option_copied cut.result.1) c.split_once.ensures.before cut.ensures.before cut.ensures.after
    (sym c.in_ok-asked.ensures ∙ c.in-None.is)

pub returns-in-Some-read_access : goal.returns-in-Some-read_access
returns-in-Some-read_access c =
    let cut = c.split_once-2 in
    whole_word c.args.schema.now c.args.text.now c.split_once.result.0.now cut.result.0.now (option_copied cut.result.1) c.split_once.ensures.before cut.ensures.before cut.ensures.after
    c.in-Some.asked (access_in c.in-Some-read_access.access) (sym c.in_ok-asked.ensures ∙ c.in-Some.is) (sym c.in-Some-read_access.ensures)

pub returns-in-None-read_access : goal.returns-in-None-read_access
returns-in-None-read_access c =
    let cut = c.split_once-2 in
    no_access c.args.schema.now c.args.text.now c.split_once.result.0.now cut.result.0.now (option_copied cut.result.1) c.split_once.ensures.before cut.ensures.before cut.ensures.after
    c.in-Some.asked (sym c.in_ok-asked.ensures ∙ c.in-Some.is) (sym c.in-None-read_access.ensures)
