use Rattle.std.proofs.Common.{◌∙◌, ◌≡◌, [], ap, codes, true}
use Rattle.std.proofs.lemmas.Result.{IfOk-weaker}
use Rattle.clap.specs.Simple.{App, Shape, app_of_fields, new_app, new_shape, on_top}
use Rattle.slapkit.specs.CommandLine.{slapacl, slapconf, slapmodify}
use Rattle.slapkit.proofs.CommandLineLemmas.{IsSo, globals, with_tool}
use Rattle.slapkit.proofs.command.program.Goals as goal

abbrev alone : App
alone = record { top = record (new_shape (codes "slapkit")) { has_version = true; arg_required_else_help = true; subcommand_required = true }; subs = [] }

pub returns : goal.returns
returns c =
    let versioned = ap app_of_fields c.version.ensures ∙ ap (on_top (λ (s : Shape). record s { has_version = true })) c.new.ensures.app in
    let told = ap app_of_fields c.after_help.ensures ∙ (ap app_of_fields c.about.ensures ∙ versioned) in
    let wants = ap app_of_fields c.subcommand_required.ensures ∙ ap (on_top (λ (s : Shape). record s { subcommand_required = true })) told in
    let begun : IsSo c.arg_required_else_help.result alone = record {
      is = ap app_of_fields c.arg_required_else_help.ensures ∙ ap (on_top (λ (s : Shape). record s { arg_required_else_help = true })) wants;
      local = ap globals c.arg_required_else_help.ensures ∙ (ap globals c.subcommand_required.ensures ∙ (ap globals c.after_help.ensures
          ∙ (ap globals c.about.ensures ∙ (ap globals c.version.ensures ∙ c.new.ensures.local))));
    } in
    let one = with_tool _ _ _ _ slapmodify c.in_ok-subcommand.ensures begun c.in_ok-slapmodify.ensures.0 c.in_ok-slapmodify.ensures.1 in
    let two = with_tool _ _ _ _ slapacl c.in_ok-subcommand-2.ensures one c.in_ok-slapacl.ensures.0 c.in_ok-slapacl.ensures.1 in
    IfOk-weaker c.subcommand-3.result _ _ (λ r adds.
    let three = with_tool _ _ _ _ slapconf adds two c.in_ok-slapconf.ensures.0 c.in_ok-slapconf.ensures.1 in three.is) c.subcommand-3.ensures
