use Rattle.std.proofs.Common.{◌∙◌, ap, codes}
use Rattle.std.proofs.lemmas.Result.{IfOk-weaker}
use Rattle.clap.specs.Simple.{App, app_of_fields, new_app}
use Rattle.slapkit.specs.CommandLine.{value}
use Rattle.slapkit.proofs.CommandLineLemmas.{HasRule, IsSo, given_long, given_required, given_short, globals, never_with, unless, with_arg}
use Rattle.slapkit.proofs.command.slapconf.Goals as goal

pub returns : goal.returns
returns c =
    let begun : IsSo c.after_help.result (new_app (codes "slapconf")) = record {
      is = ap app_of_fields c.after_help.ensures ∙ (ap app_of_fields c.long_about.ensures ∙ (ap app_of_fields c.about.ensures ∙ c.new.ensures.app));
      local = ap globals c.after_help.ensures ∙ (ap globals c.long_about.ensures ∙ (ap globals c.about.ensures ∙ c.new.ensures.local));
    } in
    let suffix1 : HasRule c.path.result (value (codes "suffix")) = record { is = c.path.ensures.rule; local = c.path.ensures.local } in
    let suffix2 = given_short c.path.result c.short.result _ _ suffix1 c.short.ensures in
    let suffix3 = given_required c.short.result c.required.result _ suffix2 c.required.ensures in
    let suffix = with_arg _ _ c.required.result _ _ c.in_ok-arg.ensures begun suffix3 in
    let conf1 : HasRule c.path-2.result (value (codes "slapd_conf")) = record { is = c.path-2.ensures.rule; local = c.path-2.ensures.local } in
    let conf2 = given_short c.path-2.result c.short-2.result _ _ conf1 c.short-2.ensures in
    let conf3 = unless c.short-2.result c.in_ok-required_unless_present.field-0 _ _ conf2 c.in_ok-required_unless_present.ensures in
    let conf4 = never_with c.in_ok-required_unless_present.field-0 c.in_ok-conflicts_with.field-0 _ _ conf3 c.in_ok-conflicts_with.ensures in
    let conf = with_arg _ _ c.in_ok-conflicts_with.field-0 _ _ c.in_ok-arg-2.ensures suffix conf4 in
    let config1 : HasRule c.path-3.result (value (codes "config")) = record { is = c.path-3.ensures.rule; local = c.path-3.ensures.local } in
    let config2 = given_long c.path-3.result c.long.result _ _ config1 c.long.ensures in
    let config = with_arg _ _ c.long.result _ _ c.in_ok-arg-3.ensures conf config2 in
    let out1 : HasRule c.path-4.result (value (codes "out")) = record { is = c.path-4.ensures.rule; local = c.path-4.ensures.local } in
    let out2 = given_long c.path-4.result c.long-2.result _ _ out1 c.long-2.ensures in
    let out3 = given_required c.long-2.result c.required-2.result _ out2 c.required-2.ensures in
    IfOk-weaker c.arg-4.result _ _ (λ r adds.
    let all = with_arg _ r c.required-2.result _ _ adds config out3 in
    (ap (λ (a : App). a.top) all.is, all.local)) c.arg-4.ensures
