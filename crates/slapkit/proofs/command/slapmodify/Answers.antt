use Rattle.std.proofs.Common.{◌∙◌, Some, ap, codes}
use Rattle.std.proofs.lemmas.Result.{IfOk-weaker}
use Rattle.clap.specs.Simple.{App, app_of_fields, new_app}
use Rattle.clap.specs.declared.builder.value_parser.ValueParser.TheVariants.{Unsigned}
use Rattle.slapkit.specs.CommandLine.{flag, value}
use Rattle.slapkit.proofs.CommandLineLemmas.{HasRule, IsSo, given_long, given_parser, given_required, given_short, globals, unless, with_arg}
use Rattle.slapkit.proofs.command.slapmodify.Goals as goal

pub returns : goal.returns
returns c =
    let begun : IsSo c.after_help.result (new_app (codes "slapmodify")) = record {
      is = ap app_of_fields c.after_help.ensures ∙ (ap app_of_fields c.long_about.ensures ∙ (ap app_of_fields c.about.ensures ∙ c.new.ensures.app));
      local = ap globals c.after_help.ensures ∙ (ap globals c.long_about.ensures ∙ (ap globals c.about.ensures ∙ c.new.ensures.local));
    } in
    let suffix1 : HasRule c.path.result (value (codes "suffix")) = record { is = c.path.ensures.rule; local = c.path.ensures.local } in
    let suffix2 = given_short c.path.result c.short.result _ _ suffix1 c.short.ensures in
    let suffix3 = given_required c.short.result c.required.result _ suffix2 c.required.ensures in
    let suffix = with_arg _ _ c.required.result _ _ c.in_ok-arg.ensures begun suffix3 in
    let copy1 : HasRule c.path-2.result (value (codes "data")) = record { is = c.path-2.ensures.rule; local = c.path-2.ensures.local } in
    let copy2 = given_long c.path-2.result c.long.result _ _ copy1 c.long.ensures in
    let copy3 = given_required c.long.result c.required-2.result _ copy2 c.required-2.ensures in
    let copy = with_arg _ _ c.required-2.result _ _ c.in_ok-arg-2.ensures suffix copy3 in
    let out1 : HasRule c.path-3.result (value (codes "out")) = record { is = c.path-3.ensures.rule; local = c.path-3.ensures.local } in
    let out2 = given_long c.path-3.result c.long-2.result _ _ out1 c.long-2.ensures in
    let out3 = unless c.long-2.result c.in_ok-required_unless_present.field-0 _ _ out2 c.in_ok-required_unless_present.ensures in
    let out = with_arg _ _ c.in_ok-required_unless_present.field-0 _ _ c.in_ok-arg-3.ensures copy out3 in
    let undo1 : HasRule c.path-4.result (value (codes "undo")) = record { is = c.path-4.ensures.rule; local = c.path-4.ensures.local } in
    let undo2 = given_long c.path-4.result c.long-3.result _ _ undo1 c.long-3.ensures in
    let undo3 = unless c.long-3.result c.in_ok-required_unless_present-2.field-0 _ _ undo2 c.in_ok-required_unless_present-2.ensures in
    let undo = with_arg _ _ c.in_ok-required_unless_present-2.field-0 _ _ c.in_ok-arg-4.ensures out undo3 in
    let changes1 : HasRule c.path-5.result (value (codes "changes")) = record { is = c.path-5.ensures.rule; local = c.path-5.ensures.local } in
    let changes2 = given_short c.path-5.result c.short-2.result _ _ changes1 c.short-2.ensures in
    let changes = with_arg _ _ c.short-2.result _ _ c.in_ok-arg-5.ensures undo changes2 in
    let config1 : HasRule c.path-6.result (value (codes "config")) = record { is = c.path-6.ensures.rule; local = c.path-6.ensures.local } in
    let config2 = given_short c.path-6.result c.short-3.result _ _ config1 c.short-3.ensures in
    let config = with_arg _ _ c.short-3.result _ _ c.in_ok-arg-6.ensures changes config2 in
    let go_on1 : HasRule c.flag.result (flag (codes "c") (codes "go_on")) = record { is = c.flag.ensures.rule; local = c.flag.ensures.local } in
    let go_on = with_arg _ _ c.flag.result _ _ c.in_ok-arg-7.ensures config go_on1 in
    let dry1 : HasRule c.flag-2.result (flag (codes "u") (codes "dry")) = record { is = c.flag-2.ensures.rule; local = c.flag-2.ensures.local } in
    let dry = with_arg _ _ c.flag-2.result _ _ c.in_ok-arg-8.ensures go_on dry1 in
    let verbose1 : HasRule c.flag-3.result (flag (codes "v") (codes "verbose")) = record { is = c.flag-3.ensures.rule; local = c.flag-3.ensures.local } in
    let verbose = with_arg _ _ c.flag-3.result _ _ c.in_ok-arg-9.ensures dry verbose1 in
    let last1 : HasRule c.path-7.result (value (codes "last")) = record { is = c.path-7.ensures.rule; local = c.path-7.ensures.local } in
    let last2 = given_long c.path-7.result c.long-4.result _ _ last1 c.long-4.ensures in
    let last3 = given_parser c.long-4.result c.value_parser-2.result (Unsigned 0 18446744073709551615) _ last2 c.value_parser-2.ensures.others (c.value_parser-2.ensures.given.1 ∙ ap (λ p. Some p) (c.value_parser-2.ensures.given.2 ∙ c.value_parser.ensures)) in
    IfOk-weaker c.arg-10.result _ _ (λ r adds.
    let all = with_arg _ r c.value_parser-2.result _ _ adds verbose last3 in
    (ap (λ (a : App). a.top) all.is, all.local)) c.arg-10.ensures
