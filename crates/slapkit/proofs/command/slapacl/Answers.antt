use Rattle.std.proofs.Common.{◌∙◌, ap, codes}
use Rattle.std.proofs.lemmas.Result.{IfOk-weaker}
use Rattle.clap.specs.Simple.{App, app_of_fields, new_app, new_rule}
use Rattle.clap.specs.Lexer.{usize_max}
use Rattle.slapkit.specs.CommandLine.{bound, flag, value}
use Rattle.slapkit.proofs.CommandLineLemmas.{HasRule, IsSo, given_action, given_help, given_long, given_name, given_range, given_required, given_short, globals, only_with, unless, with_arg}
use Rattle.slapkit.proofs.command.slapacl.Goals as goal

pub returns : goal.returns
returns c =
    let begun : IsSo c.after_help.result (new_app (codes "slapacl")) = record {
      is = ap app_of_fields c.after_help.ensures ∙ (ap app_of_fields c.long_about.ensures ∙ (ap app_of_fields c.about.ensures ∙ c.new.ensures.app));
      local = ap globals c.after_help.ensures ∙ (ap globals c.long_about.ensures ∙ (ap globals c.about.ensures ∙ c.new.ensures.local));
    } in
    let base1 : HasRule c.path.result (value (codes "base")) = record { is = c.path.ensures.rule; local = c.path.ensures.local } in
    let base2 = given_short c.path.result c.short.result _ _ base1 c.short.ensures in
    let base3 = unless c.short.result c.in_ok-required_unless_present.field-0 _ _ base2 c.in_ok-required_unless_present.ensures in
    let base = with_arg _ _ c.in_ok-required_unless_present.field-0 _ _ c.in_ok-arg.ensures begun base3 in
    let config1 : HasRule c.path-2.result (value (codes "config")) = record { is = c.path-2.ensures.rule; local = c.path-2.ensures.local } in
    let config2 = given_short c.path-2.result c.short-2.result _ _ config1 c.short-2.ensures in
    let config3 = given_required c.short-2.result c.required.result _ config2 c.required.ensures in
    let config = with_arg _ _ c.required.result _ _ c.in_ok-arg-2.ensures base config3 in
    let copy1 : HasRule c.path-3.result (value (codes "data")) = record { is = c.path-3.ensures.rule; local = c.path-3.ensures.local } in
    let copy2 = given_long c.path-3.result c.long.result _ _ copy1 c.long.ensures in
    let copy3 = given_required c.long.result c.required-2.result _ copy2 c.required-2.ensures in
    let copy = with_arg _ _ c.required-2.result _ _ c.in_ok-arg-3.ensures config copy3 in
    let authc1 : HasRule c.path-4.result (value (codes "authc")) = record { is = c.path-4.ensures.rule; local = c.path-4.ensures.local } in
    let authc2 = given_short c.path-4.result c.short-3.result _ _ authc1 c.short-3.ensures in
    let authc = with_arg _ _ c.short-3.result _ _ c.in_ok-arg-4.ensures copy authc2 in
    let fake1 : HasRule c.flag.result (flag (codes "u") (codes "fake")) = record { is = c.flag.ensures.rule; local = c.flag.ensures.local } in
    let fake = with_arg _ _ c.flag.result _ _ c.in_ok-arg-5.ensures authc fake1 in
    let verbose1 : HasRule c.flag-2.result (flag (codes "v") (codes "verbose")) = record { is = c.flag-2.ensures.rule; local = c.flag-2.ensures.local } in
    let verbose = with_arg _ _ c.flag-2.result _ _ c.in_ok-arg-6.ensures fake verbose1 in
    let strict1 : HasRule c.new-2.result (new_rule (codes "strict")) = record { is = c.new-2.ensures.rule; local = c.new-2.ensures.optional.1 } in
    let strict2 = given_long c.new-2.result c.long-2.result _ _ strict1 c.long-2.ensures in
    let strict3 = given_help c.long-2.result c.help.result _ _ strict2 c.help.ensures in
    let strict4 = given_action c.help.result c.action.result _ _ strict3 c.action.ensures in
    let strict = with_arg _ _ c.action.result _ _ c.in_ok-arg-7.ensures verbose strict4 in
    let questions1 : HasRule c.path-5.result (value (codes "questions")) = record { is = c.path-5.ensures.rule; local = c.path-5.ensures.local } in
    let questions2 = given_long c.path-5.result c.long-3.result _ _ questions1 c.long-3.ensures in
    let questions3 : HasRule c.in_ok-instead_of_a_question.field-0 _ = record { is = c.in_ok-instead_of_a_question.ensures.rule ∙ ap bound questions2.is; local = c.in_ok-instead_of_a_question.ensures.local ∙ questions2.local } in
    let questions = with_arg _ _ c.in_ok-instead_of_a_question.field-0 _ _ c.in_ok-arg-8.ensures strict questions3 in
    let answers1 : HasRule c.path-6.result (value (codes "answers")) = record { is = c.path-6.ensures.rule; local = c.path-6.ensures.local } in
    let answers2 = given_long c.path-6.result c.long-4.result _ _ answers1 c.long-4.ensures in
    let answers3 = only_with c.long-4.result c.in_ok-requires_arg.field-0 _ _ answers2 c.in_ok-requires_arg.ensures in
    let answers4 : HasRule c.in_ok-instead_of_a_question-2.field-0 _ = record { is = c.in_ok-instead_of_a_question-2.ensures.rule ∙ ap bound answers3.is; local = c.in_ok-instead_of_a_question-2.ensures.local ∙ answers3.local } in
    let answers = with_arg _ _ c.in_ok-instead_of_a_question-2.field-0 _ _ c.in_ok-arg-9.ensures questions answers4 in
    let words1 : HasRule c.new-3.result (new_rule (codes "words")) = record { is = c.new-3.ensures.rule; local = c.new-3.ensures.optional.1 } in
    let words2 = given_name c.new-3.result c.value_name.result _ _ words1 c.value_name.ensures in
    let words3 = given_help c.value_name.result c.help-2.result _ _ words2 c.help-2.ensures in
    let words4 = given_range c.help-2.result c.num_args.result (record { start_inclusive = 0; end_inclusive = usize_max }) _ words3 c.num_args.ensures.0 c.num_args.ensures.1 in
    let words5 = given_action c.num_args.result c.action-2.result _ _ words4 c.action-2.ensures in
    IfOk-weaker c.arg-10.result _ _ (λ r adds.
    let all = with_arg _ r c.action-2.result _ _ adds answers words5 in
    (ap (λ (a : App). a.top) all.is, all.local)) c.arg-10.ensures
