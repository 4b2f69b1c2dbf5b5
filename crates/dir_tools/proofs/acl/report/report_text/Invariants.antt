use Rattle.std.proofs.Common.{◌≡◌, ◌++◌, drop, map}
use Rattle.std.specs.List.{flat_map}
use Rattle.std.specs.Option.{option_copied}
use Rattle.dir_acl.specs.Inside.Fakes.{attributes_of}
use Rattle.dir_acl.specs.Inside.ReadingConfig.{configuration_of}
use Rattle.dir_acl.specs.RulesFor.{IsRulesFor}
use Rattle.dir_tools.specs.AccessReport.{line_on, report_on}
use Rattle.dir_tools.specs.Inside.Asking.{parts_in, word_in}
use Rattle.dir_tools.proofs.acl.report.report_text.Given as goal

abbrev pub invariant-loop-word : goal.invariant-loop-word
invariant-loop-word g l =
    let c = configuration_of l.config in
    let d = g.D.Directory.state l.directory in
    record {
      text : l.text.items ++ flat_map (line_on c d (parts_in l.parts) (option_copied l.target)) (map word_in (drop l.word-index l.parts.words.items)) ≡ report_on l.verbose c d (parts_in l.parts) (option_copied l.target);
      config : l.rules.config.now ≡ l.config;
      target : IsRulesFor l.parts.base (attributes_of (option_copied l.target)) l.rules;
    }
