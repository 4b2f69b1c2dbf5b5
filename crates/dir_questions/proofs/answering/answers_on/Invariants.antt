use Rattle.std.proofs.Common.{◌≡◌, ◌++◌, Ok, drop, map}
use Rattle.std.specs.Option.{option_copied}
use Rattle.dir_acl.specs.Inside.Fakes.{attributes_of}
use Rattle.dir_acl.specs.Inside.ReadingConfig.{configuration_of}
use Rattle.dir_acl.specs.RulesFor.{IsRulesFor}
use Rattle.dir_questions.specs.Answers.{answered_on}
use Rattle.dir_questions.specs.Inside.Answering.{answer_in}
use Rattle.dir_questions.specs.Reading.{block_in, word_in}
use Rattle.dir_questions.proofs.answering.answers_on.Given as goal

abbrev pub invariant-loop-asked : goal.invariant-loop-asked
invariant-loop-asked g l =
    let on = answered_on (configuration_of l.config) (g.D.Directory.state l.directory) (block_in l.block) (Ok (option_copied l.target)) in
    record {
      answers : map answer_in l.answers.items ++ map on (map word_in (drop l.asked-index l.block.words.items)) ≡ map on (map word_in l.block.words.items);
      config : l.rules.config.now ≡ l.config;
      target : IsRulesFor l.block.base.key (attributes_of (option_copied l.target)) l.rules;
    }
