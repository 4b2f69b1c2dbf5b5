use Rattle.std.proofs.Common.{◌≡◌, ◌++◌, drop, map, true}
use Rattle.std.specs.List.{flat_map}
use Rattle.dir_acl.specs.Inside.ReadingConfig.{configuration_of}
use Rattle.dir_questions.specs.Answers.{all_answers, answer_line, outcome_of, written_questions}
use Rattle.dir_questions.specs.Reading.{block_in}
use Rattle.dir_questions.proofs.run.texts_of.Given as goal

abbrev pub invariant-loop-block : goal.invariant-loop-block
invariant-loop-block g l =
    let c = configuration_of l.config in
    let d = g.D.Directory.state l.directory in
    let rest = map block_in (drop l.block-index l.blocks) in
    let all = map block_in l.blocks in
    record {
      answers : l.options.answers ≡ true → l.answers.items ++ written_questions c d rest ≡ written_questions c d all;
      report : l.report.items ++ flat_map (answer_line l.options.verbose) (all_answers c d rest) ≡ flat_map (answer_line l.options.verbose) (all_answers c d all);
      outcomes : l.outcomes.items ++ map outcome_of (all_answers c d rest) ≡ map outcome_of (all_answers c d all);
    }
