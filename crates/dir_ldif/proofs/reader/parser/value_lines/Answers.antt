use Rattle.std.proofs.Common.{◌≡◌, ◌+◌, drop, sym, subst, arith}
use Rattle.std.proofs.lemmas.Grind.{common_steps}
use Rattle.dir_ldif.specs.RecordGrammar.{try_map, value_line, value_lines}
use Rattle.dir_ldif.specs.SoundRecords.{ValuesAreBytes}
use Rattle.dir_ldif.proofs.GrammarLemmas.{try_map-turn, after_prefix}
use Rattle.dir_ldif.proofs.ReadIsSound.{lines_more}
use Rattle.dir_ldif.proofs.reader.parser.value_lines.Goals as goal

pub loop-line-preserved : goal.loop-line-preserved
loop-line-preserved c =
    let rows = c.args.schema.now in
    let lines = c.args.lines.now in
    let i = c.loop-line.line-index in
    let turn = try_map-turn (value_line rows) c.loop-line.items.items lines i c.line-item.result c.in_ok-value_line.field-0 (value_lines rows lines) c.loop-line.invariant.0 c.loop-line-test.true c.line-item.is c.in_ok-value_line.ensures.read in
    let more = lines_more c.loop-line.items.items c.in_ok-value_line.field-0 c.loop-line.invariant.1 c.in_ok-value_line.ensures.sound in
    subst (λ t. (value_lines rows lines ≡ after_prefix t (try_map (value_line rows) (drop (i + 1) lines))) × ValuesAreBytes t) (sym c.in_ok-push.ensures.items) (turn, more)

pub returns-in_err-value_line-clause-read : goal.returns-in_err-value_line-clause-read
returns-in_err-value_line-clause-read c = grind (arith, common_steps)

pub returns-clause-read : goal.returns-clause-read
returns-clause-read c = grind (arith, common_steps)
