use Rattle.std.proofs.Common.{◌≡◌, ◌+◌, drop, sym, subst, arith}
use Rattle.std.proofs.lemmas.Grind.{common_steps}
use Rattle.dir_ldif.specs.RecordGrammar.{mod_value, try_map}
use Rattle.dir_ldif.specs.SoundRecords.{AreBytes}
use Rattle.dir_ldif.proofs.GrammarLemmas.{try_map-turn, after_prefix}
use Rattle.dir_ldif.proofs.ReadIsSound.{values_more}
use Rattle.dir_ldif.proofs.reader.parser.mod_values.Goals as goal

pub loop-line-preserved : goal.loop-line-preserved
loop-line-preserved c =
    let value = mod_value c.args.schema.now c.args.of.now in
    let lines = c.args.lines.now in
    let i = c.loop-line.line-index in
    let turn = try_map-turn value c.loop-line.values.items lines i c.line-item.result c.in_ok-mod_value.field-0 (try_map value lines) c.loop-line.invariant.0 c.loop-line-test.true c.line-item.is c.in_ok-mod_value.ensures.read in
    let more = values_more c.loop-line.values.items c.in_ok-mod_value.field-0 c.loop-line.invariant.1 c.in_ok-mod_value.ensures.sound in
    subst (λ t. (try_map value lines ≡ after_prefix t (try_map value (drop (i + 1) lines))) × AreBytes t) (sym c.in_ok-push.ensures.items) (turn, more)

pub returns-in_err-mod_value-clause-read : goal.returns-in_err-mod_value-clause-read
returns-in_err-mod_value-clause-read c = grind (arith, common_steps)

pub returns-clause-read : goal.returns-clause-read
returns-clause-read c = grind (arith, common_steps)
