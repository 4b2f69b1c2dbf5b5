use Rattle.dir_tools.proofs.AccessParts.{notes_turn}
use Rattle.dir_tools.proofs.acl.word_notes.with_notes_on_words.Goals as goal

pub loop-text-preserved : goal.loop-text-preserved
loop-text-preserved c =
    notes_turn c.args.schema.now c.loop-text.notes.items c.in_ok-notes.notes.items _ c.args.words.now c.loop-text.text-index c.text-item.result c.as_slice.result.now
    c.loop-text.invariant c.loop-text-test.true c.text-item.is c.as_slice.ensures c.in_ok-notes.ensures
