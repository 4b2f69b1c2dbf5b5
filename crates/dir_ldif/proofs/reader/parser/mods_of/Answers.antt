use Rattle.std.proofs.Common.{◌≡◌, sym, ap, subst, ◌∙◌}
use Rattle.dir_ldif.specs.RecordGrammar.{is_dash, mod_of, mods_of, try_map}
use Rattle.dir_ldif.specs.LogicalLines.{cut}
use Rattle.dir_ldif.specs.SoundRecords.{ModsAreBytes}
use Rattle.dir_ldif.proofs.GrammarLemmas.{try_map-next, after_prefix}
use Rattle.dir_ldif.proofs.ReadIsSound.{mods_more}
use Rattle.dir_ldif.proofs.reader.parser.mods_of.Goals as goal

pub loop-rest-preserved : goal.loop-rest-preserved
loop-rest-preserved c =
    let rows = c.args.schema.now in
    let lines = c.args.lines.now in
    let front = c.loop-rest.mods.items in
    let group = c.cut_dash.result.0.now in
    let after = cut is_dash c.cut_dash.result.1.now in
    let next = c.loop-rest.invariant.0 ∙ ap (λ t. after_prefix front (try_map (mod_of rows) t)) c.cut_dash.ensures.cut ∙ try_map-next (mod_of rows) front group after c.in_ok-mod_of.field-0 c.in_ok-mod_of.ensures.read in
    let more = mods_more front c.in_ok-mod_of.field-0 c.loop-rest.invariant.1 c.in_ok-mod_of.ensures.sound in
    subst (λ t. (mods_of rows lines ≡ after_prefix t (try_map (mod_of rows) after)) × ModsAreBytes t) (sym c.in_ok-push.ensures.items) (next, more)
