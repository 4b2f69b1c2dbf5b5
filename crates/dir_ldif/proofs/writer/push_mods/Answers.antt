use Rattle.std.proofs.Common.{◌≡◌, ◌+◌, [], ◌∷◌, ◌++◌, take, sym, ap, subst, ◌∙◌, arith}
use Rattle.std.proofs.lemmas.Grind.{common_steps}
use Rattle.std.proofs.lemmas.List.{take_more}
use Rattle.std.proofs.Transfers.{starts_with_of_append, starts_with_trans}
use Rattle.dir_ldif.specs.SoundRecords.{ModsAreBytes}
use Rattle.dir_ldif.proofs.ReadIsSound.{mods_more}
use Rattle.dir_ldif.proofs.writer.push_mods.Goals as goal

pub returns-in_err-push_mod-clause-kept : goal.returns-in_err-push_mod-clause-kept
returns-in_err-push_mod-clause-kept c =
    starts_with_trans c.push_mod.new.out.items c.loop-m.out.items c.args.out.now.items c.push_mod.ensures.kept (starts_with_of_append _ _ _ c.loop-m.invariant.text)

pub loop-m-preserved : goal.loop-m-preserved
loop-m-preserved c =
    let done = take c.loop-m.m-index c.args.mods.now in
    let taken : take (c.loop-m.m-index + 1) c.args.mods.now ≡ done ++ c.m-item.result ∷ [] =
    take_more c.args.mods.now c.loop-m.m-index c.m-item.result (omega arith) ∙ ap (λ x. done ++ x ∷ []) (sym c.m-item.is) in
    record { text = grind (arith, common_steps); bytes = subst ModsAreBytes (sym taken) (mods_more done c.m-item.result c.loop-m.invariant.bytes c.in_ok-push_mod.ensures.bytes) }

pub returns-clause-text : goal.returns-clause-text
returns-clause-text c = grind (arith, common_steps)

pub returns-clause-bytes : goal.returns-clause-bytes
returns-clause-bytes c = grind (arith, common_steps)

pub returns-clause-kept : goal.returns-clause-kept
returns-clause-kept c = grind (arith, common_steps)
