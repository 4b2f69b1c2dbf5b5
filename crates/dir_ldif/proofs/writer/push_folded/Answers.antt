use Rattle.std.proofs.lemmas.Grind.{common_steps}
use Rattle.std.proofs.Common.{[], ◌∷◌, sym, rules, arith}
use Rattle.std.proofs.Transfers.{starts_with_of_append, starts_with_trans}
use Rattle.dir_ldif.proofs.FoldLemmas.{fold_from-turn, fold_from-end}
use Rattle.dir_ldif.proofs.writer.push_folded.Goals as goal

pub loop-room-preserved : goal.loop-room-preserved
loop-room-preserved c =
    let out = c.loop-room.out.items in
    let longer = c.extend_from_slice.new.self.items in
    let longest = c.extend_from_slice-in-loop-room.new.self.items in (
      omega arith,
      λ rest. fold_from-turn out longer _ c.split_at.result.0.now c.split_at.result.1.now rest _ c.loop-room.room (search rules) (search rules) c.split_at.ensures.front_len (omega arith) (rw (sym c.split_at.ensures.by_index.0) (c.loop-room.invariant.1 rest)),
      starts_with_trans longest longer _ (starts_with_of_append longest longer (10 ∷ 32 ∷ []) (search rules)) (starts_with_trans longer out _ (starts_with_of_append longer out c.split_at.result.0.now (search rules)) c.loop-room.invariant.2),
    )

pub returns-clause-text : goal.returns-clause-text
returns-clause-text c = λ rest. fold_from-end c.loop-room.out.items _ c.loop-room.rest.now rest _ c.loop-room.room (search rules) (omega arith) (c.loop-room.invariant.1 rest)

pub loop-room-init : goal.loop-room-init
loop-room-init c = grind (arith, common_steps)

pub returns-in_err-extend_from_slice-2-clause-kept :
    goal.returns-in_err-extend_from_slice-2-clause-kept
returns-in_err-extend_from_slice-2-clause-kept c = grind (arith, common_steps)

pub returns-clause-kept : goal.returns-clause-kept
returns-clause-kept c = grind (arith, common_steps)
