use Rattle.std.proofs.lemmas.Result.{err_from_is_err_and}
use Rattle.std.proofs.Common.{◌≡◌, ◌⊎◌, ⊎_elim, true, ℕ, ◌<◌, List, ◌++◌, length, sym, ap, subst, ◌∙◌, length-append, arith, rules}
use Rattle.dir_ldif.specs.declared.reader.Place.TheVariants.{AtEnd, Reading}
use Rattle.dir_ldif.specs.Reader.Unfolding.{to_come}
use Rattle.dir_ldif.specs.Reader.Answers.{to_read, hand}
use Rattle.dir_ldif.specs.Inside.Reader.{FailsToRead, Finds}
use Rattle.dir_ldif.proofs.HandLemmas.{more_read, over_found}
use Rattle.dir_ldif.proofs.WhyStopped.{Consumes-none, hand_stops, read_stops}
use Rattle.dir_ldif.proofs.LongLineSoon.{length_hand, takes_piece, hand_soon, end_soon, any_err, block_used}
use Rattle.dir_ldif.proofs.reader.Core.next_block.Goals as goal

pub returns-in_err-block-clause-err : goal.returns-in_err-block-clause-err
returns-in_err-block-clause-err g c =
    let e = err_from_is_err_and c.from_residual.result c.from_residual.ensures.1 in
    let so_far = c.loop-block.invariant.3 in
    rw (e.1, e.2) (
    (so_far.0, so_far.1, hand_stops c.in_err-block.field-0.0 c.args.self.now c.loop-block.self _ so_far.0 _ _ _ so_far.2 c.in_err-block.ensures.err)
    )

pub returns-in_err-read_more-clause-err : goal.returns-in_err-read_more-clause-err
returns-in_err-read_more-clause-err g c =
    let e = err_from_is_err_and c.from_residual-in_err-read_more.result c.from_residual-in_err-read_more.ensures.1 in
    let so_far = c.loop-block.invariant.3 in
    let old = c.args.self.now in
    let new = c.read_more.new.self in
    let taken : (text : List ℕ) → to_read c.loop-block.self text ≡ to_come c.use_buffer.new.self.unfolder text = rw c.in_default.is at c.in_ok-block.ensures.ok in
    let same : (text : List ℕ) → to_read old (so_far.0 ++ text) ≡ to_come new.unfolder text = λ text. so_far.2 text ∙ taken text ∙ ap (λ j. to_come j text) (sym c.read_more.ensures.unfolder) in
    rw (e.1, e.2) (
    let failed = c.in_err-read_more.ensures.err in (
      so_far.0,
      Consumes-none _ _ _ so_far.0 (hand new) so_far.1 c.read_more.ensures.bytes failed.0,
      read_stops c.in_err-read_more.field-0.0 old new so_far.0 _ c.use_buffer.new.self.turns _ _ same failed.0 (omega (arith, so_far.3, c.use_buffer.ensures.turns)) (subst (λ f. FailsToRead c.in_err-read_more.field-0.0 c.use_buffer.new.self.turns f (g.S.Source.failures c.read_more.new.source)) c.loop-block.invariant.2 failed.1),
    )
    )

pub loop-block-preserved : goal.loop-block-preserved
loop-block-preserved g c =
    let so_far = c.loop-block.invariant.3 in
    let old = c.args.self.now in
    let new = c.read_more.new.self in
    let taken : (text : List ℕ) → to_read c.loop-block.self text ≡ to_come c.use_buffer.new.self.unfolder text = rw c.in_default.is at c.in_ok-block.ensures.ok in
    let same : (text : List ℕ) → to_read c.loop-block.self (hand new ++ text) ≡ to_read new text = λ text. taken (hand new ++ text) ∙ ap (λ j. to_come j (hand new ++ text)) (sym c.read_more.ensures.unfolder) in
    let more = more_read (to_read old) (to_read c.loop-block.self) (to_read new) _ _ _ so_far.0 (hand new) so_far.1 so_far.2 c.read_more.ensures.bytes same in
    let some : 0 < length (hand new) = c.in_ok-read_more.ensures.some (cc) in
    let place : (c.use_buffer.new.self.place ≡ Reading) ⊎ ((c.use_buffer.new.self.place ≡ AtEnd) × (c.use_buffer.new.self.unfolder.marks.is_over ≡ true)) = rw c.in_default.is at c.in_ok-block.ensures.place in
    let reading : c.use_buffer.new.self.place ≡ Reading = ⊎_elim (λ r. r) (λ (e : (c.use_buffer.new.self.place ≡ AtEnd) × (c.use_buffer.new.self.unfolder.marks.is_over ≡ true)). let end = e.0 in absurd (search rules)) place in (
      c.read_more.ensures.place ∙ reading,
      g.met.S.Source.same_trans _ _ _ c.loop-block.invariant.1 c.read_more.ensures.same,
      c.in_ok-read_more.ensures.counts ∙ c.loop-block.invariant.2,
      (
        so_far.0 ++ hand new,
        more.0,
        more.1,
        omega (arith, so_far.3, c.use_buffer.ensures.turns, c.in_ok-read_more.ensures.turns, some, length-append so_far.0 (hand new)),
        omega (arith, so_far.4, c.use_buffer.ensures.turns, c.in_ok-read_more.ensures.turns, length_hand new, length-append so_far.0 (hand new)),
        takes_piece old c.loop-block.self new c.use_buffer.new.self.unfolder so_far.0 so_far.2 taken c.read_more.ensures.unfolder,
      ),
      omega (arith, c.loop-block.invariant.4, c.use_buffer.ensures.turns, c.in_ok-read_more.ensures.turns, length_hand new),
    )

pub returns-in_err-block-clause-soon : goal.returns-in_err-block-clause-soon
returns-in_err-block-clause-soon g c =
    let e = err_from_is_err_and c.from_residual.result c.from_residual.ensures.1 in
    let so_far = c.loop-block.invariant.3 in
    rw (e.1, e.2) (
    hand_soon c.in_err-block.field-0.0 c.args.self.now c.loop-block.self _ _ so_far.0 so_far.1 so_far.5
    )

pub returns-then-not-branch-clause-soon : goal.returns-then-not-branch-clause-soon
returns-then-not-branch-clause-soon g c =
    let so_far = c.loop-block.invariant.3 in
    let mid = c.use_buffer.new.self.unfolder in
    let taken : (text : List ℕ) → to_read c.loop-block.self text ≡ to_come mid text = rw c.in_default.is at c.in_ok-block.ensures.ok in
    let empty = c.in_ok-read_more.ensures.none (cc) in
    let took = Consumes-none _ _ _ so_far.0 (hand c.read_more.new.self) so_far.1 c.read_more.ensures.bytes empty.0 in
    any_err c.finish.result _ (λ fault. end_soon fault c.args.self.now c.loop-block.self mid _ _ so_far.0 took so_far.2 taken)

pub returns-in-Some-clause-used : goal.returns-in-Some-clause-used
returns-in-Some-clause-used g c =
    let so_far = c.loop-block.invariant.3 in
    λ _. block_used c.args.self.now c.loop-block.self c.use_buffer.new.self c.in-Some.block.items _ _ so_far.0 so_far.1 so_far.5 (rw c.in-Some.is at c.in_ok-block.ensures.used)

pub returns-then-eq-clause-ok : goal.returns-then-eq-clause-ok
returns-then-eq-clause-ok g c =
    let so_far = c.loop-block.invariant.3 in
    let old = c.args.self.now in
    let mid = c.use_buffer.new.self in
    let taken : (text : List ℕ) → to_read c.loop-block.self text ≡ to_come mid.unfolder text = rw c.in_default.is at c.in_ok-block.ensures.ok in
    let place : (mid.place ≡ Reading) ⊎ ((mid.place ≡ AtEnd) × (mid.unfolder.marks.is_over ≡ true)) = rw c.in_default.is at c.in_ok-block.ensures.place in
    let end : (mid.place ≡ AtEnd) × (mid.unfolder.marks.is_over ≡ true) = ⊎_elim (λ (r : mid.place ≡ Reading). absurd (search rules)) (λ e. e) place in
    let at_end = end.0 in
    (so_far.0, so_far.1, subst (λ p. Finds p (to_read old) c.new.result.items (to_read mid) mid.unfolder.marks.passed so_far.0 (g.S.Source.left c.loop-block.source)) (sym at_end) (over_found (to_read old) mid.unfolder c.new.result.items so_far.0 (g.S.Source.left c.loop-block.source) (search rules) end.1 (λ text. so_far.2 text ∙ taken text)), λ (r : mid.place ≡ Reading). let never : AtEnd ≡ Reading = sym at_end ∙ r in absurd (cc))
