use Rattle.std.proofs.Common.{arith, sym}
use Rattle.std.proofs.lemmas.List.{take_rest}
use Rattle.dir_ldif.proofs.BytesLemmas.{cut_at-first, cut_at-none, false_from_not}
use Rattle.dir_ldif.proofs.reader.bytes.cut_at.Goals as goal

pub returns-in-Some : goal.returns-in-Some
returns-in-Some c =
    let first = c.in-Some.ensures in
    rw (take_rest c.args.text.now _) (sym (cut_at-first c.args.byte c.args.text.now c.in-Some.at first.0.high first.1 (λ j h. false_from_not _ (first.0.before j (omega arith) h))))

pub returns-in-None : goal.returns-in-None
returns-in-None c = sym (cut_at-none c.args.byte c.args.text.now (λ j h. false_from_not _ (c.in-None.ensures j (omega arith) h)))
