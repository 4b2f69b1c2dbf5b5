use Rattle.std.proofs.Common.{◌≡◌, ℕ, ◌+◌, ◌-◌, List, ◌++◌, length, take, drop, sym, ap, ◌∙◌, arith}
use Rattle.std.proofs.lemmas.List.{take-append-drop, take_at, drop-drop, length-drop, length-take}
use Rattle.dir_ldif.proofs.device.script.Script.give.Goals as goal

-- what was copied to the start of the buffer is the next piece
next_piece : (bytes part rest : List ℕ) (at n : ℕ) → part ≡ take n (drop at bytes) → length part ≡ n
    → drop at bytes ≡ take n (part ++ rest) ++ drop (at + n) bytes
next_piece bytes part rest at n e k =
    rw (take_at part rest n k, e, ← drop-drop n at bytes) (sym (take-append-drop n (drop at bytes)))

pub returns-clause-bytes : goal.returns-clause-bytes
returns-clause-bytes c =
    let n = c.min-n.result in
    let same : c.args.self.now.at + n - c.args.self.now.at ≡ n = omega arith in
    let part : c.copy_from_slice.new.self ≡ take n (drop c.args.self.now.at c.args.self.now.bytes.now) =
    c.copy_from_slice.ensures.after ∙ ap (λ k. take k (drop c.args.self.now.at c.args.self.now.bytes.now)) same in
    next_piece c.args.self.now.bytes.now c.copy_from_slice.new.self (drop n c.args.buffer.now) c.args.self.now.at n part
    (ap length part ∙ simp (length-take, length-drop) (omega arith))
