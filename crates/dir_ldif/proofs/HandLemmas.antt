-- Lemmas on the bytes in hand and the blocks to come.
use Rattle.std.proofs.Common.{◌≡◌, ℕ, ◌+◌, ◌-◌, ◌≤◌, List, ◌++◌, length, take, drop, sym, ap, ◌∙◌, append_assoc, length-append, [], true, Option, None, Some, IfSome, arith}
use Rattle.std.proofs.lemmas.List.{drop-drop, drop-take, length-take, length-drop}
use Rattle.std.proofs.Math.Seq.{drop-append_seam}
use Rattle.std.specs.Io.KnownBytes.{Consumes}
use Rattle.dir_ldif.specs.Remainder.{Remainder, done, then_rest}
use Rattle.dir_ldif.specs.declared.reader.unfolder.Unfolder.{Unfolder}
use Rattle.dir_ldif.specs.LogicalLines.{Line}
use Rattle.dir_ldif.specs.Reader.Unfolding.{to_come}
use Rattle.std.proofs.KnownBytes.{Consumes-trans}
use Rattle.dir_ldif.proofs.UnfolderLemmas.{over_any}

-- what is left of the hand
pub hand_left : (buffer front rest : List ℕ) (at end : ℕ) → at ≤ end → end ≤ length buffer → take (end - at) (drop at buffer) ≡ front ++ rest
    → take (end - (end - length rest)) (drop (end - length rest) buffer) ≡ rest
hand_left buffer front rest at end a b e =
    let whole : end - at ≡ length front + length rest = omega (arith, ap length e, length-append front rest, length-take (end - at) (drop at buffer), length-drop at buffer) in
    let size : end - (end - length rest) ≡ length rest = omega arith in
    let begin : end - length rest ≡ at + length front = omega arith in
    let after = drop at buffer in
    let found : take (length rest) (drop (at + length front) buffer) ≡ rest =
    ap (take (length rest)) (sym (drop-drop (length front) at buffer)) ∙ sym (drop-take (length front) (length rest) after)
    ∙ ap (drop (length front)) (ap (λ n. take n after) (sym whole) ∙ e) ∙ drop-append_seam front rest in
    rw (size, begin) found

-- the block that was found in the hand, and what is left of the hand
pub hand_found : (j k : Unfolder) (block : List Line) (buffer shown rest : List ℕ) (at end : ℕ) → shown ≡ buffer → at ≤ end → end ≤ length buffer
    → (front : List ℕ) × (take (end - at) (drop at shown) ≡ front ++ rest) → ((text : List ℕ) → to_come j (take (end - at) (drop at shown) ++ text) ≡ then_rest block (to_come k (rest ++ text)))
    → (text : List ℕ) → to_come j (take (end - at) (drop at buffer) ++ text) ≡ then_rest block (to_come k (take (end - (end - length rest)) (drop (end - length rest) buffer) ++ text))
hand_found j k block buffer shown rest at end same a b f h text =
    let whole : take (end - at) (drop at buffer) ≡ f.0 ++ rest = ap (λ s. take (end - at) (drop at s)) (sym same) ∙ f.1 in
    let left = hand_left buffer f.0 rest at end a b whole in
    ap (λ s. to_come j (take (end - at) (drop at s) ++ text)) (sym same) ∙ h text ∙ ap (λ s. then_rest block (to_come k (s ++ text))) (sym left)

-- the same, and what stood before what is left
pub hand_used : (j k : Unfolder) (block : List Line) (buffer shown rest : List ℕ) (at end : ℕ) → shown ≡ buffer → at ≤ end → end ≤ length buffer
    → (front : List ℕ) × (take (end - at) (drop at shown) ≡ front ++ rest) × ((text : List ℕ) → to_come j (front ++ text) ≡ then_rest block (to_come k text))
    → (used : List ℕ) × (take (end - at) (drop at buffer) ≡ used ++ take (end - (end - length rest)) (drop (end - length rest) buffer)) × ((text : List ℕ) → to_come j (used ++ text) ≡ then_rest block (to_come k text))
hand_used j k block buffer shown rest at end same a b f =
    let whole : take (end - at) (drop at buffer) ≡ f.0 ++ rest = ap (λ s. take (end - at) (drop at s)) (sym same) ∙ f.1 in
    (f.0, whole ∙ ap (λ t. f.0 ++ t) (sym (hand_left buffer f.0 rest at end a b whole)), f.2)

-- one piece more was read, and not the end
pub more_read : (old mid new : List ℕ → Remainder) (left left' left'' : Option (List ℕ)) (bytes piece : List ℕ) → Consumes left left' bytes → ((text : List ℕ) → old (bytes ++ text) ≡ mid text)
    → Consumes left' left'' piece → ((text : List ℕ) → mid (piece ++ text) ≡ new text) → Consumes left left'' (bytes ++ piece) × ((text : List ℕ) → old ((bytes ++ piece) ++ text) ≡ new text)
more_read old mid new left left' left'' bytes piece took h more e =
    (Consumes-trans left left' left'' bytes piece took more, λ text. ap old (append_assoc bytes piece text) ∙ h (piece ++ text) ∙ e text)

-- a mark ended the text: nothing is left, whatever the source still gives
pub over_found : (old : List ℕ → Remainder) (u : Unfolder) (block : List Line) (bytes : List ℕ) (left : Option (List ℕ)) → block ≡ [] → u.marks.is_over ≡ true → ((text : List ℕ) → old (bytes ++ text) ≡ to_come u text)
    → IfSome left (λ text. old (bytes ++ text) ≡ then_rest block (done u.marks.passed))
over_found old u block bytes None none over same = tt
over_found old u block bytes (Some text) none over same = rw none (same text ∙ over_any u _ over)
