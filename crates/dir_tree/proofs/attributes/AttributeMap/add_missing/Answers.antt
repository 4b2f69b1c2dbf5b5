use Rattle.std.proofs.lemmas.Grind.{common_steps}
use Rattle.std.proofs.Common.{◌≡◌, ℕ, ◌+◌, ◌<◌, true, false, cond, ◌∷◌, length, drop, get_or, is_some, sym, ap, subst, ◌∙◌, arith, rules}
use Rattle.std.specs.List.{list_all}
use Rattle.std.proofs.lemmas.List.{drop_more}
use Rattle.dir_names.specs.Names.{SpelledPair, SpelledRdn}
use Rattle.dir_names.specs.Names.Sound.{is_sound_pair}
use Rattle.dir_tree.specs.declared.lines.KeyedLine.{KeyedLine}
use Rattle.dir_tree.specs.Content.{StoredAttributes, has_value}
use Rattle.dir_tree.specs.NewEntry.{pair_line, rdn_lines, with_line, with_missing_line, with_missing_of}
use Rattle.dir_tree.proofs.OwnLines.{all_some, lines_left, and_right}
use Rattle.dir_tree.proofs.attributes.AttributeMap.add_missing.Goals as goal
use Rattle.dir_tree.proofs.attributes.AttributeMap.add_missing.Goals.{then-not-has+in_ok-try_clone+in_ok-add, else-not-has}

-- the pair that comes next
next_pair : (pairs : SpelledRdn) (i : ℕ) (p : SpelledPair) → i < length pairs → p ≡ get_or pairs i p → drop i pairs ≡ p ∷ drop (i + 1) pairs
next_pair pairs i p inside item = drop_more pairs i p inside ∙ ap (λ q. q ∷ drop (i + 1) pairs) (sym item)

new_value : (xs : StoredAttributes) (l : KeyedLine) → has_value xs l.description.key l.key ≡ false → with_missing_line xs l ≡ with_line xs l
new_value xs l e = ap (λ b. cond b xs (with_line xs l)) e

old_value : (xs : StoredAttributes) (l : KeyedLine) → has_value xs l.description.key l.key ≡ true → with_missing_line xs l ≡ xs
old_value xs l e = ap (λ b. cond b xs (with_line xs l)) e

pub keyed_pair-requires-clause-keyed : goal.keyed_pair-requires-clause-keyed
keyed_pair-requires-clause-keyed c =
    let pairs = c.pairs-pair-items.result.now in
    let next = next_pair pairs c.loop-pair.pair-index c.pair-item.result (omega arith) c.pair-item.is in
    (all_some c.args.schema.now (pair_line c.args.schema.now c.pair-item.result) _ (subst (λ ps. is_some (rdn_lines c.args.schema.now ps) ≡ true) next c.loop-pair.invariant.1)).0

pub loop-pair-preserved : goal.loop-pair-preserved
loop-pair-preserved c =
    let rows = c.args.schema.now in
    let pairs = c.pairs-pair-items.result.now in
    let rest = drop (c.loop-pair.pair-index + 1) pairs in
    let next = next_pair pairs c.loop-pair.pair-index c.pair-item.result (omega arith) c.pair-item.is in
    let sound = and_right (is_sound_pair c.pair-item.result) (list_all is_sound_pair rest) (subst (λ ps. list_all is_sound_pair ps ≡ true) next c.loop-pair.invariant.0) in
    let keyed = subst (λ ps. is_some (rdn_lines rows ps) ≡ true) next c.loop-pair.invariant.1 in
    let there = (all_some rows (pair_line rows c.pair-item.result) (rdn_lines rows rest) keyed).1 in
    let line : KeyedLine = record { description = c.in_ok-description.description; key = c.in_ok-description.key; bytes = c.pair-item.result.1 } in
    let left = c.loop-pair.invariant.2 ∙ ap (λ ps. with_missing_of c.loop-pair.self (rdn_lines rows ps)) next ∙ lines_left rows c.loop-pair.self c.pair-item.result rest line keyed c.in_ok-description.ensures.ok in
    let there_is : has_value c.loop-pair.self c.in_ok-description.description.key c.in_ok-description.key ≡ c.has.result = ap (λ k. has_value c.loop-pair.self k c.in_ok-description.key) (sym c.key.ensures) ∙ sym c.has.ensures in
    let step : with_missing_line c.loop-pair.self line ≡ c.if-not-has.self = elim c.if-not-has.branch [
      | then-not-has+in_ok-try_clone+in_ok-add w ↦
          let cloned = w.in_ok-try_clone.ensures in
          let bytes : c.pair-item.result.1 ≡ w.in_ok-try_clone.field-0 = cc in
          let added : w.add.new.self ≡ with_line c.loop-pair.self (record { description = c.in_ok-description.description; key = c.in_ok-description.key; bytes = w.in_ok-try_clone.field-0 }) = search rules in
          new_value c.loop-pair.self line (there_is ∙ w.if-not-has.true)
          ∙ ap (λ b. with_line c.loop-pair.self (record { description = c.in_ok-description.description; key = c.in_ok-description.key; bytes = b })) bytes
          ∙ sym added
          ∙ sym w.self-is
      | else-not-has w ↦ old_value c.loop-pair.self line (there_is ∙ w.if-not-has.false) ∙ sym w.self-is
    ] in
    (sound, there, left ∙ ap (λ xs. with_missing_of xs (rdn_lines rows rest)) step)

pub keyed_pair-requires-clause-sound : goal.keyed_pair-requires-clause-sound
keyed_pair-requires-clause-sound c = grind (arith, common_steps)

pub returns-clause-ok : goal.returns-clause-ok
returns-clause-ok c = grind (arith, common_steps)
