use Rattle.std.proofs.Common.{◌≡◌, ◌<◌, ◌==◌, true, false, get_or, length, min, refl, sym, ◌∙◌, arith, rules}
use Rattle.std.specs.Char.{to_ascii_lowercase}
use Rattle.std.specs.Ordering.{nat_cmp}
use Rattle.std.specs.Str.{str_to_ascii_lowercase}
use Rattle.std.proofs.lemmas.List.{get_or-map, length-map}
use Rattle.dir_names.proofs.TextOrder.{after_same, at_difference, at_end}
use Rattle.dir_names.proofs.schema.index.cmp_lowercase.Goals as goal

pub returns-then-one-at : goal.returns-then-one-at
returns-then-one-at c =
    let one = c.args.one.now in
    let text = c.args.text.now in
    let at = c.loop-at.at in
    let lower = c.to_ascii_lowercase-lower.result in
    let inside : at < length one = omega (arith, c.loop-at-test.true, c.min-shorter.ensures) in
    let within : at < length text = omega (arith, c.loop-at-test.true, c.min-shorter.ensures) in
    let inside_too : at < length (str_to_ascii_lowercase text) = omega (arith, within, length-map text to_ascii_lowercase) in
    let is : lower ≡ get_or (str_to_ascii_lowercase text) at 0 = c.to_ascii_lowercase-lower.ensures.value ∙ sym (get_or-map to_ascii_lowercase text at 0 0 within) in
    let differ : (get_or one at 0 == lower) ≡ false = search rules in
    let order : c.cmp.result ≡ nat_cmp (get_or one at 0) lower = search rules in
    order ∙ sym (at_difference one (str_to_ascii_lowercase text) at (get_or one at 0) lower inside inside_too refl is differ) ∙ c.loop-at.invariant

pub loop-at-preserved : goal.loop-at-preserved
loop-at-preserved c =
    let one = c.args.one.now in
    let text = c.args.text.now in
    let at = c.loop-at.at in
    let lower = c.to_ascii_lowercase-lower.result in
    let inside : at < length one = omega (arith, c.loop-at-test.true, c.min-shorter.ensures) in
    let within : at < length text = omega (arith, c.loop-at-test.true, c.min-shorter.ensures) in
    let inside_too : at < length (str_to_ascii_lowercase text) = omega (arith, within, length-map text to_ascii_lowercase) in
    let is : lower ≡ get_or (str_to_ascii_lowercase text) at 0 = c.to_ascii_lowercase-lower.ensures.value ∙ sym (get_or-map to_ascii_lowercase text at 0 0 within) in
    let same : (get_or one at 0 == lower) ≡ true = search rules in
    sym (after_same one (str_to_ascii_lowercase text) at (get_or one at 0) lower inside inside_too refl is same) ∙ c.loop-at.invariant

pub returns : goal.returns
returns c =
    let one = c.args.one.now in
    let lower = str_to_ascii_lowercase c.args.text.now in
    let lengths : c.cmp-2.result ≡ nat_cmp (length one) (length c.args.text.now) = search rules in
    let order : nat_cmp (length one) (length c.args.text.now) ≡ nat_cmp (length one) (length lower) = λ i. nat_cmp (length one) (sym (length-map c.args.text.now to_ascii_lowercase) i) in
    let ended : c.loop-at.at ≡ min (length one) (length lower) = omega (arith, c.loop-at-test.false, c.loop-at.auto.at-end, c.min-shorter.ensures, length-map c.args.text.now to_ascii_lowercase) in
    lengths ∙ order ∙ at_end one lower c.loop-at.at ended ∙ c.loop-at.invariant
