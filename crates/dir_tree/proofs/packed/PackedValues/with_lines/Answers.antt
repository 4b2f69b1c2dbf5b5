use Rattle.std.proofs.Common.{◌≡◌, length, take, drop, get_or, slice_get, Some, IsTrue, sym, ap, subst, ◌∙◌, true≢false, arith, rules}
use Rattle.std.specs.Bool.{◌==◌}
use Rattle.dir_names.specs.Described.{described_eq_decides}
use Rattle.std.proofs.lemmas.List.{take_all, take_more}
use Rattle.std.proofs.Math.Seq.{drop-append_seam}
use Rattle.dir_tree.specs.Inside.Packed.{values_of}
use Rattle.dir_tree.specs.Inside.Patterns.{InsertsValue, TakesLines}
use Rattle.dir_tree.specs.Inside.Stored.{are_rising}
use Rattle.dir_tree.proofs.Alike.{is_same}
use Rattle.dir_tree.proofs.PatternLines.{adds_all, item_at, takes_more, takes_none}
use Rattle.dir_tree.proofs.packed.PackedValues.with_lines.Goals as goal

pub loop-number-init : goal.loop-number-init
loop-number-init c =
    let start : c.len-start.result ≡ length c.args.self = search rules in
    (start, takes_none c.args.schema.now c.args.lines.now c.args.attribute.now c.args.self)

pub loop-number-preserved : goal.loop-number-preserved
loop-number-preserved c =
    let rows = c.args.schema.now in
    let lines = c.args.lines.now in
    let a = c.args.attribute.now in
    let numbers = c.args.numbers.now in
    let i = c.loop-number.number-index in
    let line = c.in_ok-line.line.now in
    let now = c.loop-number.values in
    let after = c.in_ok-values.values in
    let number : c.from-in-loop-number.result ≡ get_or numbers i 0 = c.from-in-loop-number.ensures in
    let at : slice_get lines c.from-in-loop-number.result ≡ Some line = item_at lines c.from-in-loop-number.result line c.in_ok-line.ensures.lookup.3.0 c.in_ok-line.ensures.lookup.1 in
    let same : line.0 ≡ a.description = (described_eq_decides line.0 a.description).0 (is_same _ _ c.ne.ensures c.if-ne.false) in
    let key : c.key.result.now ≡ line.0.key = search rules in
    let bytes : c.as_slice.result.now ≡ line.1 = search rules in
    let inserts : InsertsValue rows line.0.key line.1 (length c.args.self) now after =
    subst (λ n. InsertsValue rows line.0.key line.1 n now after) c.loop-number.invariant.0
    (subst (λ b. InsertsValue rows line.0.key b c.len-start.result now after) bytes
    (subst (λ k. InsertsValue rows k c.as_slice.result.now c.len-start.result now after) key c.in_ok-values.ensures)) in (
      c.loop-number.invariant.0,
      subst (λ ns. TakesLines rows lines a ns c.args.self after) (sym (take_more numbers i 0 (omega arith)))
          (takes_more rows lines a c.args.self (take i numbers) now after (get_or numbers i 0) line c.loop-number.invariant.1 (ap (slice_get lines) (sym number) ∙ at) same inserts),
    )

pub returns : goal.returns
returns c =
    let rows = c.args.schema.now in
    let lines = c.args.lines.now in
    let a = c.args.attribute.now in
    let numbers = c.args.numbers.now in
    let now = c.loop-number.values in
    let start = c.loop-number.invariant.0 in
    let t : TakesLines rows lines a numbers c.args.self now = subst (λ ns. TakesLines rows lines a ns c.args.self now) (take_all c.loop-number.number-index numbers (omega arith)) c.loop-number.invariant.1 in
    let lent : values_of c.as_slice-else-len-from.result ≡ now = search rules in
    let last : values_of c.after.result ≡ t.new = c.after.ensures ∙ (λ i. drop (start i) ((lent ∙ t.is) i)) ∙ drop-append_seam c.args.self t.new in
    let rising : IsTrue c.rises.result = search rules in
    let long : c.len.result ≡ length now = search rules in
    adds_all rows lines a c.args.self numbers now t
    (λ e. absurd (true≢false (sym (c.if-is_empty.ensures ∙ ap (λ ns. length ns == 0) e))))
    (subst (λ values. IsTrue (are_rising values)) last (c.rises.ensures rising))
    (sym (c.if-start-from.false ∙ c.from.ensures) ∙ start)
    (sym (c.if-len-from.false ∙ c.from-2.ensures) ∙ long)
