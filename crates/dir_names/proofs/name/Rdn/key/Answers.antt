use Rattle.std.proofs.lemmas.Grind.{common_steps}
use Rattle.std.proofs.Common.{◌≡◌, ◌+◌, drop, sym, ◌∙◌, arith, rules}
use Rattle.std.proofs.lemmas.Result.{err_from_is_err_and}
use Rattle.dir_names.specs.NameKeys.{pair_key, rdn_key}
use Rattle.dir_names.proofs.AllLemmas.{ok_some, fails_through}
use Rattle.dir_names.proofs.KeyLemmas.{key_from, key_none, key_more, key_twice, key_fails, key_at, twice_through}
use Rattle.dir_names.proofs.name.Rdn.key.Goals as goal

pub loop-pair-init : goal.loop-pair-init
loop-pair-init c =
    let items : c.args.self.now ≡ c.as_slice-pair-items.result.now = search rules in
    key_none c.args.schema.now c.args.self.now ∙ (λ i. key_from c.args.schema.now (sym c.empty-key.ensures i) (items i))

pub returns-in_err-attr : goal.returns-in_err-attr
returns-in_err-attr c =
    let rows = c.args.schema.now in
    let pairs = c.as_slice-pair-items.result.now in
    let so_far = key_at rows (rdn_key rows c.args.self.now) c.loop-pair.key pairs c.loop-pair.pair-index c.pair-item.result (omega arith) c.pair-item.is c.loop-pair.invariant in
    let through = key_fails rows _ c.loop-pair.key c.pair-item.result (drop (c.loop-pair.pair-index + 1) pairs) so_far in
    let e = err_from_is_err_and c.from_residual.result c.from_residual.ensures.1 in
    rw (e.1, e.2) (fails_through c.in_err-attr.field-0.0 (pair_key rows c.pair-item.result) (rdn_key rows c.args.self.now) through c.in_err-attr.ensures)

pub returns-in_err-key : goal.returns-in_err-key
returns-in_err-key c =
    let rows = c.args.schema.now in
    let pairs = c.as_slice-pair-items.result.now in
    let so_far = key_at rows (rdn_key rows c.args.self.now) c.loop-pair.key pairs c.loop-pair.pair-index c.pair-item.result (omega arith) c.pair-item.is c.loop-pair.invariant in
    let read = ok_some (pair_key rows c.pair-item.result) (c.in_ok-attr.attr, c.in_ok-attr.value) c.in_ok-attr.ensures in
    let through = key_twice rows (rdn_key rows c.args.self.now) c.loop-pair.key c.pair-item.result (drop (c.loop-pair.pair-index + 1) pairs) so_far (c.in_ok-attr.attr, c.in_ok-attr.value) read in
    let e = err_from_is_err_and c.from_residual-in_err-key.result c.from_residual-in_err-key.ensures.1 in
    rw (e.1, e.2) (twice_through c.in_err-key.field-0.0 c.in_ok-attr.attr c.in_ok-attr.value c.loop-pair.key (rdn_key rows c.args.self.now) through c.in_err-key.ensures)

pub loop-pair-preserved : goal.loop-pair-preserved
loop-pair-preserved c =
    let rows = c.args.schema.now in
    let pairs = c.as_slice-pair-items.result.now in
    let so_far = key_at rows (rdn_key rows c.args.self.now) c.loop-pair.key pairs c.loop-pair.pair-index c.pair-item.result (omega arith) c.pair-item.is c.loop-pair.invariant in
    let read = ok_some (pair_key rows c.pair-item.result) (c.in_ok-attr.attr, c.in_ok-attr.value) c.in_ok-attr.ensures in
    key_more rows (rdn_key rows c.args.self.now) c.loop-pair.key c.pair-item.result (drop (c.loop-pair.pair-index + 1) pairs) so_far (c.in_ok-attr.attr, c.in_ok-attr.value) c.in_ok-key.key read c.in_ok-key.ensures

pub returns : goal.returns
returns c = grind (arith, common_steps)
