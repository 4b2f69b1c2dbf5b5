use Rattle.std.proofs.Common.{◌≡◌, ℕ, ◌+◌, ◌-◌, ◌/◌, ◌<◌, ◌∙◌, [], length, sym, subst, arith}
use Rattle.std.proofs.Math.ListN.{get_or-map}
use Rattle.std.proofs.lemmas.List.{length-map}
use Rattle.dir_names.specs.Orders.{bytes_eq_decides}
use Rattle.dir_names.proofs.attribute.place_of.Goals as goal

pub returns-then-eq : goal.returns-then-eq
returns-then-eq c =
    let low = c.loop-low.low in
    let high = c.loop-low.high in
    let at : ℕ = low + (high - low) / 2 in
    let test = c.loop-low-test.true in
    let most = c.loop-low.invariant in
    let inside : at < length c.args.texts.now = omega (arith, test, most) in
    let same : c.as_bytes-one.result.now ≡ c.args.text.now = (bytes_eq_decides _ _).0 (sym c.if-eq.ensures) in
    (subst (λ n. at < n) (sym (length-map _ _)) inside, get_or-map (λ one. one.now) c.args.texts.now at (record { ref_ptr = (0, 0); now = [] }) ∙ sym c.as_bytes-one.ensures.value ∙ same)
