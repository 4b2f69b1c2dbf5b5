use Rattle.std.proofs.lemmas.Grind.{common_steps}
use Rattle.std.proofs.Common.{◌≡◌, ◌+◌, ◌-◌, ◌<◌, ℕ, length, sym, subst, arith}
use Rattle.dir_names.specs.NameKeys.{rdn_key}
use Rattle.dir_names.proofs.SortedNames.{IsSorted, some_text, sorted_more}
use Rattle.dir_names.proofs.key.sort_key.put_rdns.Goals as goal

pub loop-at-preserved : goal.loop-at-preserved
loop-at-preserved c =
    let rows = c.args.schema.now in
    let name = c.args.rdns.now in
    let rdn = c.index-rdns-at.result in
    let text = c.loop-at.out.items in
    let at : ℕ = c.loop-at.at - 1 in
    let test = c.loop-at-test.true in
    let low = c.loop-at.invariant.0 in
    let whole : c.loop-at.at ≡ at + 1 = omega (arith, test) in
    let inside : at < length name = omega (arith, test, low) in
    let so_far : IsSorted rows name (at + 1) text = subst (λ n. IsSorted rows name n text) whole c.loop-at.invariant.1 in
    let put = some_text (rdn_key rows rdn) text c.put_rdn.new.out.items c.in-Ok.ensures in
    let sorted : IsSorted rows name at c.put_rdn.new.out.items = subst (IsSorted rows name at) (sym put.2) (sorted_more rows name at rdn inside c.index-rdns-at.is text so_far put.0 put.1) in
    (omega (arith, test, low), sorted)

pub loop-at-init : goal.loop-at-init
loop-at-init c = grind (arith, common_steps)

pub returns-in-Err : goal.returns-in-Err
returns-in-Err c = grind (arith, common_steps)
