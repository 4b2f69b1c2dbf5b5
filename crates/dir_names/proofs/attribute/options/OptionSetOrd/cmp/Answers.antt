use Rattle.std.proofs.Common.{◌≡◌, IfSome, subst, ◌∙◌, rules, arith}
use Rattle.std.proofs.lemmas.Grind.{common_steps}
use Rattle.std.specs.Ordering.{nat_cmp, ordering_then}
use Rattle.dir_names.specs.Ascii.{nul}
use Rattle.dir_names.specs.Cut.{parts_at}
use Rattle.dir_names.specs.Inside.Starts.{IsStart}
use Rattle.dir_names.specs.Orders.{bytes_cmp, texts_cmp}
use Rattle.dir_names.proofs.JoinedTexts.{parts_cmp}
use Rattle.dir_names.proofs.StartLemmas.{cmp_start_first}
use Rattle.dir_names.proofs.attribute.options.OptionSetOrd.cmp.Goals as goal

pub returns-in-Some-Some : goal.returns-in-Some-Some
returns-in-Some-Some c =
    let mine = c.in-Some-Some.mine in
    let theirs = c.in-Some-Some.theirs in
    let m = c.self.inside.start in
    let n = c.other.inside.start in
    let my_start : IsStart mine m = subst (λ o. IfSome o (λ text. IsStart text m)) c.in-Some-Some.is-0 c.self.invariant in
    let their_start : IsStart theirs n = subst (λ o. IfSome o (λ text. IsStart text n)) c.in-Some-Some.is-1 c.other.invariant in
    let one : parts_at nul mine ≡ c.args.self.now = search rules in
    let another : parts_at nul theirs ≡ c.args.other.now = search rules in
    let run : c.then_with.result ≡ ordering_then (nat_cmp m n) (bytes_cmp mine theirs) = search rules in
    run ∙ cmp_start_first mine theirs m n my_start their_start ∙ parts_cmp mine theirs ∙ (λ i. texts_cmp (one i) (another i))

pub returns-in-None-Some : goal.returns-in-None-Some
returns-in-None-Some c = grind (arith, common_steps)

pub returns-in-Some-None : goal.returns-in-Some-None
returns-in-Some-None c = grind (arith, common_steps)
