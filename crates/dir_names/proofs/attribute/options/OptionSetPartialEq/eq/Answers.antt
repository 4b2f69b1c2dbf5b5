use Rattle.std.proofs.Common.{◌≡◌, false, ◌&&◌, IfSome, subst, ap, sym, ◌∙◌, rules, arith}
use Rattle.std.proofs.lemmas.Grind.{common_steps}
use Rattle.std.specs.Prelude.{◌==◌}
use Rattle.dir_names.specs.Ascii.{nul}
use Rattle.dir_names.specs.Cut.{parts_at}
use Rattle.dir_names.specs.Inside.Starts.{IsStart}
use Rattle.dir_names.specs.Orders.{bytes_eq, texts_eq}
use Rattle.dir_names.proofs.JoinedTexts.{parts_eq}
use Rattle.dir_names.proofs.StartLemmas.{eq_start_first}
use Rattle.dir_names.proofs.attribute.options.OptionSetPartialEq.eq.Goals as goal

pub returns-then-self-other : goal.returns-then-self-other
returns-then-self-other c =
    let mine = c.in-Some-Some.mine in
    let theirs = c.in-Some-Some.theirs in
    let one : parts_at nul mine ≡ c.args.self.now = search rules in
    let another : parts_at nul theirs ≡ c.args.other.now = search rules in
    let run : c.eq.result ≡ bytes_eq mine theirs = search rules in
    run ∙ parts_eq mine theirs ∙ (λ i. texts_eq (one i) (another i))

pub returns-else-self-other : goal.returns-else-self-other
returns-else-self-other c =
    let mine = c.in-Some-Some.mine in
    let theirs = c.in-Some-Some.theirs in
    let m = c.self.inside.start in
    let n = c.other.inside.start in
    let my_start : IsStart mine m = subst (λ o. IfSome o (λ text. IsStart text m)) c.in-Some-Some.is-0 c.self.invariant in
    let their_start : IsStart theirs n = subst (λ o. IfSome o (λ text. IsStart text n)) c.in-Some-Some.is-1 c.other.invariant in
    let one : parts_at nul mine ≡ c.args.self.now = search rules in
    let another : parts_at nul theirs ≡ c.args.other.now = search rules in
    let differ : (m == n) ≡ false = search rules in
    differ ∙ ap (λ b. b && bytes_eq mine theirs) (sym differ) ∙ eq_start_first mine theirs m n my_start their_start ∙ parts_eq mine theirs ∙ (λ i. texts_eq (one i) (another i))

pub returns-in-None-Some : goal.returns-in-None-Some
returns-in-None-Some c = grind (arith, common_steps)

pub returns-in-Some-None : goal.returns-in-Some-None
returns-in-Some-None c = grind (arith, common_steps)
