use Rattle.std.proofs.lemmas.Grind.{common_steps}
use Rattle.std.proofs.Common.{◌≡◌, ◌≤◌, true, nat_le, length, reverse, take, Some, sym, ap, ◌∙◌, arith}
use Rattle.std.proofs.lemmas.Bool.Decides.{nat_tests}
use Rattle.std.proofs.lemmas.List.{append-nil, length-reverse}
use Rattle.dir_names.specs.NameKeys.{rdn_key, name_key}
use Rattle.dir_names.specs.Names.Limits.{is_within_limits}
use Rattle.dir_names.specs.Results.{option_collect}
use Rattle.dir_names.proofs.AllLemmas.{prefixed}
use Rattle.dir_names.proofs.Both.{left}
use Rattle.dir_names.proofs.Collected.{collect_length}
use Rattle.dir_names.proofs.name.Dn.key_of_rdns.Goals as goal

pub from_parts-requires : goal.from_parts-requires
from_parts-requires c =
    let rows = c.args.schema.now in
    let name = c.args.self.now in
    let parts = c.loop-at.parts.items in
    let test = c.loop-at-test.false in
    let end : c.loop-at.at ≡ 0 = omega (arith, test) in
    let named : name_key rows name ≡ Some parts =
    c.loop-at.invariant.1 ∙ ap (λ n. prefixed parts (option_collect (rdn_key rows) (reverse (take n name)))) end ∙ ap Some (append-nil parts) in
    let count : length name ≡ length parts = sym (length-reverse name) ∙ collect_length (rdn_key rows) (reverse name) parts named in
    let within : nat_le (length name) 64 ≡ true = left (nat_le (length name) 64) _ (ap is_within_limits (sym c.self.view_is) ∙ c.self.invariant.1) in
    let low : length name ≤ 64 = grind (arith, nat_tests) in
    omega (arith, count, low)

pub loop-at-init : goal.loop-at-init
loop-at-init c = grind (arith, common_steps)

pub returns-in_err-key : goal.returns-in_err-key
returns-in_err-key c = grind (arith, common_steps)

pub loop-at-preserved : goal.loop-at-preserved
loop-at-preserved c = grind (arith, common_steps)
