use Rattle.std.proofs.Common.{◌≡◌, ℕ, ◌+◌, ◌-◌, List, [], ◌++◌, length, take, drop, sym, ap, subst, ◌∙◌, arith, rules}
use Rattle.std.specs.Option.{option_copied}
use Rattle.std.proofs.lemmas.List.{take-append-drop}
use Rattle.dir_names.specs.declared.schema.TypeRow.{TypeRow}
use Rattle.dir_names.specs.declared.schema.scope.Scope.{Scope}
use Rattle.dir_names.specs.Inside.PlainParents.{IsPlainParent}
use Rattle.dir_names.specs.Inside.Scopes.{HoldsWithin, IsWithin, both}
use Rattle.dir_names.specs.Inside.SortKeys.{with_piece}
use Rattle.dir_names.proofs.PlainNames.{IsReadFrom, nothing_read}
use Rattle.dir_names.proofs.PlainParents.{leaf_within, parent_read}
use Rattle.dir_names.proofs.ScopedNames.{read_within}
use Rattle.dir_names.proofs.Scopes.{within_itself}
use Rattle.dir_names.proofs.key.plain.put_plain_parent.Goals as goal

pub loop-room-init : goal.loop-room-init
loop-room-init c rows e =
    let empty : c.clear.new.self.items ≡ [] = search rules in
    rw empty (nothing_read rows c.args.value.now)

pub loop-room-preserved : goal.loop-room-preserved
loop-room-preserved c =
    let asked = c.args.schema.now in
    let value = c.args.value.now in
    let old = c.loop-room.scope in
    let more = c.in-Ok.of_rdn in
    let test = c.loop-room-test.true in
    let room : c.loop-room.room ≡ (c.loop-room.room - 1) + 1 = omega (arith, test) in
    let so_far = subst (λ (n : ℕ). HoldsWithin old asked (λ rows. IsReadFrom rows value c.loop-room.rest.now n c.loop-room.out.items)) room c.loop-room.invariant in
    let piece = c.cut_at_last_comma.result.1.now in
    let cut = c.cut_at_last_comma.ensures ∙ ap (λ o. with_piece (option_copied o) piece) c.in-Some.is in
    let scope : c.and-scope.result ≡ both old more = search rules in
    subst (λ (s : Scope). HoldsWithin s asked (λ rows. IsReadFrom rows value c.in-Some.before.now (c.loop-room.room - 1) c.put_plain_rdn.new.out.items)) (sym scope)
    (read_within asked c.keeps_builtin_types.ensures old more value c.in-Some.before.now c.loop-room.rest.now piece c.loop-room.out.items c.put_plain_rdn.new.out.items (c.loop-room.room - 1) cut c.in-Ok.ensures so_far)

pub split_at-requires : goal.split_at-requires
split_at-requires c =
    let asked = c.args.schema.now in
    leaf_within asked c.args.value.now c.loop-room.rest.now c.loop-room.out.items c.loop-room.room (c.loop-room.invariant asked (within_itself asked c.keeps_builtin_types.ensures c.loop-room.scope))

pub returns-in-None : goal.returns-in-None
returns-in-None c =
    let value = c.args.value.now in
    let at : ℕ = length c.loop-room.rest.now in
    let out = c.loop-room.out.items in
    let front : c.split_at.result.0.now ≡ take at value = c.split_at.ensures.front in
    let back : c.split_at.result.1.now ≡ drop at value = c.split_at.ensures.back in (
      sym (take-append-drop at value) ∙ (λ i. sym front i ++ sym back i),
      λ (rows : List TypeRow) (e : IsWithin c.loop-room.scope c.args.schema.now rows). subst (λ t. IsPlainParent rows t out) (sym back) (parent_read rows value c.loop-room.rest.now out c.loop-room.room (c.loop-room.invariant rows e) c.loop-room-test.true),
    )
