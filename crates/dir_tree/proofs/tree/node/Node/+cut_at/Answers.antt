use Rattle.std.proofs.Common.{◌≡◌, [], ◌∷◌, None, Some, is_some, true, ap, subst, sym, ◌∙◌}
use Rattle.std.specs.Map.{lookup}
use Rattle.std.specs.BTreeMap.{is_at}
use Rattle.std.specs.Option.{option_flatten}
use Rattle.dir_names.specs.Orders.{rdn_key_cmp}
use Rattle.dir_tree.specs.Inside.TreePlaces.{IsAt, IsGraft, entry_on, node_map, with_child}
use Rattle.dir_tree.proofs.TreeNodes.{child_at, filled_place, graft_child, has_place, looked_up, no_length, node_there, only_flat, place_changed}
use Rattle.dir_tree.proofs.tree.node.Node.+cut_at.Goals as goal

pub place-requires : goal.place-requires
place-requires t c = has_place c.args.self.now c.args.first.now c.args.rest.now c.requires

pub node_in-requires : goal.node_in-requires
node_in-requires t c = filled_place c.args.self.now c.args.first.now c.place.result.now c.place.ensures.is c.args.rest.now c.requires

pub returns-in-Some-clause-rest : goal.returns-in-Some-clause-rest
returns-in-Some-clause-rest t c =
    let child : IsAt c.args.self.now (c.args.first.now ∷ []) c.node_in.result.now = child_at c.args.self.now c.args.first.now c.place.result.now c.node_in.result.now c.place.ensures.is c.node_in.ensures.is in
    subst (λ rest. IsGraft c.args.self.now (c.args.first.now ∷ rest) (λ _. None) (with_child c.args.self.now c.args.first.now (Some c.cut_at.new.self))) (sym c.in-Some.ensures.cases.0)
    (graft_child c.args.self.now c.args.first.now c.node_in.result.now child (c.in-Some.second.now ∷ c.in-Some.rest.now) (λ _. None) c.cut_at.new.self c.cut_at.ensures.rest)

pub unwrap-requires : goal.unwrap-requires
unwrap-requires t c =
    let there : is_some (entry_on c.args.self.now (c.args.first.now ∷ [])) ≡ true = subst (λ rest. is_some (entry_on c.args.self.now (c.args.first.now ∷ rest)) ≡ true) (no_length c.args.rest.now c.in-None.ensures.cases) c.requires in
    ap is_some (c.flatten.ensures ∙ ap option_flatten c.remove.ensures.value)
    ∙ node_there c.self.inside.entry c.self.inside.children.entries c.self.invariant c.args.first.now (subst (λ m. is_some (entry_on m (c.args.first.now ∷ [])) ≡ true) (sym c.self.view_is) there)

pub returns-in-None-clause-node : goal.returns-in-None-clause-node
returns-in-None-clause-node t c =
    let found : lookup (is_at (rdn_key_cmp c.args.first.now)) c.self.inside.children.entries ≡ Some (Some c.unwrap.result) = only_flat _ c.unwrap.result (ap option_flatten (sym c.remove.ensures.value) ∙ sym c.flatten.ensures ∙ c.unwrap.ensures) in
    subst (λ rest. IsAt c.args.self.now (c.args.first.now ∷ rest) c.unwrap.result) (sym (no_length c.args.rest.now c.in-None.ensures.cases))
    (subst (λ m. IsAt m (c.args.first.now ∷ []) c.unwrap.result) c.self.view_is (looked_up c.self.inside.entry c.self.inside.children.entries c.self.invariant c.args.first.now (Some c.unwrap.result) found))

pub returns-in-None-clause-rest : goal.returns-in-None-clause-rest
returns-in-None-clause-rest t c =
    subst (λ rest. IsGraft c.args.self.now (c.args.first.now ∷ rest) (λ _. None) (node_map c.self.inside.entry c.remove.new.self.entries)) (sym (no_length c.args.rest.now c.in-None.ensures.cases))
    (subst (λ m. IsGraft m (c.args.first.now ∷ []) (λ _. None) (node_map c.self.inside.entry c.remove.new.self.entries)) c.self.view_is
    (place_changed c.self.inside.entry c.self.inside.children.entries c.remove.new.self.entries c.self.invariant c.remove.ensures.ordered c.args.first.now None c.remove.ensures.updates.0))
