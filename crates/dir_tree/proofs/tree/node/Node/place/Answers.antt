use Rattle.std.proofs.Common.{◌≡◌, [], ◌∷◌, Some, is_some, true, ap, refl, subst, sym, ◌∙◌}
use Rattle.std.specs.Map.{lookup}
use Rattle.std.specs.BTreeMap.{is_at}
use Rattle.std.specs.Option.{option_copied_mut}
use Rattle.dir_names.specs.Orders.{rdn_key_cmp}
use Rattle.dir_tree.specs.Inside.TreePlaces.{HasPlace, IsAt, place_map, with_child}
use Rattle.dir_tree.proofs.MapWrites.{lent}
use Rattle.dir_tree.proofs.TreeNodes.{looked_up, place_there, place_written}
use Rattle.dir_tree.proofs.tree.node.Node.place.Goals as goal

pub unwrap-requires : goal.unwrap-requires
unwrap-requires c =
    let has : HasPlace _ c.args.part.now = subst (λ m. HasPlace m c.args.part.now) (sym c.self.view_is) c.requires in
    lent c.get_mut.result ∙ ap is_some c.get_mut.ensures.value ∙ place_there c.self.inside.entry c.self.inside.children.entries c.self.invariant c.args.part.now has

pub returns : goal.returns
returns c =
    let found : lookup (is_at (rdn_key_cmp c.args.part.now)) c.self.inside.children.entries ≡ Some c.unwrap.result.now = sym c.get_mut.ensures.value ∙ ap option_copied_mut c.unwrap.ensures in
    let there : is_some (lookup (is_at (rdn_key_cmp c.args.part.now)) c.self.inside.children.entries) ≡ true = ap is_some found in (
      (
        refl,
        λ w.
            place_written c.self.inside.entry c.self.inside.children.entries (c.get_mut.follows.lender w).entries c.self.invariant (c.get_mut.follows.holds w).4 c.args.part.now w ((c.get_mut.follows.holds w).3 there).0
            ∙ ap (λ m. with_child m c.args.part.now w) c.self.view_is,
      ),
      record {
        writes_back = tt;
        is = subst (λ m. IsAt m (c.args.part.now ∷ []) (place_map c.unwrap.result.now)) c.self.view_is (looked_up c.self.inside.entry c.self.inside.children.entries c.self.invariant c.args.part.now c.unwrap.result.now found);
      },
    )
