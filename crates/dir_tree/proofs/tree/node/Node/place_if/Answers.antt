use borrow.Follows.Closed.{read_of}
use Rattle.std.proofs.Common.{◌≡◌, inl, inr, [], ◌∷◌, true, false, IfNone, IfSome, MutBor, None, Option, Some, is_some, refl, ap, subst, sym, ◌∙◌}
use Rattle.std.specs.Map.{lookup}
use Rattle.std.specs.BTreeMap.{is_at}
use Rattle.std.specs.Option.{ghost_name_of, option_copied_mut, option_flatten}
use Rattle.dir_names.specs.Orders.{rdn_key_cmp}
use Rattle.dir_tree.specs.Inside.TreePlaces.{IsAt, Places, entry_on, node_map, place_map, with_child}
use Rattle.dir_tree.proofs.MapWrites.{lent}
use Rattle.dir_tree.proofs.TreeNodes.{looked_up, nothing_below, place_written}
use Rattle.dir_tree.proofs.tree.node.Node.place_if.Goals as goal

-- what a lender ends as, told in two ways that agree
read_alike : {A D E : Type 0} (r : Option (MutBor A)) (F G : E → D) (v u : D) → (is_some r ≡ true → (w : E) → F w ≡ G w) → (is_some r ≡ false → v ≡ u) → read_of (ghost_name_of r) F v ≡ read_of (ghost_name_of r) G u
read_alike None F G v u f g = ap (λ x. inr x) (g refl)
read_alike (Some x) F G v u f g = λ i. inl (x.ghost_name, λ w. f refl w i)

lent_place : (m : Places) (part : _) (r : Option (MutBor (Option Places))) (o : Option (Option Places)) → option_copied_mut r ≡ o → ((place : Option Places) → o ≡ Some place → IsAt m (part ∷ []) (place_map place)) → IfSome r (λ place. IsAt m (part ∷ []) (place_map place.now))
lent_place m part None o is h = tt
lent_place m part (Some place) o is h = h place.now (sym is)

not_lent : (P : Type 0) (r : Option (MutBor (Option Places))) (o : Option (Option Places)) → option_copied_mut r ≡ o → (o ≡ None → P) → IfNone r P
not_lent P None o is h = h (sym is)
not_lent P (Some place) o is h = tt

pub returns : goal.returns
returns c =
    let found : option_copied_mut c.get_mut.result ≡ lookup (is_at (rdn_key_cmp c.args.part.now)) c.self.inside.children.entries = c.get_mut.ensures.value in (
      read_alike c.get_mut.result _ _ _ _
          (λ there w.
          let is : is_some (lookup (is_at (rdn_key_cmp c.args.part.now)) c.self.inside.children.entries) ≡ true = ap is_some (sym found) ∙ sym (lent c.get_mut.result) ∙ there in
          place_written c.self.inside.entry c.self.inside.children.entries (c.get_mut.follows.lender w).entries c.self.invariant (c.get_mut.follows.holds w).4 c.args.part.now w ((c.get_mut.follows.holds w).3 is).0
          ∙ ap (λ m. with_child m c.args.part.now w) c.self.view_is)
          (λ none. ap (λ children. node_map c.self.inside.entry children.entries) c.get_mut.follows.holds-at-none ∙ c.self.view_is),
      record {
        writes_back = tt;
        some = lent_place c.args.self.now c.args.part.now c.get_mut.result _ found (λ place is. subst (λ m. IsAt m (c.args.part.now ∷ []) (place_map place)) c.self.view_is (looked_up c.self.inside.entry c.self.inside.children.entries c.self.invariant c.args.part.now place is));
        none = not_lent _ c.get_mut.result _ found (λ none q. ap (λ m. entry_on m (c.args.part.now ∷ q)) (sym c.self.view_is) ∙ nothing_below c.self.inside.entry c.self.inside.children.entries c.self.invariant c.args.part.now (ap option_flatten none) q);
      },
    )
