use Rattle.std.proofs.Common.{◌≡◌, [], ◌∷◌, Bor, IfNone, IfSome, None, Option, Some, ap, subst, sym, ◌∙◌}
use Rattle.std.specs.FinMap as fin
use Rattle.std.specs.Option.{option_copied, option_flatten}
use Rattle.dir_names.specs.Keys.{RdnKeys}
use Rattle.dir_tree.specs.Inside.TreePlaces.{IsAt, Places, entry_on, place_map}
use Rattle.dir_tree.proofs.TreeNodes.{looked_up, nothing_below}
use Rattle.dir_tree.proofs.tree.node.Node.child.Goals as goal

some_child : (m : Places) (x : RdnKeys) (place : Option Places) (r : Option (Bor Places)) → option_copied r ≡ place → IsAt m (x ∷ []) (place_map place) → IfSome r (λ child. IsAt m (x ∷ []) child.now)
some_child m x place None same is = tt
some_child m x place (Some child) same is = λ q. ap (λ place. fin.get (place_map place) q) same ∙ is q

no_child : (P : Type 0) (place : Option Places) (r : Option (Bor Places)) → option_copied r ≡ place → (place ≡ None → P) → IfNone r P
no_child P place None same h = h (sym same)
no_child P place (Some child) same h = tt

pub returns-in-Some-clause-some : goal.returns-in-Some-clause-some
returns-in-Some-clause-some c =
    some_child c.args.self.now c.args.part.now c.in-Some.place.now c.as_ref.result c.as_ref.ensures.value
    (subst (λ m. IsAt m (c.args.part.now ∷ []) (place_map c.in-Some.place.now)) c.self.view_is (looked_up c.self.inside.entry c.self.inside.children.entries c.self.invariant c.args.part.now c.in-Some.place.now (sym c.in-Some.ensures.value)))

pub returns-in-Some-clause-none : goal.returns-in-Some-clause-none
returns-in-Some-clause-none c =
    no_child _ c.in-Some.place.now c.as_ref.result c.as_ref.ensures.value
    (λ none q. ap (λ m. entry_on m (c.args.part.now ∷ q)) (sym c.self.view_is) ∙ nothing_below c.self.inside.entry c.self.inside.children.entries c.self.invariant c.args.part.now (ap option_flatten (sym c.in-Some.ensures.value) ∙ none) q)

pub returns-in-None-clause-none : goal.returns-in-None-clause-none
returns-in-None-clause-none c q =
    ap (λ m. entry_on m (c.args.part.now ∷ q)) (sym c.self.view_is) ∙ nothing_below c.self.inside.entry c.self.inside.children.entries c.self.invariant c.args.part.now (ap option_flatten (sym c.in-None.ensures.value)) q
