use Rattle.std.proofs.Common.{◌≡◌, true, List, [], ◌∷◌, ◌++◌, is_some, length, map, take, refl, sym, ap, subst, ◌∙◌, append_assoc, arith, length-append}
use Rattle.std.proofs.lemmas.List.{append-nil, map-append}
use Rattle.dir_names.specs.Names.{SpelledName}
use Rattle.dir_tree.specs.WellFormed.{Each}
use Rattle.dir_tree.specs.Inside.TreeNames.{named_places}
use Rattle.dir_tree.specs.Inside.TreeOrder.{Children}
use Rattle.dir_tree.specs.Inside.TreePlaces.{entry_in, entry_on}
use Rattle.dir_tree.proofs.SpelledLemmas.{taken_short}
use Rattle.dir_tree.proofs.TreeChildren.{IsChildOf, children_of}
use Rattle.dir_tree.proofs.TreeNames.{named_children, node_named}
use Rattle.dir_tree.proofs.TreeNodes.{get_root}
use Rattle.dir_tree.proofs.tree.node.Node.+walk.Goals as goal
use Rattle.dir_tree.proofs.tree.node.Node.+walk.Goals.{In_ok-push}

pushed : {A B : Type 0} (f : A → B) (xs : List A) (y : A) (z : B) (zs : List B) → f y ≡ z → map f (xs ++ y ∷ []) ++ zs ≡ map f xs ++ z ∷ zs
pushed f xs y z zs same = ap (λ ws. ws ++ zs) (map-append f xs (y ∷ [])) ∙ append_assoc (map f xs) (f y ∷ []) zs ∙ ap (λ z. map f xs ++ z ∷ zs) same

pub of_rdns-requires : goal.of_rdns-requires
of_rdns-requires t c =
    let root : is_some (entry_on c.args.self.now []) ≡ true = ap (λ m. is_some (entry_on m [])) (sym c.self.view_is) ∙ ap (λ o. is_some (entry_in o)) (get_root c.self.inside.entry c.self.inside.children.entries c.self.invariant) in
    let limit = c.requires [] root in
    let count = ap length c.in_ok-name.ensures in
    let sum = length-append c.first_rdns-own.result.now c.args.above.now in
    let own = ap length c.first_rdns-own.ensures in
    let short = taken_short c.args.depth c.own.result.now in
    omega (arith, limit, count, sum, own, short)

-- the node's entry is walked, and its children are left
first_named : (t : _) (c : In_ok-push t) →
    map (λ item. (item.0, item.1.now)) c.push.new.self.items ++ named_children (c.first_rdns-own.result.now ++ c.args.above.now) c.self.inside.children.entries
    ≡ map (λ item. (item.0, item.1.now)) c.args.walk.now.items ++ named_places c.args.self.now c.args.depth c.args.above.now
first_named t c =
    let own : c.first_rdns-own.result.now ≡ take c.args.depth c.self.inside.entry.own = c.first_rdns-own.ensures ∙ ap (take c.args.depth) c.own.ensures in
    let name : SpelledName = c.first_rdns-own.result.now ++ c.args.above.now in
    ap (λ walk. map (λ item. (item.0, item.1.now)) walk ++ named_children name c.self.inside.children.entries) c.in_ok-push.ensures.items
    ∙ pushed (λ item. (item.0, item.1.now)) c.args.walk.now.items _ (name, c.self.inside.entry) (named_children name c.self.inside.children.entries) (ap (λ dn. (dn, c.self.inside.entry)) (c.of_rdns.ensures ∙ c.in_ok-name.ensures))
    ∙ ap (λ own. map (λ item. (item.0, item.1.now)) c.args.walk.now.items ++ (own ++ c.args.above.now, c.self.inside.entry) ∷ named_children (own ++ c.args.above.now) c.self.inside.children.entries) own
    ∙ ap (λ names. map (λ item. (item.0, item.1.now)) c.args.walk.now.items ++ names)
    (sym (node_named c.self.inside.entry c.self.inside.children.entries c.self.invariant c.args.depth c.args.above.now) ∙ ap (λ m. named_places m c.args.depth c.args.above.now) c.self.view_is)

no_children : (cs : Children) → length cs ≡ 0 → [] ≡ cs
no_children [] e = refl
no_children (c ∷ cs) e = absurd (omega arith)

pub returns-then-is_empty : goal.returns-then-is_empty
returns-then-is_empty t c =
    let none : [] ≡ c.self.inside.children.entries = no_children c.self.inside.children.entries (c.if-is_empty.ensures.0 refl) in
    sym (append-nil (map (λ item. (item.0, item.1.now)) c.push.new.self.items))
    ∙ ap (λ cs. map (λ item. (item.0, item.1.now)) c.push.new.self.items ++ named_children (c.first_rdns-own.result.now ++ c.args.above.now) cs) none
    ∙ first_named t (goal.at.returns-then-is_empty t c).In_ok-push

pub loop-place-init : goal.loop-place-init
loop-place-init t c =
    let all : c.into_iter-place-iterator.result ≡ c.self.inside.children.entries = c.into_iter-place-iterator.ensures.into_iter_gives.0 in
    record {
      so_far =
          (λ i. map (λ item. (item.0, item.1.now)) c.push.new.self.items ++ named_children (c.in_ok-name-2.ensures i) (all i))
          ∙ first_named t (goal.at.loop-place-init t c).In_ok-push;
      each = subst (Each (IsChildOf c.args.self.now)) (sym all) (subst (λ m. Each (IsChildOf m) c.self.inside.children.entries) c.self.view_is (children_of c.self.inside.entry c.self.inside.children.entries c.self.invariant));
    }
