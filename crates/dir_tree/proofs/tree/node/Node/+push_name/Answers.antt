use Rattle.std.proofs.Common.{◌≡◌, [], ◌∷◌, ◌++◌, Err, IfSome, MatchOption, OnOk, Ok, Result, Some, length, take, sym, ap, subst, ◌∙◌, append_assoc}
use Rattle.std.specs.FinMap as fin
use Rattle.std.specs.List.{IsFirstAndRest}
use Rattle.dir_tree.specs.Inside.TreeNames.{name_in, own_in}
use Rattle.dir_tree.specs.Inside.TreePlaces.{IsAt, Places}
use Rattle.dir_tree.proofs.TreeNames.{name_child, name_root, own_root}
use Rattle.dir_tree.proofs.TreeNodes.{get_root, no_length}
use Rattle.dir_tree.proofs.tree.node.Node.+push_name.Goals as goal
use Rattle.dir_tree.proofs.tree.node.Node.+push_name.Goals.{in-Some+in_ok-push_name, in_default}

on_ok : {A E P Q : Type 0} → (r : Result A E) → (P → Q) → OnOk r P → OnOk r Q
on_ok (Ok x) f p = f p
on_ok (Err e) f p = p

pub returns : goal.returns
returns t c =
    let m : Places = c.args.self.now in
    let root : fin.get m [] ≡ Some (Some c.self.inside.entry) = ap (λ m. fin.get m []) (sym c.self.view_is) ∙ get_root c.self.inside.entry c.self.inside.children.entries c.self.invariant in
    let own : c.first_rdns.result.now ≡ own_in m c.args.depth [] = c.first_rdns.ensures ∙ ap (take c.args.depth) c.own.ensures ∙ sym (own_root m c.args.depth c.self.inside.entry root) in
    let before : c.match-split_first.rdns.items ++ own_in m c.args.depth [] ≡ c.args.rdns.now.items ++ name_in m c.args.depth c.args.path.now = elim c.match-split_first.branch [
      | in-Some+in_ok-push_name w ↦
          let is : IsAt m (w.in-Some.first.now ∷ []) w.unwrap.result.now = subst (λ r. IfSome r (λ child. IsAt m (w.in-Some.first.now ∷ []) child.now)) w.unwrap.ensures w.child.ensures.some in
          ap (λ rdns. rdns.items ++ own_in m c.args.depth []) w.rdns-is
          ∙ ap (λ names. names ++ own_in m c.args.depth []) w.in_ok-push_name.ensures
          ∙ append_assoc c.args.rdns.now.items (name_in w.unwrap.result.now 1 w.in-Some.rest.now) (own_in m c.args.depth [])
          ∙ ap (λ names. c.args.rdns.now.items ++ names) (sym (name_child m c.args.depth w.in-Some.first.now w.unwrap.result.now is w.in-Some.rest.now))
          ∙ ap (λ path. c.args.rdns.now.items ++ name_in m c.args.depth path) (sym w.in-Some.ensures.cases.0)
      | in_default w ↦
          let none : length c.args.path.now ≡ 0 = subst (λ r. MatchOption r (length c.args.path.now ≡ 0) (λ p. IsFirstAndRest c.args.path.now p.0.now p.1.now)) w.in_default.is c.split_first.ensures.cases in
          ap (λ rdns. rdns.items ++ own_in m c.args.depth []) w.rdns-is
          ∙ ap (λ names. c.args.rdns.now.items ++ names) (sym (name_root m c.args.depth))
          ∙ ap (λ path. c.args.rdns.now.items ++ name_in m c.args.depth path) (sym (no_length c.args.path.now none))
    ] in
    on_ok c.push_clones.result (λ (pushed : c.push_clones.new.rdns.items ≡ c.match-split_first.rdns.items ++ c.first_rdns.result.now). pushed ∙ ap (λ names. c.match-split_first.rdns.items ++ names) own ∙ before) c.push_clones.ensures
