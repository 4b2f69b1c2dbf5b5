use Rattle.std.proofs.Common.{◌≡◌, cond, [], ◌∷◌, ◌++◌, None, Option, Some, refl, sym, ap, ◌∙◌}
use Rattle.std.proofs.lemmas.List.{append-nil}
use Rattle.std.specs.Ordering.{eq_by_cmp}
use Rattle.std.specs.FinMap as fin
use Rattle.std.specs.FinMap.{get-insert}
use Rattle.dir_names.specs.Keys.{DnKeys}
use Rattle.dir_names.specs.Orders.{dn_key_cmp, dn_key_cmp_total}
use Rattle.dir_tree.specs.Content.{Content}
use Rattle.dir_tree.specs.Moves.{rest_below}
use Rattle.dir_tree.specs.Inside.TreePlaces.{IsAt, IsGraft, IsMove, Places, grafted, moved_place, place_map}
use Rattle.dir_tree.proofs.RestBelow.{rest_of}
use Rattle.dir_tree.proofs.TreeWrites.{apart_below}
use Rattle.dir_tree.proofs.tree.node.Node.move_at.Goals as goal

itself : (k : DnKeys) → rest_below k k ≡ Some []
itself k = ap (rest_below k) (sym (append-nil k)) ∙ rest_of k []

module _ (m grown rest : Places) (old new : DnKeys) (outside : rest_below old new ≡ None) (apart : rest_below new old ≡ None) (grow : IsGraft m new (fin.get (place_map None)) grown) (cut : IsGraft grown old (λ _. None) rest) where
  empty_now : fin.get rest new ≡ Some None
  empty_now =
      cut new ∙ ap (λ o. grafted o (λ _. None) (fin.get grown new)) outside
      ∙ grow new ∙ ap (λ o. grafted o (fin.get (place_map None)) (fin.get m new)) (itself new)
      ∙ get-insert dn_key_cmp_total fin.empty [] None []

  module _ (node exchanged after : Places) (e : Content) (at : IsAt grown old node) (same : exchanged ≡ fin.insert node [] (Some e)) (put : IsGraft rest new (fin.get exchanged) after) where
    moved : IsMove m old new e after
    moved q = put q ∙ by (rest_below new q) refl (rest_below old q) refl
      where
        by : (o : Option DnKeys) → rest_below new q ≡ o → (p : Option DnKeys) → rest_below old q ≡ p → grafted o (fin.get exchanged) (fin.get rest q) ≡ moved_place m old e o p (fin.get m q)
        by None t None u =
            cut q ∙ ap (λ p. grafted p (λ _. None) (fin.get grown q)) u ∙ grow q ∙ ap (λ o. grafted o (fin.get (place_map None)) (fin.get m q)) t
        by None t (Some r) u = cut q ∙ ap (λ p. grafted p (λ _. None) (fin.get grown q)) u
        by (Some r) t p u =
            ap (λ n. fin.get n r) same ∙ get-insert dn_key_cmp_total node [] (Some e) r
            ∙ ap (cond (eq_by_cmp dn_key_cmp r []) (Some (Some e))) (at r ∙ grow (old ++ r) ∙ ap (λ o. grafted o (fin.get (place_map None)) (fin.get m (old ++ r))) (apart_below old new outside apart r))

pub put_at-requires : goal.put_at-requires
put_at-requires c =
    empty_now c.args.self.now c.grow_at.new.self c.cut_at-node.new.self (c.args.first.now ∷ c.args.rest.now) (c.args.new_first.now ∷ c.args.new_rest.now) c.requires.outside c.requires.apart c.in-Ok.ensures.ok c.cut_at-node.ensures.rest

pub returns-clause-ok : goal.returns-clause-ok
returns-clause-ok c =
    moved c.args.self.now c.grow_at.new.self c.cut_at-node.new.self (c.args.first.now ∷ c.args.rest.now) (c.args.new_first.now ∷ c.args.new_rest.now) c.requires.outside c.requires.apart c.in-Ok.ensures.ok c.cut_at-node.ensures.rest
    c.cut_at-node.result c.exchange-former.new.self c.put_at.new.self c.args.entry c.cut_at-node.ensures.node c.exchange-former.ensures.new c.put_at.ensures
