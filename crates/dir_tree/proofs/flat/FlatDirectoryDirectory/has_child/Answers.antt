use Rattle.std.proofs.Common.{◌≡◌, true, false, [], ◌∷◌, ◌++◌, is_some, sym, ap, ◌∙◌, subst}
use Rattle.dir_names.specs.Keys.{DnKeys}
use Rattle.dir_names.specs.Orders.{dn_key_cmp_total}
use Rattle.dir_names.proofs.Maps.{get_entries}
use Rattle.dir_tree.specs.Dir.{IsClosed, entry_at}
use Rattle.dir_tree.proofs.NextKey.{next_is_child, before_below}
use Rattle.dir_tree.proofs.flat.FlatDirectoryDirectory.has_child.Goals as goal

none_there : false ≡ true → ⊥
none_there e = cc

pub returns-in-Some : goal.returns-in-Some
returns-in-Some c =
    let at = λ (q : DnKeys). get_entries dn_key_cmp_total c.self.inside.entries.entries q ∙ ap (λ d. entry_at d q) c.self.view_is in
    let closed : IsClosed c.args.self.now = subst IsClosed c.self.view_is c.self.invariant.0 in
    let next = c.in-Some.next.now in
    let there : is_some (entry_at c.args.self.now next) ≡ true = sym (ap is_some (at next)) ∙ c.in-Some.ensures.there in (
      λ is. let part = c.is_parent_of.ensures.0 is in (part.0, subst (λ q. is_some (entry_at c.args.self.now q) ≡ true) part.1 there),
      λ child. c.is_parent_of.ensures.1 (next_is_child c.args.self.now closed c.args.key.now next c.in-Some.ensures.after there (λ q after stands. c.in-Some.ensures.first q after (ap is_some (at q) ∙ stands)) child),
    )

pub returns-in-None : goal.returns-in-None
returns-in-None c =
    let at = λ (q : DnKeys). get_entries dn_key_cmp_total c.self.inside.entries.entries q ∙ ap (λ d. entry_at d q) c.self.view_is in (
      λ is. absurd (none_there is),
      λ child. let q = c.args.key.now ++ child.0 ∷ [] in absurd (none_there (sym (ap is_some (sym (at q) ∙ c.in-None.ensures.none q (before_below c.args.key.now child.0 []))) ∙ child.1)),
    )
