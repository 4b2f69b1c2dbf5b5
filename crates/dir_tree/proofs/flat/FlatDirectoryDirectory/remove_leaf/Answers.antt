use Rattle.std.proofs.Common.{is_some, sym, ap, ◌∙◌, subst}
use Rattle.std.specs.FinMap as fin
use Rattle.dir_names.specs.Keys.{DnKeys}
use Rattle.dir_names.specs.Orders.{dn_key_cmp, dn_key_cmp_total, dn_key_cmp_exact}
use Rattle.dir_names.proofs.Maps.{get_entries, one_gone}
use Rattle.dir_tree.specs.Content.{Content}
use Rattle.dir_tree.specs.Dir.{Dir, HasChild, IsClosed, entry_at, remove_entry}
use Rattle.dir_tree.specs.Moves.{IsShallow}
use Rattle.dir_tree.proofs.DirLemmas.{closed_without}
use Rattle.dir_tree.proofs.MoveLemmas.{shallow_without}
use Rattle.dir_tree.proofs.flat.FlatDirectoryDirectory.remove_leaf.Goals as goal

pub unwrap-requires : goal.unwrap-requires
unwrap-requires c =
    let at = λ (q : DnKeys). get_entries dn_key_cmp_total c.self.inside.entries.entries q ∙ ap (λ d. entry_at d q) c.self.view_is in
    ap is_some (c.remove.ensures.value ∙ at c.args.key.now) ∙ c.requires.there

pub invariant_of-self : goal.invariant_of-self
invariant_of-self c =
    let before : Dir = record { suffix = c.self.inside.suffix; entries = fin.from_entries c.self.inside.entries.entries } in
    let leaf : HasChild before c.args.key.now → ⊥ = λ child. c.requires.leaf (subst (λ d. HasChild d c.args.key.now) c.self.view_is child) in
    let gone = one_gone dn_key_cmp_total dn_key_cmp_exact c.self.inside.entries.entries c.remove.new.self.entries c.args.key.now c.remove.ensures.updates.0 in
    subst (λ entries. IsClosed (record { suffix = c.self.inside.suffix; entries = entries }) × IsShallow (record { suffix = c.self.inside.suffix; entries = entries })) (sym gone)
    (closed_without before c.args.key.now c.self.invariant.0 leaf, shallow_without before c.args.key.now c.self.invariant.1)

pub returns-clause-old : goal.returns-clause-old
returns-clause-old c =
    let at = λ (q : DnKeys). get_entries dn_key_cmp_total c.self.inside.entries.entries q ∙ ap (λ d. entry_at d q) c.self.view_is in
    sym (at c.args.key.now) ∙ sym c.remove.ensures.value ∙ c.unwrap.ensures

pub returns-clause-new : goal.returns-clause-new
returns-clause-new c =
    let gone = one_gone dn_key_cmp_total dn_key_cmp_exact c.self.inside.entries.entries c.remove.new.self.entries c.args.key.now c.remove.ensures.updates.0 in
    let entries : fin.FinMap dn_key_cmp Content → Dir = λ m. record { suffix = c.self.inside.suffix; entries = m } in
    ap entries gone ∙ ap (λ d. remove_entry d c.args.key.now) c.self.view_is
