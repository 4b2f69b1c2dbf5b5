use Rattle.std.proofs.Common.{◌≡◌, true, is_some, Some, sym, ap, ◌∙◌, subst}
use Rattle.std.specs.BTreeMap.{get_by}
use Rattle.std.specs.Option.{option_copied_mut}
use Rattle.dir_names.specs.Orders.{dn_key_cmp, dn_key_cmp_total, dn_key_cmp_exact}
use Rattle.dir_names.proofs.Maps.{get_entries}
use Rattle.dir_tree.specs.Dir.{Dir, IsClosed, entry_at, put_entry, dir_over}
use Rattle.dir_tree.specs.Moves.{IsShallow}
use Rattle.dir_tree.proofs.DirLemmas.{closed_put}
use Rattle.dir_tree.proofs.MoveLemmas.{shallow_put}
use Rattle.dir_tree.proofs.MapWrites.{one_written, lent}
use Rattle.dir_tree.proofs.flat.FlatDirectoryDirectory.replace.Goals as goal
use Rattle.dir_tree.proofs.flat.FlatDirectoryDirectory.replace.Goals.{After-get_mut, After-replace}

-- what the reference was lent to
found : (c : After-get_mut) → option_copied_mut c.get_mut.result ≡ entry_at c.args.self.now c.args.key.now
found c = c.get_mut.ensures.value ∙ get_entries dn_key_cmp_total c.self.inside.entries.entries c.args.key.now ∙ ap (λ d. entry_at d c.args.key.now) c.self.view_is

pub unwrap-requires : goal.unwrap-requires
unwrap-requires c = lent c.get_mut.result ∙ ap is_some (found (goal.at.unwrap-requires c).After-get_mut) ∙ c.requires

-- the map with the entry there
put : (c : After-replace) → dir_over c.self.inside.suffix (c.get_mut.follows.lender c.replace.new.dest).entries ≡ put_entry (dir_over c.self.inside.suffix c.self.inside.entries.entries) c.args.key.now c.args.entry
put c =
    let d : Dir = dir_over c.self.inside.suffix c.self.inside.entries.entries in
    let there : is_some (get_by (dn_key_cmp c.args.key.now) c.self.inside.entries) ≡ true =
    ap is_some (get_entries dn_key_cmp_total c.self.inside.entries.entries c.args.key.now ∙ ap (λ d. entry_at d c.args.key.now) c.self.view_is) ∙ c.requires in
    let written = (c.get_mut.follows.holds c.replace.new.dest).3 there in
    ap (λ m. record d { entries = m }) (one_written dn_key_cmp_total dn_key_cmp_exact c.self.inside.entries.entries (c.get_mut.follows.lender c.replace.new.dest).entries c.args.key.now c.replace.new.dest written.0)
    ∙ ap (put_entry d c.args.key.now) c.replace.ensures.after

pub invariant_of-self : goal.invariant_of-self
invariant_of-self c =
    let before : Dir = dir_over c.self.inside.suffix c.self.inside.entries.entries in
    let there : is_some (entry_at before c.args.key.now) ≡ true = ap (λ d. is_some (entry_at d c.args.key.now)) c.self.view_is ∙ c.requires in
    subst (λ d. IsClosed d × IsShallow d) (sym (put (goal.at.invariant_of-self c).After-replace))
    (closed_put before c.args.key.now c.args.entry c.self.invariant.0 (c.self.invariant.0 c.args.key.now there), shallow_put before c.args.key.now c.args.entry c.self.invariant.1 (c.self.invariant.1 c.args.key.now there))

pub returns-clause-old : goal.returns-clause-old
returns-clause-old c = sym (found (goal.at.returns-clause-old c).After-get_mut) ∙ ap option_copied_mut c.unwrap.ensures ∙ ap (λ e. Some e) (sym c.replace.ensures.value)

pub returns-clause-new : goal.returns-clause-new
returns-clause-new c = put (goal.at.returns-clause-new c).After-replace ∙ ap (λ d. put_entry d c.args.key.now c.args.entry) c.self.view_is
