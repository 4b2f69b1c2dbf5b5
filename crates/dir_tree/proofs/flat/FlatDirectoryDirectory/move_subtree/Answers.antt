use Rattle.std.proofs.Common.{◌≡◌, ◌+◌, ◌≤◌, true, length, is_some, Some, sym, ap, ◌∙◌, subst}
use Rattle.std.specs.BTreeMap.{get_by}
use Rattle.std.specs.Option.{option_copied_mut}
use Rattle.dir_names.specs.Orders.{dn_key_cmp, dn_key_cmp_total, dn_key_cmp_exact}
use Rattle.dir_names.proofs.Maps.{get_entries}
use Rattle.dir_tree.specs.Dir.{Dir, IsClosed, dir_over, entry_at, put_entry}
use Rattle.dir_tree.specs.Moves.{IsShallow, height_below, move_subtree}
use Rattle.dir_tree.proofs.MapWrites.{one_written, lent}
use Rattle.dir_tree.proofs.MoveLemmas.{Place, clear_place, closed_moved, new_over, place_of, rekeyed_over, shallow_moved}
use Rattle.dir_tree.proofs.flat.FlatDirectoryDirectory.move_subtree.Goals as goal
use Rattle.dir_tree.proofs.flat.FlatDirectoryDirectory.move_subtree.Goals.{After-get_mut, After-replace}

-- what the reference was lent to
found : (c : After-get_mut) → option_copied_mut c.get_mut.result ≡ entry_at c.args.self.now c.args.old.now
found c =
    let place = place_of c.args.self.now c.args.old.now c.args.new.now c.requires.there c.requires.inner c.requires.parent c.requires.place in
    let moved = rekeyed_over c.self.inside.suffix c.self.inside.entries.entries c.moved_entries.ensures.ordered c.args.old.now c.args.new.now c.in-Ok.moved.entries c.in-Ok.ensures.ok in
    c.get_mut.ensures.value ∙ get_entries dn_key_cmp_total c.in-Ok.moved.entries c.args.new.now ∙ new_over c.args.self.now c.self.inside.suffix c.self.inside.entries.entries c.self.view_is c.self.invariant.0 c.args.old.now c.args.new.now place c.in-Ok.moved.entries moved

pub unwrap-requires : goal.unwrap-requires
unwrap-requires c = lent c.get_mut.result ∙ ap is_some (found (goal.at.unwrap-requires c).After-get_mut) ∙ c.requires.there

-- the map with the entry there
put : (c : After-replace) → dir_over c.self.inside.suffix (c.get_mut.follows.lender c.replace.new.dest).entries ≡ move_subtree (dir_over c.self.inside.suffix c.self.inside.entries.entries) c.args.old.now c.args.new.now c.args.entry
put c =
    let place = place_of c.args.self.now c.args.old.now c.args.new.now c.requires.there c.requires.inner c.requires.parent c.requires.place in
    let moved = rekeyed_over c.self.inside.suffix c.self.inside.entries.entries c.moved_entries.ensures.ordered c.args.old.now c.args.new.now c.in-Ok.moved.entries c.in-Ok.ensures.ok in
    let d : Dir = dir_over c.self.inside.suffix c.in-Ok.moved.entries in
    let there : is_some (get_by (dn_key_cmp c.args.new.now) c.in-Ok.moved) ≡ true =
    ap is_some (get_entries dn_key_cmp_total c.in-Ok.moved.entries c.args.new.now ∙ new_over c.args.self.now c.self.inside.suffix c.self.inside.entries.entries c.self.view_is c.self.invariant.0 c.args.old.now c.args.new.now place c.in-Ok.moved.entries moved) ∙ c.requires.there in
    let written = (c.get_mut.follows.holds c.replace.new.dest).3 there in
    ap (λ m. record d { entries = m }) (one_written dn_key_cmp_total dn_key_cmp_exact c.in-Ok.moved.entries (c.get_mut.follows.lender c.replace.new.dest).entries c.args.new.now c.replace.new.dest written.0)
    ∙ ap (put_entry d c.args.new.now) c.replace.ensures.after
    ∙ ap (λ d. put_entry d c.args.new.now c.args.entry) moved

pub invariant_of-self : goal.invariant_of-self
invariant_of-self c =
    let d : Dir = dir_over c.self.inside.suffix c.self.inside.entries.entries in
    let place : Place d c.args.old.now c.args.new.now =
    subst (λ d. Place d c.args.old.now c.args.new.now) (sym c.self.view_is) (place_of c.args.self.now c.args.old.now c.args.new.now c.requires.there c.requires.inner c.requires.parent c.requires.place) in
    let fits : length c.args.new.now + height_below d c.args.old.now ≤ 64 = subst (λ d. length c.args.new.now + height_below d c.args.old.now ≤ 64) (sym c.self.view_is) c.requires.fits in
    subst (λ d. IsClosed d × IsShallow d) (sym (put (goal.at.invariant_of-self c).After-replace))
    (closed_moved d c.self.invariant.0 c.args.old.now c.args.new.now place c.args.entry, shallow_moved d c.self.invariant.1 c.args.old.now c.args.new.now (clear_place d c.self.invariant.0 c.args.old.now c.args.new.now place) c.args.entry fits)

pub returns-clause-old : goal.returns-clause-old
returns-clause-old c = sym (found (goal.at.returns-clause-old c).After-get_mut) ∙ ap option_copied_mut c.unwrap.ensures ∙ ap (λ e. Some e) (sym c.replace.ensures.value)

pub returns-clause-ok : goal.returns-clause-ok
returns-clause-ok c = put (goal.at.returns-clause-ok c).After-replace ∙ ap (λ d. move_subtree d c.args.old.now c.args.new.now c.args.entry) c.self.view_is
