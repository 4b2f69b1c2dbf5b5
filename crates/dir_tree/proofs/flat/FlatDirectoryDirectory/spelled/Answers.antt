use Rattle.std.proofs.Common.{◌≡◌, [], ◌++◌, Option, ◌<◌, length, take, Some, None, is_some, sym, ap, ◌∙◌, subst, arith}
use Rattle.dir_names.specs.Keys.{DnKeys, parent_of}
use Rattle.dir_names.specs.Names.{SpelledName}
use Rattle.dir_names.specs.Orders.{dn_key_cmp_total}
use Rattle.dir_names.proofs.Maps.{get_entries}
use Rattle.std.proofs.lemmas.List.{append-nil}
use Rattle.dir_tree.specs.Dir.{Dir, IsClosed, entry_at}
use Rattle.dir_tree.specs.SpelledNames.{own_depth, spelled_name}
use Rattle.dir_tree.proofs.SpelledLemmas.{spelled_short}
use Rattle.dir_tree.proofs.Climb.{left_above, IsOnPath, steps_left, given, climbed, still_on_path, climbed_past, fewer_steps}
use Rattle.dir_tree.proofs.flat.FlatDirectoryDirectory.spelled.Goals as goal
use Rattle.dir_tree.proofs.flat.FlatDirectoryDirectory.spelled.Goals.{in-Some+in_default-get, in_default-above}

pub loop-above-smaller : goal.loop-above-smaller
loop-above-smaller c =
    let above : parent_of c.in-Some.key ≡ c.in-Ok-parent.parent = given c.in-Ok-parent.ensures in
    subst (λ o. steps_left c.in-Ok-parent.parent < steps_left o) (sym c.in-Some.is) (fewer_steps c.in-Some.key c.in-Ok-parent.parent above)

pub loop-above-preserved : goal.loop-above-preserved
loop-above-preserved c =
    let closed : IsClosed c.args.self.now = subst IsClosed c.self.view_is c.self.invariant.0 in
    let at : Some c.in-Some-get.entry.now ≡ entry_at c.args.self.now c.in-Some.key = c.in-Some-get.ensures.value ∙ get_entries dn_key_cmp_total c.self.inside.entries.entries c.in-Some.key ∙ ap (λ d. entry_at d c.in-Some.key) c.self.view_is in
    let above : parent_of c.in-Some.key ≡ c.in-Ok-parent.parent = given c.in-Ok-parent.ensures in
    let pushed : c.push_clones.new.rdns.items ≡ c.loop-above.rdns.items ++ take (own_depth c.args.self.now.suffix c.in-Some.key) c.in-Some-get.entry.now.own =
    c.in_ok-push_clones.ensures ∙ ap (λ own. c.loop-above.rdns.items ++ own) (c.spelled_own-own.ensures ∙ (λ i. take (own_depth (c.self.view_is i).suffix c.in-Some.key) (c.own.ensures i))) in
    record {
      so_far = ap (λ done. done ++ left_above c.args.self.now c.in-Ok-parent.parent) pushed
          ∙ sym (climbed c.args.self.now closed c.loop-above.rdns.items c.in-Some.key c.in-Some-get.entry.now c.in-Ok-parent.parent (sym at) above)
          ∙ ap (λ o. c.loop-above.rdns.items ++ left_above c.args.self.now o) (sym c.in-Some.is)
          ∙ c.loop-above.invariant.so_far;
      on_path = still_on_path c.args.self.now closed c.in-Some.key c.in-Ok-parent.parent (sym (ap is_some at)) above;
    }

-- the RDNs that were cloned are the name, once nothing is left to be spelled
whole : (d : Dir) (k : DnKeys) (done : SpelledName) (above : Option DnKeys) → left_above d above ≡ [] → done ++ left_above d above ≡ spelled_name d k → done ≡ spelled_name d k
whole d k done above nothing so_far = sym (append-nil done) ∙ ap (λ names. done ++ names) (sym nothing) ∙ so_far

pub of_rdns-requires : goal.of_rdns-requires
of_rdns-requires c =
    let closed : IsClosed c.args.self.now = subst IsClosed c.self.view_is c.self.invariant.0 in
    let nothing : left_above c.args.self.now c.loop-above.above ≡ [] = elim c.match-above.branch [
      | in-Some+in_default-get w ↦
          let none : entry_at c.args.self.now w.in-Some.key ≡ None = sym (w.in_default-get.ensures.value ∙ get_entries dn_key_cmp_total c.self.inside.entries.entries w.in-Some.key ∙ ap (λ d. entry_at d w.in-Some.key) c.self.view_is) in
          ap (left_above c.args.self.now) w.in-Some.is ∙ climbed_past c.args.self.now closed w.in-Some.key (subst (IsOnPath c.args.self.now) w.in-Some.is c.loop-above.invariant.on_path) none
      | in_default-above w ↦ ap (left_above c.args.self.now) w.in_default-above.is
    ] in
    let same = ap length (whole c.args.self.now c.args.key.now c.loop-above.rdns.items c.loop-above.above nothing c.loop-above.invariant.so_far) in
    let short = spelled_short c.args.self.now closed c.args.key.now in
    let low = c.depth.ensures.within_limit in
    omega (arith, same, short, low)

pub returns : goal.returns
returns c =
    let closed : IsClosed c.args.self.now = subst IsClosed c.self.view_is c.self.invariant.0 in
    let nothing : left_above c.args.self.now c.loop-above.above ≡ [] = elim c.match-above.branch [
      | in-Some+in_default-get w ↦
          let none : entry_at c.args.self.now w.in-Some.key ≡ None = sym (w.in_default-get.ensures.value ∙ get_entries dn_key_cmp_total c.self.inside.entries.entries w.in-Some.key ∙ ap (λ d. entry_at d w.in-Some.key) c.self.view_is) in
          ap (left_above c.args.self.now) w.in-Some.is ∙ climbed_past c.args.self.now closed w.in-Some.key (subst (IsOnPath c.args.self.now) w.in-Some.is c.loop-above.invariant.on_path) none
      | in_default-above w ↦ ap (left_above c.args.self.now) w.in_default-above.is
    ] in
    c.of_rdns.ensures ∙ whole c.args.self.now c.args.key.now c.loop-above.rdns.items c.loop-above.above nothing c.loop-above.invariant.so_far
