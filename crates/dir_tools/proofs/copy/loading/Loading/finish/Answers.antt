use Rattle.std.proofs.lemmas.Result.{err_from_is_err_and}
use Rattle.std.proofs.Common.{◌≡◌, rules, [], ◌∷◌, sym, subst}
use Rattle.std.specs.List.Sorted.{IsStrictlySortedBy}
use Rattle.std.specs.Map.{keys_of}
use Rattle.dir_names.specs.Orders.{dn_key_cmp}
use Rattle.dir_tree.specs.Dir.{entry_at}
use Rattle.dir_tools.specs.CopyOf.{whole_directory}
use Rattle.dir_tools.specs.Inside.Loading.{IsCopyFault}
use Rattle.dir_tools.proofs.CopyFaults.{not_free, not_put_at}
use Rattle.dir_tools.proofs.CopyLemmas.{put_alone, put_there}
use Rattle.dir_tools.proofs.Orphans.{IsSplit, absent_later, ordered_later, place_free, split_broken, split_orphan, split_put, split_whole, waits}
use Rattle.dir_tools.proofs.copy.loading.Loading.finish.Goals as goal

pub loop-key-preserved-in_ok-add : goal.loop-key-preserved-in_ok-add
loop-key-preserved-in_ok-add g c =
    let steps : c.loop-key.key-iterator ≡ (c.in-Some.key, c.in-Some.waiting) ∷ c.next.new.self = c.in-Some.ensures.steps in
    let ordered = subst (λ es. IsStrictlySortedBy dn_key_cmp (keys_of es)) steps c.loop-key.invariant.1 in
    let d = g.D.Directory.state c.loop-key.directory in
    let d' = g.D.Directory.state c.put.new.directory in
    let put = put_alone c.in-Some.key c.in-Some.waiting.entry d d' c.in_ok-put.field-0 c.in_ok-put.ensures.put (sym c.if-is_some.ensures) in (
      search rules,
      ordered_later c.in-Some.key c.in-Some.waiting c.next.new.self ordered,
      λ m was. subst (IsSplit m (waits c.next.new.self) c.add.new.self.keys c.add.new.self.first) (sym put.1)
          (split_orphan m c.loop-key.orphans.keys c.add.new.self.keys c.loop-key.orphans.first c.add.new.self.first d c.in-Some.key c.in-Some.waiting c.next.new.self
          ordered put.0 c.in_ok-add.ensures.keys.0 c.in_ok-add.ensures.first
          (subst (λ es. IsSplit m (waits es) c.loop-key.orphans.keys c.loop-key.orphans.first d) steps (c.loop-key.invariant.2 m was))),
    )

pub loop-key-preserved : goal.loop-key-preserved
loop-key-preserved g c =
    let steps : c.loop-key.key-iterator ≡ (c.in-Some.key, c.in-Some.waiting) ∷ c.next.new.self = c.in-Some.ensures.steps in
    let ordered = subst (λ es. IsStrictlySortedBy dn_key_cmp (keys_of es)) steps c.loop-key.invariant.1 in
    let d = g.D.Directory.state c.loop-key.directory in
    let d' = g.D.Directory.state c.put.new.directory in
    let put = put_there c.in-Some.key c.in-Some.waiting.entry d d' c.in_ok-put.field-0 c.in_ok-put.ensures.put (sym c.if-is_some.ensures) in (
      search rules,
      ordered_later c.in-Some.key c.in-Some.waiting c.next.new.self ordered,
      λ m was. split_put m c.loop-key.orphans.keys c.loop-key.orphans.first d d' c.in-Some.key c.in-Some.waiting c.next.new.self
          (absent_later c.in-Some.key c.in-Some.waiting c.next.new.self ordered) put.0 put.1
          (subst (λ es. IsSplit m (waits es) c.loop-key.orphans.keys c.loop-key.orphans.first d) steps (c.loop-key.invariant.2 m was)),
    )

pub returns-in-Some-first-clause-cause : goal.returns-in-Some-first-clause-cause
returns-in-Some-first-clause-cause g c m was =
    let d = g.D.Directory.state c.loop-key.directory in
    let ended : c.loop-key.key-iterator ≡ [] = search rules in
    let split = subst (λ o. IsSplit m (waits []) c.loop-key.orphans.keys o d) c.in-Some-first.is
    (subst (λ es. IsSplit m (waits es) c.loop-key.orphans.keys c.loop-key.orphans.first d) ended (c.loop-key.invariant.2 m was)) in
    subst (IsCopyFault (whole_directory m)) (sym c.refused.ensures) (split_broken m c.loop-key.orphans.keys c.in-Some-first.line d split)

pub returns-in-None-first-clause-reads : goal.returns-in-None-first-clause-reads
returns-in-None-first-clause-reads g c m was =
    let d = g.D.Directory.state c.loop-key.directory in
    let ended : c.loop-key.key-iterator ≡ [] = search rules in
    split_whole m c.loop-key.orphans.keys d (subst (λ o. IsSplit m (waits []) c.loop-key.orphans.keys o d) c.in-None-first.is
    (subst (λ es. IsSplit m (waits es) c.loop-key.orphans.keys c.loop-key.orphans.first d) ended (c.loop-key.invariant.2 m was)))

pub returns-in_err-put-clause-cause : goal.returns-in_err-put-clause-cause
returns-in_err-put-clause-cause g c =
    let steps : c.loop-key.key-iterator ≡ (c.in-Some.key, c.in-Some.waiting) ∷ c.next.new.self = c.in-Some.ensures.steps in
    let d = g.D.Directory.state c.loop-key.directory in
    let e = err_from_is_err_and c.from_residual.result c.from_residual.ensures.1 in
    rw (e.1, e.2) (λ m was.
    let split = subst (λ es. IsSplit m (waits es) c.loop-key.orphans.keys c.loop-key.orphans.first d) steps (c.loop-key.invariant.2 m was) in
    not_put_at (whole_directory m) c.in-Some.waiting.line (entry_at d c.in-Some.key) c.in_err-put.field-0.0 c.in_err-put.ensures.fault
    (not_free (entry_at d c.in-Some.key) (place_free m c.loop-key.orphans.keys c.loop-key.orphans.first d c.in-Some.key c.in-Some.waiting c.next.new.self split)))
