use Rattle.std.proofs.Common.{◌≡◌, rules, false, None, is_some, sym, subst, ◌∙◌}
use Rattle.std.specs.BTreeMap.{get}
use Rattle.dir_names.specs.Orders.{dn_key_cmp}
use Rattle.dir_tree.specs.Dir.{entry_at, put_entry}
use Rattle.dir_tools.specs.declared.copy.loading.Waiting.{Waiting}
use Rattle.dir_tools.specs.Inside.Loading.{AllWait, IsMadeOf, waiting_or, with_put}
use Rattle.dir_tools.proofs.CopyLemmas.{all_standing, all_waiting, made_standing, made_waiting, put_back, put_there}
use Rattle.dir_tools.proofs.copy.loading.Loading.put_or_keep.Goals as goal

pub returns-in_ok-insert-clause-reads : goal.returns-in_ok-insert-clause-reads
returns-in_ok-insert-clause-reads g c m was =
    let d = g.D.Directory.state c.args.self.now.directory in
    let d' = g.D.Directory.state c.put.new.directory in
    let waiting = get dn_key_cmp c.args.self.now.waiting in
    let waiting' = get dn_key_cmp c.insert.new.self in
    let k = c.args.key in
    let no_entry : entry_at d k ≡ None = c.in_ok-entry.ensures.free in
    let free : entry_at m.entries k ≡ None = was.0.2 k ∙ (λ i. waiting_or (c.requires i) (no_entry i)) in
    let back = put_back k c.args.entry d d' c.in_ok-entry.field-0 c.in-Some.entry c.in_ok-entry.ensures.put c.in-Some.is in
    let kept : Waiting = record { line = c.args.line; entry = c.in-Some.entry } in
    let made : IsMadeOf (put_entry m.entries k c.in-Some.entry) waiting' d' =
    subst (IsMadeOf (put_entry m.entries k c.in-Some.entry) waiting') (sym back.1) (made_waiting m.entries d waiting waiting' k kept c.in_ok-insert.ensures.updates.0 was.0) in
    let wait : AllWait (with_put m c.args.line k c.in-Some.entry) waiting' d' =
    subst (AllWait (with_put m c.args.line k c.in-Some.entry) waiting') (sym back.1) (all_waiting m d waiting waiting' k kept c.in_ok-insert.ensures.updates.0 no_entry was.1) in (
      free,
      (subst (λ e. IsMadeOf (put_entry m.entries k e) waiting' d') back.0 made, subst (λ e. AllWait (with_put m c.args.line k e) waiting' d') back.0 wait),
    )

pub returns-in_default-clause-reads : goal.returns-in_default-clause-reads
returns-in_default-clause-reads g c m was =
    let d = g.D.Directory.state c.args.self.now.directory in
    let d' = g.D.Directory.state c.put.new.directory in
    let waiting = get dn_key_cmp c.args.self.now.waiting in
    let k = c.args.key in
    let no_entry : entry_at d k ≡ None = c.in_ok-entry.ensures.free in
    let free : entry_at m.entries k ≡ None = was.0.2 k ∙ (λ i. waiting_or (c.requires i) (no_entry i)) in
    let none : is_some c.in_ok-entry.field-0 ≡ false = search rules in
    let put = put_there k c.args.entry d d' c.in_ok-entry.field-0 c.in_ok-entry.ensures.put none in (
      free,
      (
        made_standing m.entries d d' waiting k c.args.entry c.requires put.0 put.1 was.0,
        all_standing m d d' waiting k c.args.entry c.args.line c.requires put.1 was.1,
      ),
    )
