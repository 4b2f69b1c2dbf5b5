use Rattle.std.proofs.Common.{◌≡◌, ◌++◌, Err, Ok, OnOk, Result, Some, true, get_or, map, set, sym, ap, subst, ◌∙◌, rules}
use Rattle.std.specs.List.{position}
use Rattle.std.specs.Str.{str_to_ascii_lowercase}
use Rattle.dir_names.specs.declared.schema.TypeRow.{TypeRow}
use Rattle.dir_names.specs.Inside.TypeNames.{Gains, is_named}
use Rattle.dir_names.specs.Types.Adding.{gaining, may_be_added, new_names}
use Rattle.dir_names.proofs.GrownTables.{IsKept, gains_in, row_grown, rows_grown}
use Rattle.dir_names.proofs.schema.types.TypeTable.add_names.Goals as goal
use Rattle.dir_names.proofs.schema.types.TypeTable.add_names.Goals.{After-insert_each}

-- the rows that are left
grown : (c : After-insert_each) → set c.self.inside.rows.items c.args.at (record { key = c.index_mut.result.now.key; names = c.append.new.self; rule = c.index_mut.result.now.rule; single = c.index_mut.result.now.single }) ≡ map (gaining c.args.definition.now (new_names c.self.inside.rows.items c.args.definition.now)) c.self.inside.rows.items
grown c =
    let rows = c.self.inside.rows.items in
    let index = c.self.inside.names.items in
    let d = c.args.definition.now in
    let at = c.args.at in
    let row = c.index_mut.result.now in
    let added : may_be_added rows d ≡ true = subst (λ r. may_be_added r d ≡ true) (sym c.self.view_is) c.requires.added in
    let known : position (is_named d.number) rows ≡ Some at = subst (λ r. position (is_named d.number) r ≡ Some at) (sym c.self.view_is) c.requires.known in
    let gained : c.in_ok-gained.gained.items ≡ new_names c.args.self.now d = search rules in
    let gained_here : c.in_ok-gained.gained.items ≡ new_names rows d = gained ∙ ap (λ r. new_names r d) (sym c.self.view_is) in
    let is : row ≡ get_or rows at row = search rules in
    let names : c.append.new.self ≡ row.names ++ c.in_ok-gained.gained.items = search rules in
    let names_here : c.append.new.self ≡ (get_or rows at row).names ++ new_names rows d = names ∙ (λ i. row.names ++ gained_here i) ∙ ap (λ (r : TypeRow). r.names ++ new_names rows d) is in
    (λ i. set rows at (record { key = (is i).key; names = names_here i; rule = (is i).rule; single = (is i).single })) ∙ rows_grown rows index c.self.invariant d added at row known

pub invariant_of-self-2 : goal.invariant_of-self-2
invariant_of-self-2 c =
    let rows = c.self.inside.rows.items in
    let index = c.self.inside.names.items in
    let d = c.args.definition.now in
    let at = c.args.at in
    let row = c.index_mut.result.now in
    let added : may_be_added rows d ≡ true = subst (λ r. may_be_added r d ≡ true) (sym c.self.view_is) c.requires.added in
    let known : position (is_named d.number) rows ≡ Some at = subst (λ r. position (is_named d.number) r ≡ Some at) (sym c.self.view_is) c.requires.known in
    let gained : c.in_ok-gained.gained.items ≡ new_names c.args.self.now d = search rules in
    let gained_here : c.in_ok-gained.gained.items ≡ new_names rows d = gained ∙ ap (λ r. new_names r d) (sym c.self.view_is) in
    let lowered : c.in_ok-lowered.lowered.items ≡ map str_to_ascii_lowercase c.in_ok-gained.gained.items = search rules in
    let lowered_here : c.in_ok-lowered.lowered.items ≡ map str_to_ascii_lowercase (new_names rows d) = lowered ∙ ap (map str_to_ascii_lowercase) gained_here in
    let gains : Gains (gains_in (map str_to_ascii_lowercase (new_names rows d))) at index c.insert_each.new.names.items = subst (λ ns. Gains (gains_in ns) at index c.insert_each.new.names.items) lowered_here (search rules) in
    subst (λ r. IsKept r c.insert_each.new.names.items) (sym (grown c)) (row_grown rows index c.self.invariant d added at row c.insert_each.new.names.items known c.insert_each.ensures.rising gains)

on_ok : {T E : Type 0} (r : Result T E) (P : Type 0) → P → OnOk r P
on_ok (Ok x) P p = p
on_ok (Err e) P p = tt

pub returns-clause-ok : goal.returns-clause-ok
returns-clause-ok c = on_ok c.insert_each.result _ (grown c ∙ ap (λ r. map (gaining c.args.definition.now (new_names r c.args.definition.now)) r) c.self.view_is)
