use Rattle.std.proofs.Common.{◌≡◌, [], ◌∷◌, ◌++◌, None, Some, map, ok_or, option_and_then, slice_get, false, true, sym, ap, subst, ◌∙◌, rules}
use Rattle.std.specs.List.{position}
use Rattle.dir_names.specs.declared.fault.NameFault.TheVariants.{BadType}
use Rattle.dir_names.specs.declared.schema.Rule.TheVariants.{Octet}
use Rattle.dir_names.specs.Inside.TypeNames.{is_named, row_number}
use Rattle.dir_names.specs.Table.{row_named}
use Rattle.dir_names.specs.Types.Adding.{gaining, may_be_added, new_names, new_row, rule_by, table_with}
use Rattle.dir_names.proofs.TypeTables.{row_by_number}
use Rattle.dir_names.proofs.GrownTables.{gives_added, with_known, with_new, without_rule}
use Rattle.dir_names.proofs.schema.types.TypeTable.add.Goals as goal

pub add_row-requires-clause-new : goal.add_row-requires-clause-new
add_row-requires-clause-new c =
    let rows = c.self.inside.rows.items in
    let names = c.self.inside.names.items in
    let number = c.args.definition.number in
    let none : row_number names number ≡ None = search rules in
    ap (λ r. row_named r number) (sym c.self.view_is) ∙ sym (row_by_number rows names c.self.invariant.0 number) ∙ ap (option_and_then (slice_get rows)) none

pub returns-in-Some-clause-types : goal.returns-in-Some-clause-types
returns-in-Some-clause-types c =
    let rows = c.self.inside.rows.items in
    let names = c.self.inside.names.items in
    let d = c.args.definition in
    let added : may_be_added c.args.self.now d ≡ true = search rules in
    let added_here : may_be_added rows d ≡ true = subst (λ r. may_be_added r d ≡ true) (sym c.self.view_is) added in
    let at : row_number names d.number ≡ Some c.in-Some.at = search rules in
    let known : position (is_named d.number) rows ≡ Some c.in-Some.at = sym (c.self.invariant.0.1 d.number) ∙ at in
    let with : table_with c.args.self.now d ≡ Some (map (gaining d (new_names c.args.self.now d)) c.args.self.now) = subst (λ r. table_with r d ≡ Some (map (gaining d (new_names r d)) r)) c.self.view_is (with_known rows names c.self.invariant d added_here c.in-Some.at (record { key = []; names = []; rule = Octet; single = false }) known) in
    gives_added c.args.self.now _ _ _ with c.add_names.result c.add_names.ensures.ok c.add_names.ensures.err

pub returns-in-Some-rule_by-clause-types : goal.returns-in-Some-rule_by-clause-types
returns-in-Some-rule_by-clause-types c =
    let rows = c.self.inside.rows.items in
    let names = c.self.inside.names.items in
    let d = c.args.definition in
    let rule = c.in-Some-rule_by.rule in
    let added : may_be_added c.args.self.now d ≡ true = search rules in
    let added_here : may_be_added rows d ≡ true = subst (λ r. may_be_added r d ≡ true) (sym c.self.view_is) added in
    let none : row_number names d.number ≡ None = search rules in
    let fresh : row_named rows d.number ≡ None = sym (row_by_number rows names c.self.invariant.0 d.number) ∙ ap (option_and_then (slice_get rows)) none in
    let by_rule : rule_by c.args.self.now d.equality d.sup ≡ Some rule = search rules in
    let by_rule_here : rule_by rows d.equality d.sup ≡ Some rule = subst (λ r. rule_by r d.equality d.sup ≡ Some rule) (sym c.self.view_is) by_rule in
    let with : table_with c.args.self.now d ≡ Some (c.args.self.now ++ new_row d rule ∷ []) = subst (λ r. table_with r d ≡ Some (r ++ new_row d rule ∷ [])) c.self.view_is (with_new rows names c.self.invariant d added_here rule fresh by_rule_here) in
    gives_added c.args.self.now _ _ _ with c.add_row.result c.add_row.ensures.ok c.add_row.ensures.err

pub returns-in-None-rule_by-clause-types : goal.returns-in-None-rule_by-clause-types
returns-in-None-rule_by-clause-types c =
    let rows = c.self.inside.rows.items in
    let names = c.self.inside.names.items in
    let d = c.args.definition in
    let added : may_be_added c.args.self.now d ≡ true = search rules in
    let added_here : may_be_added rows d ≡ true = subst (λ r. may_be_added r d ≡ true) (sym c.self.view_is) added in
    let none : row_number names d.number ≡ None = search rules in
    let fresh : row_named rows d.number ≡ None = sym (row_by_number rows names c.self.invariant.0 d.number) ∙ ap (option_and_then (slice_get rows)) none in
    let by_rule : rule_by c.args.self.now d.equality d.sup ≡ None = search rules in
    let by_rule_here : rule_by rows d.equality d.sup ≡ None = subst (λ r. rule_by r d.equality d.sup ≡ None) (sym c.self.view_is) by_rule in
    let without : table_with c.args.self.now d ≡ None = subst (λ r. table_with r d ≡ None) c.self.view_is (without_rule rows names c.self.invariant d added_here fresh by_rule_here) in
    ap (λ o. ok_or o BadType) without
