use Rattle.std.proofs.Common.{◌≡◌, rules, cond, take, true, None, Some, Ok, sym, ap, subst, ◌∙◌}
use Rattle.std.specs.BTreeMap.{get}
use Rattle.dir_names.specs.NameKeys.{name_key}
use Rattle.dir_names.specs.Orders.{dn_key_cmp, dn_key_eq}
use Rattle.dir_names.specs.Below.{is_at_or_below}
use Rattle.dir_tree.specs.Dir.{entry_at}
use Rattle.dir_tree.specs.NewEntry.{IsEntryFaultOf, new_entry}
use Rattle.dir_tree.specs.SpelledNames.{own_rdns}
use Rattle.dir_change.specs.Refusals.{entry_refusal}
use Rattle.dir_tools.specs.CopyOf.{with_content}
use Rattle.dir_tools.specs.Inside.Loading.{IsCopyFault, waiting_or, with_put}
use Rattle.dir_tools.proofs.CopyFaults.{makes_none, not_made_at, some_there, taken_place, unmade}
use Rattle.dir_tools.proofs.CopyLemmas.{if_ok, key_named, placed_ok}
use Rattle.dir_tools.proofs.copy.loading.Loading.take_entry.Goals as goal

pub returns-in-Some-clause-cause : goal.returns-in-Some-clause-cause
returns-in-Some-clause-cause g c m was =
    let rows = c.args.schema.now in
    let key = name_key rows c.args.name in
    let named : key ≡ Some c.in-Ok.key = key_named key c.in-Ok.key c.in-Ok.ensures in
    subst (IsCopyFault (with_content rows m c.args.line c.args.name c.args.lines key)) (sym c.refused-in-Some.ensures)
    (ap (with_content rows m c.args.line c.args.name c.args.lines) named ∙ c.in-Some.ensures.refused rows m c.args.line c.args.name c.args.lines was)

pub returns-in-Ok-make-clause-reads : goal.returns-in-Ok-make-clause-reads
returns-in-Ok-make-clause-reads g c =
    let d = g.D.Directory.state c.args.self.now.directory in
    let rows = c.args.schema.now in
    let k = c.in-Ok.key in
    let key = name_key rows c.args.name in
    let named : key ≡ Some k = key_named key k c.in-Ok.ensures in
    let none : c.refusal_of_place.result ≡ None = search rules in
    if_ok c.put_or_keep.result (λ _ put m was.
    let inside : is_at_or_below k m.entries.suffix ≡ true = ap (is_at_or_below k) was.0.0 ∙ c.refusal_of_place.ensures.inside none in
    let own : c.own_rdns-own.result.items ≡ own_rdns m.entries.suffix k c.args.name =
    c.own_rdns-own.ensures ∙ ap (λ b. cond b c.args.name (take 1 c.args.name)) (c.eq.ensures ∙ ap (dn_key_eq k) (c.suffix.ensures.key ∙ sym was.0.0)) in
    let makes : new_entry rows (own_rdns m.entries.suffix k c.args.name) c.args.lines ≡ Ok c.in-Ok-make.entry = ap (λ o. new_entry rows o c.args.lines) (sym own) ∙ c.in-Ok-make.ensures in
    let free = put m was in
    (with_put m c.args.line k c.in-Ok-make.entry, placed_ok rows m c.args.line c.args.name c.args.lines key k c.in-Ok-make.entry named inside free.0 makes, free.1)) c.put_or_keep.ensures.reads

pub returns-in-Err-make-clause-cause : goal.returns-in-Err-make-clause-cause
returns-in-Err-make-clause-cause g c m was =
    let d = g.D.Directory.state c.args.self.now.directory in
    let waiting = get dn_key_cmp c.args.self.now.waiting in
    let rows = c.args.schema.now in
    let k = c.in-Ok.key in
    let key = name_key rows c.args.name in
    let named : key ≡ Some k = key_named key k c.in-Ok.ensures in
    let none : c.refusal_of_place.result ≡ None = search rules in
    let inside : is_at_or_below k m.entries.suffix ≡ true = ap (is_at_or_below k) was.0.0 ∙ c.refusal_of_place.ensures.inside none in
    let none_waits : waiting k ≡ None = c.refusal_of_place.ensures.waits none in
    let own : c.own_rdns-own.result.items ≡ own_rdns m.entries.suffix k c.args.name =
    c.own_rdns-own.ensures ∙ ap (λ b. cond b c.args.name (take 1 c.args.name)) (c.eq.ensures ∙ ap (dn_key_eq k) (c.suffix.ensures.key ∙ sym was.0.0)) in
    let why = c.in-Err-make.fault in
    let fails : IsEntryFaultOf why (new_entry rows (own_rdns m.entries.suffix k c.args.name) c.args.lines) = subst (λ o. IsEntryFaultOf why (new_entry rows o c.args.lines)) own c.in-Err-make.ensures in
    not_made_at (with_content rows m c.args.line c.args.name c.args.lines key) c.args.line (entry_at d k) (entry_refusal why) c.not_made.result c.not_made.ensures
    (λ there. taken_place rows m c.args.line c.args.name c.args.lines key k named inside (some_there m d waiting k was.0 there))
    (λ no_entry code is. unmade rows m c.args.line c.args.name c.args.lines key k why code named inside (was.0.2 k ∙ (λ i. waiting_or (none_waits i) (no_entry i))) (makes_none why code _ is fails) is)
