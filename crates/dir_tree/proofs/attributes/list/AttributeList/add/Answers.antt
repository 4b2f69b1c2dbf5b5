use Rattle.std.proofs.Common.{◌≡◌, ◌<◌, [], length, get_or, set, sym, ap, ◌∙◌, subst, arith}
use Rattle.std.proofs.lemmas.Grind.{common_steps}
use Rattle.std.specs.FinMap as fin
use Rattle.std.proofs.lemmas.List.{length-set, set-get_or}
use Rattle.dir_tree.specs.Content.{Keyed}
use Rattle.dir_tree.specs.Inside.AttributeLists.{with_values}
use Rattle.dir_tree.proofs.ReplacedValues.{err_then, ok_then, put_back}
use Rattle.dir_tree.proofs.attributes.list.AttributeList.add.Goals as goal

abbrev any : Keyed
any = record { key = record { attr_type = []; options = [] }; stored = record { spelling = []; values = fin.empty } }

pub replace_values-requires : goal.replace_values-requires
replace_values-requires c =
    let list = c.args.self.now in
    let taken : c.replace_values-values.new.self ≡ set list c.args.at (with_values (get_or list c.args.at any) c.empty.result) = subst (λ l. c.replace_values-values.new.self ≡ set l c.args.at (with_values (get_or l c.args.at any) c.empty.result)) c.self.view_is (c.replace_values-values.ensures.new any) in
    subst (λ n. c.args.at < n) (sym (ap length taken ∙ length-set list c.args.at (with_values (get_or list c.args.at any) c.empty.result))) c.requires

pub returns-clause-ok : goal.returns-clause-ok
returns-clause-ok c =
    let list = c.args.self.now in
    let at = c.args.at in
    ok_then c.insert-added.result (λ put a.
    let taken : c.replace_values-values.new.self ≡ set list at (with_values (get_or list at a) c.empty.result) = subst (λ l. c.replace_values-values.new.self ≡ set l c.args.at (with_values (get_or l c.args.at a) c.empty.result)) c.self.view_is (c.replace_values-values.ensures.new a) in
    let old : c.replace_values-values.result ≡ (get_or list at a).stored.values = subst (λ l. c.replace_values-values.result ≡ (get_or l c.args.at a).stored.values) c.self.view_is (c.replace_values-values.ensures.old a) in
    c.replace_values.ensures.new a
    ∙ ap (λ l. set l at (with_values (get_or l at a) c.insert-added.new.self)) taken
    ∙ put_back list at c.requires a c.empty.result c.insert-added.new.self
    ∙ ap (λ values. set list at (with_values (get_or list at a) values)) (put ∙ ap (λ values. fin.insert values c.args.key c.args.bytes) old))
    c.insert-added.ensures.ok

pub returns-clause-err : goal.returns-clause-err
returns-clause-err c =
    let list = c.args.self.now in
    let at = c.args.at in
    let taken : c.replace_values-values.new.self ≡ set list at (with_values (get_or list at any) c.empty.result) = subst (λ l. c.replace_values-values.new.self ≡ set l c.args.at (with_values (get_or l c.args.at any) c.empty.result)) c.self.view_is (c.replace_values-values.ensures.new any) in
    let old : c.replace_values-values.result ≡ (get_or list at any).stored.values = subst (λ l. c.replace_values-values.result ≡ (get_or l c.args.at any).stored.values) c.self.view_is (c.replace_values-values.ensures.old any) in
    err_then c.insert-added.result (λ kept.
    c.replace_values.ensures.new any
    ∙ ap (λ l. set l at (with_values (get_or l at any) c.insert-added.new.self)) taken
    ∙ put_back list at c.requires any c.empty.result c.insert-added.new.self
    ∙ ap (λ values. set list at (with_values (get_or list at any) values)) (kept ∙ old)
    ∙ set-get_or list at any)
    c.insert-added.ensures.err

pub returns-in-Few-clause-ok : goal.returns-in-Few-clause-ok
returns-in-Few-clause-ok c = grind (arith, common_steps)

pub returns-in-Few-clause-free : goal.returns-in-Few-clause-free
returns-in-Few-clause-free c = grind (arith, common_steps)

pub returns-in-Few-clause-err : goal.returns-in-Few-clause-err
returns-in-Few-clause-err c = grind (arith, common_steps)

pub returns-in-Few-clause-fault : goal.returns-in-Few-clause-fault
returns-in-Few-clause-fault c = grind (arith, common_steps)
