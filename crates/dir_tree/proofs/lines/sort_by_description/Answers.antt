use Rattle.std.proofs.Common.{[], sym, ◌∙◌, rules}
use Rattle.std.specs.List.{filter}
use Rattle.std.proofs.lemmas.Fn.{always_returns_same}
use Rattle.dir_names.specs.Attr.{Attr}
use Rattle.dir_names.specs.Orders.{attr_cmp, attr_cmp_total, attr_cmp_ties}
use Rattle.dir_names.specs.declared.value.ValueKey.TheVariants.{Text}
use Rattle.dir_tree.specs.declared.lines.KeyedLine.{KeyedLine}
use Rattle.dir_tree.proofs.StableSorts.{before, weak_by, stable_by}
use Rattle.dir_tree.proofs.lines.sort_by_description.Goals as goal

pub returns-clause-stable : goal.returns-clause-stable
returns-clause-stable c k =
    let of : KeyedLine → Attr = λ l. l.description.key in
    let like : KeyedLine = record { description = record { spelling = []; key = k }; key = Text []; bytes = [] } in
    let stable = c.sort_by.ensures.stable (before attr_cmp attr_cmp_total of) (weak_by attr_cmp attr_cmp_total of) (always_returns_same _ _ _ (λ a r f called. search rules)) in
    (λ i. filter (λ l. attr_cmp_ties k (of l) i) c.sort_by.new.self.items) ∙ stable_by attr_cmp attr_cmp_total of c.args.lines.now.items c.sort_by.new.self.items stable like ∙ (λ i. filter (λ l. sym (attr_cmp_ties k (of l)) i) c.args.lines.now.items)
