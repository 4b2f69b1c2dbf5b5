use Rattle.std.proofs.Common.{[], sym, ◌∙◌, rules}
use Rattle.std.specs.List.{filter}
use Rattle.std.proofs.lemmas.Fn.{always_returns_same}
use Rattle.dir_names.specs.Values.{value_key_cmp, value_key_cmp_total, value_key_cmp_ties}
use Rattle.dir_names.specs.declared.value.ValueKey.{ValueKey}
use Rattle.dir_tree.specs.declared.lines.KeyedLine.{KeyedLine}
use Rattle.dir_tree.proofs.StableSorts.{before, weak_by, stable_by}
use Rattle.dir_tree.proofs.lines.sort_by_value.Goals as goal

pub returns-clause-stable : goal.returns-clause-stable
returns-clause-stable c v =
    let of : KeyedLine → ValueKey = λ l. l.key in
    let like : KeyedLine = record { description = record { spelling = []; key = record { attr_type = []; options = [] } }; key = v; bytes = [] } in
    let stable = c.sort_by.ensures.stable (before value_key_cmp value_key_cmp_total of) (weak_by value_key_cmp value_key_cmp_total of) (always_returns_same _ _ _ (λ a r f called. search rules)) in
    (λ i. filter (λ l. value_key_cmp_ties v (of l) i) c.sort_by.new.self.items) ∙ stable_by value_key_cmp value_key_cmp_total of c.args.lines.now.items c.sort_by.new.self.items stable like ∙ (λ i. filter (λ l. sym (value_key_cmp_ties v (of l)) i) c.args.lines.now.items)
