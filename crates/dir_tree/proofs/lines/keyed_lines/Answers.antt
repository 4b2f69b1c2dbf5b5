use Rattle.std.proofs.Common.{◌≡◌, ◌∷◌, [], Some, rules, arith, subst, sym, ap, ◌∙◌}
use Rattle.std.specs.List.{All}
use Rattle.std.specs.Option.{option_map}
use Rattle.std.specs.Result.{result_ok}
use Rattle.std.proofs.lemmas.List.Elements.{All-append, All-cons}
use Rattle.dir_names.specs.Results.{option_collect}
use Rattle.dir_names.proofs.AllLemmas.{all_more, prefixed}
use Rattle.dir_tree.specs.declared.lines.KeyedLine.{KeyedLine}
use Rattle.dir_tree.specs.Inside.Arranged.{HasKey}
use Rattle.dir_tree.specs.NewEntry.{keyed_line, keyed_lines}
use Rattle.dir_tree.proofs.lines.keyed_lines.Goals as goal

pub loop-description-preserved : goal.loop-description-preserved
loop-description-preserved c =
    let rows = c.args.schema.now in
    let done = c.loop-description.keyed.items in
    let next = c.next.new.self.rest.items in
    let line : KeyedLine = record { description = c.in-Some.description; key = c.in_ok-key.key; bytes = c.in-Some.bytes } in
    let has : HasKey rows line = search rules in
    let is : keyed_line rows (line.description, line.bytes) ≡ Some line = ap (λ r. option_map (λ key. record { description = line.description; key = key; bytes = line.bytes }) (result_ok r)) has in
    let so_far : keyed_lines rows c.args.lines ≡ prefixed done (option_collect (keyed_line rows) ((line.description, line.bytes) ∷ next)) = c.loop-description.invariant.0 ∙ ap (λ rest. prefixed done (option_collect (keyed_line rows) rest)) c.in-Some.ensures.steps.0 in (
      all_more (keyed_line rows) c.args.lines done (line.description, line.bytes) next so_far line is ∙ ap (λ items. prefixed items (option_collect (keyed_line rows) next)) (sym c.in_ok-push.ensures.items),
      subst (All (HasKey rows)) (sym c.in_ok-push.ensures.items) (All-append (HasKey rows) done (line ∷ []) c.loop-description.invariant.1 (All-cons (HasKey rows) line [] has (λ k d below. absurd (omega (arith, below))))),
    )
