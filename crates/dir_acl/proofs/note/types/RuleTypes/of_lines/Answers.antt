use Rattle.std.proofs.Common.{◌≡◌, ℕ, suc, ◌+◌, Bool, true, false, List, ◌∷◌, drop, refl, sym, ap, ◌∙◌, arith}
use Rattle.std.specs.Prelude.{◌||◌}
use Rattle.std.specs.List.{list_any}
use Rattle.std.proofs.Math.Seq.{drop-cons}
use Rattle.std.proofs.lemmas.List.{drop_all}
use Rattle.dir_names.specs.Attr.{Attr}
use Rattle.dir_names.specs.declared.schema.TypeRow.{TypeRow}
use Rattle.dir_conf_text.specs.declared.text.ConfigLine.{ConfigLine}
use Rattle.dir_acl.specs.Inside.NotedTypes.{noted_by}
use Rattle.dir_acl.specs.Notes.Supertypes.{NotedTypes, derives_from, noted_types}
use Rattle.dir_acl.proofs.note.types.RuleTypes.of_lines.Goals as goal

or_false : (b : Bool) → b ≡ (b || false)
or_false true = refl
or_false false = refl

or_assoc : (a b c : Bool) → ((a || b) || c) ≡ (a || (b || c))
or_assoc true b c = refl
or_assoc false b c = refl

same_types : (one another : NotedTypes) → one.rows ≡ another.rows → ((attr : Attr) → one.has_subtypes attr ≡ another.has_subtypes attr) → one ≡ another
same_types one another e h = λ i. record { rows = e i; has_subtypes = λ attr. h attr i }

pub loop-line-preserved : goal.loop-line-preserved
loop-line-preserved c =
    let rows : List TypeRow = c.args.schema.now in
    let lines : List ConfigLine = c.args.lines.now in
    let i : ℕ = c.loop-line.line-index in
    let line : ConfigLine = c.line-item.result in
    let more : drop i lines ≡ line ∷ drop (suc i) lines = drop-cons lines i line c.loop-line-test.true ∙ ap (λ (first : ConfigLine). first ∷ drop (suc i) lines) (sym c.line-item.is) in
    let next : i + 1 ≡ suc i = omega arith in
    let was : Attr → Bool = (noted_by c.loop-line.types).has_subtypes in (
      c.in_ok-add_line.ensures.types.0 ∙ c.loop-line.invariant.0,
      λ attr.
          ap (λ (n : ℕ). (noted_by c.add_line.new.self).has_subtypes attr || list_any (λ (line : ConfigLine). derives_from rows attr line.said) (drop n lines)) next
          ∙ ap (λ b. b || list_any (λ (line : ConfigLine). derives_from rows attr line.said) (drop (suc i) lines))
          (c.in_ok-add_line.ensures.types.1 attr ∙ ap (λ (r : List TypeRow). was attr || derives_from r attr line.said) c.loop-line.invariant.0)
          ∙ or_assoc (was attr) (derives_from rows attr line.said) (list_any (λ (line : ConfigLine). derives_from rows attr line.said) (drop (suc i) lines))
          ∙ ap (λ (rest : List ConfigLine). was attr || list_any (λ (line : ConfigLine). derives_from rows attr line.said) rest) (sym more)
          ∙ c.loop-line.invariant.1 attr,
    )

pub returns-clause-types : goal.returns-clause-types
returns-clause-types c =
    let found : Attr → Bool = (noted_by c.loop-line.types).has_subtypes in
    let lines : List ConfigLine = c.args.lines.now in
    same_types (noted_by c.loop-line.types) (noted_types c.args.schema.now lines) c.loop-line.invariant.0
    (λ attr.
    or_false (found attr)
    ∙ ap (λ (rest : List ConfigLine). found attr || list_any (λ (line : ConfigLine). derives_from c.args.schema.now attr line.said) rest) (sym (drop_all c.loop-line.line-index lines c.loop-line-test.false))
    ∙ c.loop-line.invariant.1 attr)
