use Rattle.std.proofs.Common.{◌≡◌, ℕ, List, Some, true, false, ap, sym, ◌∙◌, rules}
use Rattle.dir_names.specs.declared.schema.TypeRow.{TypeRow}
use Rattle.dir_names.specs.declared.schema.scope.Scope.TheVariants.{EachSchema}
use Rattle.dir_names.specs.Inside.Scopes.{has_builtin_types}
use Rattle.dir_names.specs.Keys.{DnKeys}
use Rattle.dir_names.specs.NameKeys.{name_key}
use Rattle.dir_names.specs.Names.Reading.{pieces, rdn_of}
use Rattle.dir_names.specs.Results.{option_collect}
use Rattle.dir_names.specs.Table.Builtin.{builtin_rows}
use Rattle.dir_names.specs.Types.Adding.{KeepsTypes}
use Rattle.dir_names.proofs.AllLemmas.{ok_some}
use Rattle.dir_names.proofs.KnownParents.{spelled_rdns}
use Rattle.dir_names.proofs.Scopes.{fixed_key}
use Rattle.dir_names.proofs.name.reader.KnownParent.read.Goals as goal

pub invariant_of-result : goal.invariant_of-result
invariant_of-result c =
    let asked = c.args.schema.now in
    let name = c.in_ok-name.name in
    let items : c.in_ok-text.text.items ≡ c.args.text.now = search rules in
    let shared : c.in_ok-key.key ≡ c.in_ok-key-2.key.value = search rules in
    let rdns : c.rdns.result.now ≡ name = search rules in
    let each : c.scope_of_rdns.result ≡ EachSchema = search rules in
    let types : has_builtin_types name ≡ true = ap has_builtin_types (sym rdns) ∙ c.scope_of_rdns.ensures each in
    record {
      spelled = ap (λ (t : List ℕ). option_collect rdn_of (pieces 44 false t)) items ∙ spelled_rdns c.args.text.now name c.requires c.in_ok-name.ensures.read;
      keyed = λ (rows : List TypeRow) (keeps : KeepsTypes builtin_rows rows). fixed_key rows asked keeps c.keeps_builtin_types.ensures name types ∙ ok_some (name_key asked name) c.in_ok-key.key c.in_ok-key.ensures ∙ ap (λ (k : DnKeys). Some k) shared;
    }
