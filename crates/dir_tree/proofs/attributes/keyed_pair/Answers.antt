use Rattle.std.proofs.Common.{◌≡◌, true, List, Option, Some, None, is_some, Result, Ok, refl, sym, ap, subst, ◌∙◌}
use Rattle.std.proofs.lemmas.Result.{err_from_is_err_and}
use Rattle.dir_names.specs.declared.schema.TypeRow.{TypeRow}
use Rattle.dir_names.specs.declared.value.ValueKey.{ValueKey}
use Rattle.dir_names.specs.Described.{Described}
use Rattle.dir_names.specs.declared.fault.NameFault.{NameFault}
use Rattle.dir_names.specs.Outcome as names
use Rattle.dir_names.specs.Names.Sound.{is_sound_pair}
use Rattle.dir_names.specs.Descriptions.{description_of}
use Rattle.dir_names.specs.Names.{SpelledPair}
use Rattle.dir_names.specs.NameKeys.{attr_of, value_key_of}
use Rattle.dir_tree.specs.declared.lines.KeyedLine.{KeyedLine}
use Rattle.dir_tree.specs.NewEntry.{pair_line}
use Rattle.dir_tree.proofs.Faults.{only_memory}
use Rattle.dir_tree.proofs.OwnLines.{pair_described, pair_line_keyed}
use Rattle.dir_tree.proofs.attributes.keyed_pair.Goals as goal

some_of : {A : Type 0} (o : Option A) → is_some o ≡ true → (x : A) × (o ≡ Some x)
some_of None e = absurd (cc)
some_of (Some x) e = (x, refl)

-- the value of a pair that has a line has its key
value_keyed : (rows : List TypeRow) (p : SpelledPair) (d : Described) → is_sound_pair p ≡ true → is_some (pair_line rows p) ≡ true → description_of rows p.0 ≡ Ok d → (l : KeyedLine) × (pair_line rows p ≡ Some l) × (l ≡ record { description = d; key = l.key; bytes = p.1 }) × (value_key_of rows d.key p.1 ≡ Ok l.key)
value_keyed rows p d sound keyed read =
    let line = some_of (pair_line rows p) keyed in
    let is = pair_line_keyed rows p line.0 line.1 in
    let same : d ≡ record { spelling = p.0; key = attr_of rows p.0 } = ok_same (sym read ∙ pair_described rows p sound) in
    (line.0, line.1, (λ i. record { description = (is.0 ∙ sym same) i; key = line.0.key; bytes = is.2 i }), ap (λ (d : Described). value_key_of rows d.key p.1) same ∙ is.1)
  where
    ok_same : {a b : Described} → ◌≡◌ {A = Result Described NameFault} (Ok a) (Ok b) → a ≡ b
    ok_same e = cc

pub returns-in_err-description-clause-memory : goal.returns-in_err-description-clause-memory
returns-in_err-description-clause-memory c =
    let e = err_from_is_err_and c.from_residual.result c.from_residual.ensures.1 in
    rw e.1 (e.2 ∙ only_memory c.in_err-description.field-0.0 _ _ (pair_described c.args.schema.now c.args.pair.now c.requires.sound) (subst (λ text. names.IsNameFaultOf c.in_err-description.field-0.0 (description_of c.args.schema.now text)) c.as_slice.ensures c.in_err-description.ensures))

pub returns-in_err-key-clause-memory : goal.returns-in_err-key-clause-memory
returns-in_err-key-clause-memory c =
    let e = err_from_is_err_and c.from_residual-in_err-key.result c.from_residual-in_err-key.ensures.1 in
    let read : description_of c.args.schema.now c.args.pair.now.0 ≡ Ok c.in_ok-description.description = ap (description_of c.args.schema.now) (sym c.as_slice.ensures) ∙ c.in_ok-description.ensures in
    let line = value_keyed c.args.schema.now c.args.pair.now c.in_ok-description.description c.requires.sound c.requires.keyed read in
    rw e.1 (e.2 ∙ only_memory c.in_err-key.field-0.0 _ _ line.3 (subst (λ k. names.IsNameFaultOf c.in_err-key.field-0.0 (value_key_of c.args.schema.now k c.args.pair.now.1)) c.key.ensures (subst (λ b. names.IsNameFaultOf c.in_err-key.field-0.0 (value_key_of c.args.schema.now c.key.result.now b)) c.as_slice-2.ensures c.in_err-key.ensures)))

pub returns-clause-ok : goal.returns-clause-ok
returns-clause-ok c =
    let read : description_of c.args.schema.now c.args.pair.now.0 ≡ Ok c.in_ok-description.description = ap (description_of c.args.schema.now) (sym c.as_slice.ensures) ∙ c.in_ok-description.ensures in
    let line = value_keyed c.args.schema.now c.args.pair.now c.in_ok-description.description c.requires.sound c.requires.keyed read in
    let given : value_key_of c.args.schema.now c.in_ok-description.description.key c.args.pair.now.1 ≡ Ok c.in_ok-key.key = (λ i. value_key_of c.args.schema.now (sym c.key.ensures i) (sym c.as_slice-2.ensures i)) ∙ c.in_ok-key.ensures in
    let same : line.0.key ≡ c.in_ok-key.key = ok_key (sym line.3 ∙ given) in
    line.1 ∙ ap Some (line.2 ∙ ap (λ k. record { description = c.in_ok-description.description; key = k; bytes = c.args.pair.now.1 }) same)
  where
    ok_key : {a b : ValueKey} → ◌≡◌ {A = Result ValueKey NameFault} (Ok a) (Ok b) → a ≡ b
    ok_key e = cc
