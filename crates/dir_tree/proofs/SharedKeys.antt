-- Two values of the rule Name that are spelled alike have one key.
use Rattle.std.proofs.Common.{◌≡◌, ℕ, List, Result, Ok, Err, sym, ◌∙◌}
use Rattle.dir_names.specs.Attr.{Attr}
use Rattle.dir_names.specs.Keys.{DnKeys}
use Rattle.dir_names.specs.NameKeys.{as_text, value_key_by, value_key_of}
use Rattle.dir_names.specs.Table.{rule_of}
use Rattle.dir_names.specs.ValueKeys.{text_key_of}
use Rattle.dir_names.specs.declared.fault.NameFault.{NameFault}
use Rattle.dir_names.specs.declared.schema.Rule.{Rule}
use Rattle.dir_names.specs.declared.schema.Rule.TheVariants as rule
use Rattle.dir_names.specs.declared.schema.TypeRow.{TypeRow}
use Rattle.dir_names.specs.declared.value.ValueKey.TheVariants as key

text_is_no_name : (t : Result (List ℕ) NameFault) (n : DnKeys) → as_text t ≡ Ok (key.Name n) → ⊥
text_is_no_name (Ok text) n e = absurd (cc)
text_is_no_name (Err fault) n e = absurd (cc)

module _ (rows : List TypeRow) (v : List ℕ) (n : DnKeys) where
  under_name : (r : Rule) → value_key_by rows r v ≡ Ok (key.Name n) → value_key_by rows rule.Name v ≡ Ok (key.Name n)
  under_name rule.Octet e = absurd (text_is_no_name (text_key_of rule.Octet v) n e)
  under_name rule.CaseIgnore e = absurd (text_is_no_name (text_key_of rule.CaseIgnore v) n e)
  under_name rule.Ia5CaseIgnore e = absurd (text_is_no_name (text_key_of rule.Ia5CaseIgnore v) n e)
  under_name rule.Ia5CaseExact e = absurd (text_is_no_name (text_key_of rule.Ia5CaseExact v) n e)
  under_name rule.Telephone e = absurd (text_is_no_name (text_key_of rule.Telephone v) n e)
  under_name rule.Integer e = absurd (text_is_no_name (text_key_of rule.Integer v) n e)
  under_name rule.Name e = e
  under_name rule.ObjectId e = absurd (text_is_no_name (text_key_of rule.ObjectId v) n e)

  pub shared_key : (a b : Attr) (w : List ℕ) → value_key_of rows a v ≡ Ok (key.Name n) → rule_of rows b ≡ rule.Name → v ≡ w → value_key_of rows b w ≡ Ok (key.Name n)
  shared_key a b w has named same = (λ i. value_key_by rows (named i) (sym same i)) ∙ under_name (rule_of rows a) has
