use Rattle.std.proofs.Common.{◌≡◌, ℕ, List, Ok, Result, ap, rules, subst, sym, ◌∙◌}
use Rattle.std.specs.Str.{str_to_ascii_lowercase}
use Rattle.dir_names.specs.declared.fault.NameFault.{NameFault}
use Rattle.dir_names.specs.Inside.ShortKeys.{IsKeyByWay}
use Rattle.dir_names.specs.ValueKeys.{text_key_of}
use Rattle.dir_names.specs.ValueKeys.Spaces.{without_extra_spaces, without_spaces_and_hyphens}
use Rattle.dir_names.proofs.ShortKeys.{case_key, ia5_key, telephone_key}
use Rattle.dir_names.proofs.value.pushed.way_of.Goals as goal

pub returns-in-CaseIgnore : goal.returns-in-CaseIgnore
returns-in-CaseIgnore c =
    let value = c.args.value.now in
    let key : text_key_of c.args.rule value ≡ Ok (without_extra_spaces (str_to_ascii_lowercase value)) = ap (λ rule. text_key_of rule value) c.in-CaseIgnore.is ∙ case_key value (sym c.is_ascii.ensures ∙ c.if-is_ascii.true) (search rules) in
    subst (λ (wanted : Result (List ℕ) NameFault). IsKeyByWay wanted value c.way_to_squeezed.result) (sym key) c.way_to_squeezed.ensures

pub returns-in-Ia5CaseIgnore : goal.returns-in-Ia5CaseIgnore
returns-in-Ia5CaseIgnore c =
    let value = c.args.value.now in
    let key : text_key_of c.args.rule value ≡ Ok (without_extra_spaces (str_to_ascii_lowercase value)) = ap (λ rule. text_key_of rule value) c.in-Ia5CaseIgnore.is ∙ ia5_key value (search rules) in
    subst (λ (wanted : Result (List ℕ) NameFault). IsKeyByWay wanted value c.way_to_squeezed-in-Ia5CaseIgnore.result) (sym key) c.way_to_squeezed-in-Ia5CaseIgnore.ensures

pub returns-in-Telephone : goal.returns-in-Telephone
returns-in-Telephone c =
    let value = c.args.value.now in
    let key : text_key_of c.args.rule value ≡ Ok (without_spaces_and_hyphens (str_to_ascii_lowercase value)) = ap (λ rule. text_key_of rule value) c.in-Telephone.is ∙ telephone_key value (search rules) (sym c.is_ascii-then-not-is_empty-2.ensures ∙ c.if-is_ascii-2.true) in
    subst (λ (wanted : Result (List ℕ) NameFault). IsKeyByWay wanted value c.way_to_dialed.result) (sym key) c.way_to_dialed.ensures
