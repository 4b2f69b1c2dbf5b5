-- The codes of the types of `Content` and `Dir`, by which proofs tell their values apart.
use Rattle.std.specs.Prelude.{ℕ, List, refl}
use Rattle.std.specs.FinMap as fin
use Rattle.std.specs.Coded.{Coded, code_by, coded×, coded_list, coded_ℕ}
use Rattle.dir_names.specs.Attr.{Attr}
use Rattle.dir_names.specs.Keys.{DnKeys}
use Rattle.dir_names.specs.Orders.{dn_key_cmp}
use Rattle.dir_names.specs.contracts.value.ValueKey as value_key
use Rattle.dir_tree.specs.Content.{StoredValues, Stored, StoredAttributes, Keyed, Content}
use Rattle.dir_tree.specs.Dir.{Dir}

abbrev pub values_code : Coded StoredValues
values_code = fin.code value_key.the_row.coded (coded_list coded_ℕ)

abbrev pub attr_code : Coded Attr
attr_code = code_by (List ℕ × List (List ℕ)) (coded× (coded_list coded_ℕ) (coded_list (coded_list coded_ℕ))) (λ a. (a.attr_type, a.options)) (λ p. record { attr_type = p.0; options = p.1 }) (λ _. refl)

abbrev pub stored_code : Coded Stored
stored_code = code_by (List ℕ × StoredValues) (coded× (coded_list coded_ℕ) values_code) (λ a. (a.spelling, a.values)) (λ p. record { spelling = p.0; values = p.1 }) (λ _. refl)

abbrev pub keyed_code : Coded Keyed
keyed_code = code_by (Attr × Stored) (coded× attr_code stored_code) (λ a. (a.key, a.stored)) (λ p. record { key = p.0; stored = p.1 }) (λ _. refl)

abbrev pub attributes_code : Coded StoredAttributes
attributes_code = fin.code attr_code stored_code

abbrev pub content_code : Coded Content
content_code =
    code_by (List (List (List ℕ × List ℕ)) × (List (Attr × List ℕ) × StoredAttributes))
    (coded× (coded_list (coded_list (coded× (coded_list coded_ℕ) (coded_list coded_ℕ)))) (coded× (coded_list (coded× attr_code (coded_list coded_ℕ))) attributes_code))
    (λ c. (c.own, (c.key, c.attributes))) (λ p. record { own = p.0; key = p.1.0; attributes = p.1.1 }) (λ _. refl)

abbrev pub dir_code : Coded Dir
dir_code =
    code_by (DnKeys × fin.FinMap dn_key_cmp Content)
    (coded× (coded_list (coded_list (coded× attr_code (coded_list coded_ℕ)))) (fin.code (coded_list (coded_list (coded× attr_code (coded_list coded_ℕ)))) content_code))
    (λ d. (d.suffix, d.entries)) (λ p. record { suffix = p.0; entries = p.1 }) (λ _. refl)
