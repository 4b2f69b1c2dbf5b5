use Rattle.std.proofs.Common.{◌≡◌, Ok, Some, true, sym, ap, ◌∙◌, arith, rules}
use Rattle.dir_names.specs.Names.Printing.{printed_value}
use Rattle.dir_names.specs.Names.Reading.{value_of}
use Rattle.dir_names.specs.Outcome.{ok_or_bad_dn}
use Rattle.dir_names.specs.ValueKeys.Spaces.{without_leading_spaces}
use Rattle.dir_names.proofs.ReadValues.{value_back}
use Rattle.dir_names.proofs.SoundLemmas.{are_bytes, bytes_from_fits}
use Rattle.dir_names.proofs.name.reading.read_value_after.Goals as goal

pub returns-then-is_plain_value : goal.returns-then-is_plain_value
returns-then-is_plain_value c =
    let text = c.args.text.now in
    let plain : printed_value text ≡ text = c.is_plain_value.ensures c.if-is_plain_value.true in
    let bytes : are_bytes text ≡ true = bytes_from_fits text (λ i. omega (arith, c.type_inv.text i)) in
    let read : value_of (without_leading_spaces text) ≡ Some text = ap (λ t. value_of (without_leading_spaces t)) (sym plain) ∙ value_back text bytes in
    let copied : c.in_ok-to_vec.field-0.items ≡ text = search rules in
    ap ok_or_bad_dn read ∙ ap Ok (sym copied)
