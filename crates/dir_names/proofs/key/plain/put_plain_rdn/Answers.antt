use Rattle.std.proofs.Common.{◌≡◌, true, nat_le, length, ◌∷◌, ◌++◌, sym, ap, ◌∙◌, arith, rules}
use Rattle.std.proofs.lemmas.Bool.Decides.{nat_tests}
use Rattle.dir_names.specs.Names.{SpelledPair}
use Rattle.dir_names.specs.Names.Printing.{printed_pair, printed_value}
use Rattle.dir_names.specs.Names.Sound.{is_sound_pair}
use Rattle.dir_names.proofs.PlainNames.{bytes_after, legal_pair}
use Rattle.dir_names.proofs.ScopedNames.{rdn_within}
use Rattle.dir_names.proofs.SoundLemmas.{are_bytes, bytes_from_fits}
use Rattle.dir_names.proofs.key.plain.put_plain_rdn.Goals as goal

pub returns : goal.returns
returns c =
    let pair : SpelledPair = (c.in-Some.attr_type.now, c.in-Some.value.now) in
    let plain : printed_value pair.1 ≡ pair.1 = search rules in
    let cut : c.args.piece.now ≡ pair.0 ++ 61 ∷ pair.1 = search rules in
    let piece : c.args.piece.now ≡ printed_pair pair = cut ∙ ap (λ v. pair.0 ++ 61 ∷ v) (sym plain) in
    let bytes : are_bytes c.args.piece.now ≡ true = bytes_from_fits c.args.piece.now (λ i. omega (arith, c.type_inv.piece i)) in
    let value : are_bytes pair.1 ≡ true = bytes_after pair.0 pair.1 61 (ap are_bytes (sym cut) ∙ bytes) in
    let sound : is_sound_pair pair ≡ true = legal_pair pair.0 pair.1 (search rules) (search rules) value in
    let small : nat_le (length c.args.piece.now) 4096 ≡ true = grind (arith, nat_tests) in
    rdn_within c.args.schema.now c.keeps_builtin_types.ensures pair c.args.piece.now c.args.out.now.items c.put_plain_pair.new.out.items piece sound small c.put_plain_pair.result c.put_plain_pair.ensures.put c.put_plain_pair.ensures.scope
