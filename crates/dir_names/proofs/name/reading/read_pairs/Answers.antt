use Rattle.std.proofs.Common.{◌≡◌, [], ◌∷◌, ◌++◌, Some, false, ap, ◌∙◌, arith, rules}
use Rattle.std.specs.Option.{option_copied}
use Rattle.std.proofs.lemmas.List.{append-nil}
use Rattle.dir_names.specs.Inside.Few.{few_items}
use Rattle.dir_names.specs.Names.Reading.{pair_of, rdn_of, pieces}
use Rattle.dir_names.specs.Inside.Left.{pieces_left}
use Rattle.dir_names.specs.Results.{option_collect}
use Rattle.dir_names.proofs.AllLemmas.{prefixed, ok_some, all_more}
use Rattle.dir_names.proofs.SoundLemmas.{bytes_from_fits, sound_rdn}
use Rattle.dir_names.proofs.name.reading.read_pairs.Goals as goal

pub loop-rest-preserved : goal.loop-rest-preserved
loop-rest-preserved c =
    let parted : pieces_left 43 (option_copied c.loop-rest.rest) ≡ c.split_at_plus.result.0.now ∷ pieces_left 43 (option_copied c.split_at_plus.result.1) = search rules in
    let so_far = c.loop-rest.invariant ∙ ap (λ ps. prefixed (few_items c.loop-rest.pairs) (option_collect pair_of ps)) parted in
    let read = ok_some (pair_of c.split_at_plus.result.0.now) c.in_ok-read_pair.field-0 c.in_ok-read_pair.ensures in
    let longer : few_items c.in_ok-pairs.pairs ≡ few_items c.loop-rest.pairs ++ c.in_ok-read_pair.field-0 ∷ [] = search rules in
    rw longer (all_more pair_of (pieces 43 false c.args.text.now) (few_items c.loop-rest.pairs) c.split_at_plus.result.0.now (pieces_left 43 (option_copied c.split_at_plus.result.1)) so_far c.in_ok-read_pair.field-0 read)

pub returns-clause-sound : goal.returns-clause-sound
returns-clause-sound c =
    let read : rdn_of c.args.text.now ≡ Some (few_items c.loop-rest.pairs) =
    c.loop-rest.invariant ∙ ap (λ r. prefixed (few_items c.loop-rest.pairs) (option_collect pair_of (pieces_left 43 (option_copied r)))) c.in_default.is ∙ ap Some (append-nil (few_items c.loop-rest.pairs)) in
    sound_rdn c.args.text.now (few_items c.loop-rest.pairs) (bytes_from_fits c.args.text.now (λ i. omega (arith, c.type_inv.text i))) read
