use Rattle.std.proofs.Common.{◌≡◌, ◌++◌, ◌∷◌, [], Some, ap, rules}
use Rattle.std.specs.Option.{option_map}
use Rattle.dir_names.specs.Inside.SortTexts.{rdn_sort}
use Rattle.dir_names.specs.NameKeys.{rdn_key}
use Rattle.dir_names.specs.Outcome.{ok_or_bad_dn}
use Rattle.dir_names.proofs.SortedNames.{only_fails, only_some}
use Rattle.dir_names.proofs.key.sort_key.put_only_pair.Goals as goal

pub returns-in-Ok : goal.returns-in-Ok
returns-in-Ok c =
    let old = c.args.out.now.items in
    let key : rdn_key c.args.schema.now (c.args.pair.now ∷ []) ≡ Some (c.in-Ok.key ∷ []) = only_some c.args.schema.now c.args.pair.now c.in-Ok.key c.in-Ok.ensures in
    rw (ap (λ o. ok_or_bad_dn (option_map (λ k. old ++ 1 ∷ rdn_sort k) o)) key) (search rules)

pub returns-in-Err : goal.returns-in-Err
returns-in-Err c = only_fails c.args.schema.now c.args.pair.now c.args.out.now.items c.in-Err.fault c.in-Err.ensures
