use Rattle.std.proofs.Common.{◌≡◌, [], Ok, rules, sym}
use Rattle.std.proofs.lemmas.List.{append-nil}
use Rattle.dir_names.specs.declared.value.ValueKey.TheVariants.{Name}
use Rattle.dir_names.specs.NameKeys.{value_key_of}
use Rattle.dir_names.proofs.key.recent.RecentNames.push_value_key.Goals as goal

pub returns-in_ok-read-in-Name-clause-key : goal.returns-in_ok-read-in-Name-clause-key
returns-in_ok-read-in-Name-clause-key c =
    let key : value_key_of c.args.schema.now c.args.attr.now c.args.value.now ≡ Ok (Name c.in_ok-read-in-Name.field-0) = search rules in
    ([], sym (append-nil c.args.text.now.items), key)
