use Rattle.std.proofs.Common.{◌≡◌, ◌∷◌, ◌++◌, [], List, cond, true, map, ap, sym, ◌∙◌, rules}
use Rattle.std.proofs.lemmas.List.{map-append}
use Rattle.dir_ldif.specs.RecordGrammar.{is_keyword}
use Rattle.dir_conf.specs.CnConfig.Records.{numbered_value}
use Rattle.dir_conf.specs.CnConfig.Values.{Numbered, numbered}
use Rattle.dir_conf.proofs.cn_config.records.push_if_named.Goals as goal

pub returns-in_ok-push-clause-found : goal.returns-in_ok-push-clause-found
returns-in_ok-push-clause-found c =
    let before : List Numbered = map numbered c.args.found.now.items in
    let value : numbered c.in_ok-value_in.field-0 ≡ numbered_value c.args.attribute.now = search rules in
    let is_one : is_keyword c.args.attribute.now.name c.args.name.now ≡ true = search rules in
    ap (map numbered) c.in_ok-push.ensures.items
    ∙ map-append numbered c.args.found.now.items (c.in_ok-value_in.field-0 ∷ [])
    ∙ ap (λ v. before ++ v ∷ []) value
    ∙ ap (λ t. before ++ cond t (numbered_value c.args.attribute.now ∷ []) []) (sym is_one)
