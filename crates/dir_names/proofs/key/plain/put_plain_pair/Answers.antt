use Rattle.std.proofs.Common.{◌≡◌, ℕ, List, [], ◌∷◌, ◌++◌, Ok, sym, ap, subst, ◌∙◌, rules}
use Rattle.std.specs.Str.{str_to_ascii_lowercase}
use Rattle.dir_names.specs.Attr.{Attr}
use Rattle.dir_names.specs.Inside.Frequent.{IsFrequentType}
use Rattle.dir_names.specs.Inside.SortKeys.{IsKeyLowercase}
use Rattle.dir_names.specs.Inside.SortTexts.{rdn_sort}
use Rattle.dir_names.specs.NameKeys.{attr_of}
use Rattle.dir_names.specs.Table.{rule_of}
use Rattle.dir_names.specs.ValueKeys.{text_key_of}
use Rattle.dir_names.proofs.KeyLemmas.{pair_is}
use Rattle.dir_names.proofs.key.plain.put_plain_pair.Goals as goal

pub returns-in-Ok-clause-put : goal.returns-in-Ok-clause-put
returns-in-Ok-clause-put c =
    let rows = c.args.schema.now in
    let value = c.args.value.now in
    let low = str_to_ascii_lowercase value in
    let frequent : IsFrequentType rows c.in-Some.frequent.now = search rules in
    let text : c.in-Some.frequent.now.text ≡ c.args.attr_type.now = search rules in
    let attr : attr_of rows c.args.attr_type.now ≡ c.in-Some.frequent.now.description.key = ap (attr_of rows) (sym text) ∙ frequent.0.1 in
    let lower : IsKeyLowercase c.in-Some.frequent.now.rule value = search rules in
    let keyed : text_key_of (rule_of rows (attr_of rows c.args.attr_type.now)) value ≡ Ok low = ap (λ r. text_key_of r value) (ap (rule_of rows) attr ∙ frequent.1) ∙ lower.0 in
    let pair : Attr × List ℕ = (c.in-Some.frequent.now.description.key, low) in
    let key = pair_is rows (c.args.attr_type.now, value) low keyed ∙ ap (λ a. Ok (a, low)) attr in
    let same : c.key.result.now ≡ c.in-Some.frequent.now.description.key = search rules in
    let appended : Attr → Type 0 = λ a. c.put_lowercase_pair.new.out.items ≡ c.args.out.now.items ++ 1 ∷ rdn_sort ((a, low) ∷ []) in
    let put : appended c.key.result.now = search rules in
    (pair, key, subst appended same put)
