use Rattle.std.proofs.Common.{◌≡◌, [], ◌∷◌, ◌++◌, Ok, sym, ap, ◌∙◌, rules}
use Rattle.std.specs.Str.{str_to_ascii_lowercase}
use Rattle.dir_names.specs.Inside.SortTexts.{list_sort, text_sort}
use Rattle.dir_names.proofs.LowercaseKeys.{one_pair}
use Rattle.dir_names.proofs.SortOrder.{marked_plain}
use Rattle.dir_names.proofs.key.sorting.put_lowercase_pair.Goals as goal

pub returns : goal.returns
returns c =
    let old = c.args.out.now.items in
    let value = str_to_ascii_lowercase c.args.value.now in
    let attr_type = text_sort c.args.attr.now.attr_type in
    let options = list_sort text_sort c.args.attr.now.options in
    let begun : c.extend_from_slice.new.self.items ≡ old ++ 1 ∷ 1 ∷ [] = search rules in
    let typed : c.put_text.new.out.items ≡ c.extend_from_slice.new.self.items ++ attr_type = search rules in
    let with_options : c.put_options.new.out.items ≡ c.put_text.new.out.items ++ options = search rules in
    let valued : c.put_lowercase.new.out.items ≡ c.put_options.new.out.items ++ value = search rules in
    let ended : c.extend_from_slice-2.new.self.items ≡ c.put_lowercase.new.out.items ++ 0 ∷ 0 ∷ [] = search rules in
    let put = ended ∙ ap (λ l. l ++ 0 ∷ 0 ∷ []) (valued ∙ ap (λ l. l ++ value) (with_options ∙ ap (λ l. l ++ options) (typed ∙ ap (λ l. l ++ attr_type) begun))) in
    ap Ok (
    ap (λ v. old ++ 1 ∷ 1 ∷ (((attr_type ++ (options ++ (v ++ 0 ∷ []))) ++ []) ++ 0 ∷ [])) (marked_plain value c.requires)
    ∙ one_pair old attr_type options value
    ∙ sym put)
