use Rattle.std.proofs.Common.{◌≡◌, ap, sym, subst, ◌∙◌, Ok, rules}
use Rattle.std.specs.List.Sorted.{IsBinarySearchResult}
use Rattle.dir_names.specs.Sorted.{place}
use Rattle.dir_names.specs.Orders.{bytes_cmp, bytes_cmp_total}
use Rattle.dir_names.proofs.Placed.{so, place_from_key_search, member-place, member_at}
use Rattle.dir_names.proofs.attribute.options.insert_option.Goals as goal

pub returns-in_ok-insert : goal.returns-in_ok-insert
returns-in_ok-insert c =
    let options = c.args.options.now.items in
    let found = subst (λ xs. IsBinarySearchResult (λ y. bytes_cmp y c.args.option) xs c.binary_search.result) c.deref.ensures.value c.binary_search.ensures.position in
    let at : c.binary_search.result ≡ place bytes_cmp c.args.option options = place_from_key_search bytes_cmp_total c.args.option options c.binary_search.result (so _ c.requires) (search rules) found in
    ap Ok (member-place bytes_cmp c.args.option options ∙ ap (λ r. member_at bytes_cmp r c.args.option options) (sym at ∙ c.in-Err.is) ∙ search rules)

pub returns-in_default : goal.returns-in_default
returns-in_default c =
    let options = c.args.options.now.items in
    let at : c.binary_search.result ≡ place bytes_cmp c.args.option options = place_from_key_search bytes_cmp_total c.args.option options c.binary_search.result (so _ c.requires) (search rules) (search rules) in
    ap Ok (member-place bytes_cmp c.args.option options ∙ ap (λ r. member_at bytes_cmp r c.args.option options) (sym at ∙ c.in_default.is))
