use Rattle.std.proofs.Common.{◌≡◌, ap, length, sym, subst, ◌∙◌, rules}
use Rattle.std.specs.List.Sorted.{IsBinarySearchResult, IsSearchInRange}
use Rattle.dir_names.specs.Sorted.{place}
use Rattle.dir_names.specs.Orders.{attr_cmp, attr_cmp_total}
use Rattle.dir_names.proofs.Placed.{so, place_from_key_search, member-place, member_at}
use Rattle.dir_change.proofs.difference.insert_key.Goals as goal

pub returns-in_ok-insert-clause-ok : goal.returns-in_ok-insert-clause-ok
returns-in_ok-insert-clause-ok c =
    let keys = c.args.keys.now.items in
    let found = subst (λ xs. IsBinarySearchResult (λ y. attr_cmp y c.args.key.now) xs c.binary_search.result) c.deref.ensures.value c.binary_search.ensures.position in
    let range = subst (λ xs. IsSearchInRange c.binary_search.result (length xs)) c.deref.ensures.value c.binary_search.ensures.bound in
    let at : c.binary_search.result ≡ place attr_cmp c.args.key.now keys = place_from_key_search attr_cmp_total c.args.key.now keys c.binary_search.result (so _ c.requires) range found in
    sym (member-place attr_cmp c.args.key.now keys ∙ ap (λ r. member_at attr_cmp r c.args.key.now keys) (sym at ∙ c.in-Err.is) ∙ search rules)

pub returns-in_default-clause-ok : goal.returns-in_default-clause-ok
returns-in_default-clause-ok c =
    let keys = c.args.keys.now.items in
    let found = subst (λ xs. IsBinarySearchResult (λ y. attr_cmp y c.args.key.now) xs c.binary_search.result) c.deref.ensures.value c.binary_search.ensures.position in
    let range = subst (λ xs. IsSearchInRange c.binary_search.result (length xs)) c.deref.ensures.value c.binary_search.ensures.bound in
    let at : c.binary_search.result ≡ place attr_cmp c.args.key.now keys = place_from_key_search attr_cmp_total c.args.key.now keys c.binary_search.result (so _ c.requires) range found in
    sym (member-place attr_cmp c.args.key.now keys ∙ ap (λ r. member_at attr_cmp r c.args.key.now keys) (sym at ∙ c.in_default.is))
