use Rattle.std.proofs.Common.{◌≡◌, true, sym, ap, subst, ◌∙◌, rules}
use Rattle.std.specs.List.{insert}
use Rattle.std.specs.List.Sorted.{IsBinarySearchResult}
use Rattle.std.proofs.lemmas.Fn.{always_returns_same}
use Rattle.dir_names.specs.Inside.Few.{few_items}
use Rattle.dir_names.specs.Keys.{is_rdn_key, with_pair}
use Rattle.dir_names.specs.Orders.{attr_cmp}
use Rattle.dir_names.specs.Sorted.{place}
use Rattle.dir_names.proofs.Pairs.{pair_place, with_pair_twice, with_pair_new, rises_insert}
use Rattle.dir_names.proofs.Placed.{keys_of}
use Rattle.dir_names.proofs.key.PairSet.with.Goals as goal

pub invariant_of-result : goal.invariant_of-result
invariant_of-result c =
    let pairs = few_items c.self.inside.pairs in
    let by = c.binary_search_by.ensures.position (λ p. attr_cmp p.0 c.args.attr) (always_returns_same _ _ _ (λ a r f called. search rules)) in
    let found = subst (λ xs. IsBinarySearchResult (λ p. attr_cmp p.0 c.args.attr) xs c.binary_search_by.result) c.as_slice.ensures by in
    let at : c.binary_search_by.result ≡ place attr_cmp c.args.attr (keys_of attr_cmp pairs) = pair_place pairs c.args.attr c.binary_search_by.result c.self.invariant (search rules) found in
    let kept : is_rdn_key (insert pairs c.in-Err.at (c.args.attr, c.args.value)) ≡ true = rises_insert pairs c.self.invariant c.args.attr c.args.value _ at c.in-Err.at c.in-Err.is in
    search rules

pub returns-in-Ok : goal.returns-in-Ok
returns-in-Ok c =
    let pairs = few_items c.self.inside.pairs in
    let by = c.binary_search_by.ensures.position (λ p. attr_cmp p.0 c.args.attr) (always_returns_same _ _ _ (λ a r f called. search rules)) in
    let found = subst (λ xs. IsBinarySearchResult (λ p. attr_cmp p.0 c.args.attr) xs c.binary_search_by.result) c.as_slice.ensures by in
    let at : c.binary_search_by.result ≡ place attr_cmp c.args.attr (keys_of attr_cmp pairs) = pair_place pairs c.args.attr c.binary_search_by.result c.self.invariant (search rules) found in
    ap (with_pair c.args.attr c.args.value) (sym c.self.view_is) ∙ with_pair_twice pairs c.self.invariant c.args.attr c.args.value _ at c.in-Ok.field-0 c.in-Ok.is

pub returns-in_ok-with-in-Err : goal.returns-in_ok-with-in-Err
returns-in_ok-with-in-Err c =
    let pairs = few_items c.self.inside.pairs in
    let by = c.binary_search_by.ensures.position (λ p. attr_cmp p.0 c.args.attr) (always_returns_same _ _ _ (λ a r f called. search rules)) in
    let found = subst (λ xs. IsBinarySearchResult (λ p. attr_cmp p.0 c.args.attr) xs c.binary_search_by.result) c.as_slice.ensures by in
    let at : c.binary_search_by.result ≡ place attr_cmp c.args.attr (keys_of attr_cmp pairs) = pair_place pairs c.args.attr c.binary_search_by.result c.self.invariant (search rules) found in
    let new = with_pair_new pairs c.self.invariant c.args.attr c.args.value _ at c.in-Err.at c.in-Err.is in
    ap (with_pair c.args.attr c.args.value) (sym c.self.view_is) ∙ new ∙ search rules
