use Rattle.std.proofs.Common.{◌≡◌, true, sym, subst, ◌∙◌, ℕ, List, rules}
use Rattle.std.specs.List.{insert}
use Rattle.std.specs.List.Sorted.{IsBinarySearchResult}
use Rattle.std.specs.Str.{str_to_ascii_lowercase}
use Rattle.std.proofs.lemmas.Fn.{always_returns_same}
use Rattle.dir_names.specs.Inside.TypeNames.{Gains, are_rising}
use Rattle.dir_names.specs.Orders.{bytes_cmp, bytes_cmp_total, bytes_eq}
use Rattle.dir_names.specs.Sorted.{place}
use Rattle.dir_names.proofs.IndexedNames.{gains_name, gains_nothing, rises_with_name}
use Rattle.dir_names.proofs.Placed.{so, keys_of, place_from_search}
use Rattle.dir_names.proofs.schema.index.insert.Goals as goal

pub returns-in_ok-insert-clause-rising : goal.returns-in_ok-insert-clause-rising
returns-in_ok-insert-clause-rising c =
    let names = c.args.names.now.items in
    let by = c.binary_search_by.ensures.position (λ e. bytes_cmp e.0 c.args.name) (always_returns_same _ _ _ (λ a r f called. search rules)) in
    let found = subst (λ xs. IsBinarySearchResult (λ e. bytes_cmp e.0 c.args.name) xs c.binary_search_by.result) c.deref.ensures.value by in
    let at : c.binary_search_by.result ≡ place bytes_cmp c.args.name (keys_of bytes_cmp names) = place_from_search bytes_cmp_total (λ (e : List ℕ × ℕ). e.0) c.args.name names c.binary_search_by.result (so _ c.requires) (search rules) found in
    let items : c.insert.new.self.items ≡ insert names c.in-Err.at (c.args.name, c.args.row) = search rules in
    subst (λ es. are_rising es ≡ true) (sym items) (rises_with_name names c.requires c.args.name c.args.row c.in-Err.at (sym at ∙ c.in-Err.is))

pub returns-in_ok-insert-clause-gains : goal.returns-in_ok-insert-clause-gains
returns-in_ok-insert-clause-gains c =
    let names = c.args.names.now.items in
    let by = c.binary_search_by.ensures.position (λ e. bytes_cmp e.0 c.args.name) (always_returns_same _ _ _ (λ a r f called. search rules)) in
    let found = subst (λ xs. IsBinarySearchResult (λ e. bytes_cmp e.0 c.args.name) xs c.binary_search_by.result) c.deref.ensures.value by in
    let at : c.binary_search_by.result ≡ place bytes_cmp c.args.name (keys_of bytes_cmp names) = place_from_search bytes_cmp_total (λ (e : List ℕ × ℕ). e.0) c.args.name names c.binary_search_by.result (so _ c.requires) (search rules) found in
    let items : c.insert.new.self.items ≡ insert names c.in-Err.at (c.args.name, c.args.row) = search rules in
    subst (Gains (λ t. bytes_eq c.args.name (str_to_ascii_lowercase t)) c.args.row names) (sym items) (gains_name names c.requires c.args.name c.args.row c.in-Err.at (sym at ∙ c.in-Err.is))

pub returns-in_default-clause-gains : goal.returns-in_default-clause-gains
returns-in_default-clause-gains c =
    let names = c.args.names.now.items in
    let by = c.binary_search_by.ensures.position (λ e. bytes_cmp e.0 c.args.name) (always_returns_same _ _ _ (λ a r f called. search rules)) in
    let found = subst (λ xs. IsBinarySearchResult (λ e. bytes_cmp e.0 c.args.name) xs c.binary_search_by.result) c.deref.ensures.value by in
    let at : c.binary_search_by.result ≡ place bytes_cmp c.args.name (keys_of bytes_cmp names) = place_from_search bytes_cmp_total (λ (e : List ℕ × ℕ). e.0) c.args.name names c.binary_search_by.result (so _ c.requires) (search rules) found in
    gains_nothing names c.requires c.args.name c.args.row c.in_default.field-0 (sym at ∙ c.in_default.is)
