use Rattle.std.proofs.Common.{ℕ, List, rules}
use Rattle.std.specs.Str.{str_to_ascii_lowercase}
use Rattle.std.proofs.lemmas.Fn.{always_returns_same}
use Rattle.dir_names.specs.Orders.{bytes_cmp, bytes_cmp_total}
use Rattle.dir_names.proofs.Placed.{so, place_from_search}
use Rattle.dir_names.proofs.schema.index.place_of.Goals as goal

pub returns-clause-place : goal.returns-clause-place
returns-clause-place c =
    let low = str_to_ascii_lowercase c.args.text.now in
    let by = c.binary_search_by.ensures.position (λ e. bytes_cmp e.0 low) (always_returns_same _ _ _ (λ a r f called. search rules)) in
    place_from_search bytes_cmp_total (λ (e : List ℕ × ℕ). e.0) low c.args.names.now c.binary_search_by.result (so _ c.requires) (search rules) by
