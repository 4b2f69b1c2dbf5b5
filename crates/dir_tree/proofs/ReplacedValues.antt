-- Values that are taken out of an attribute of a list, and put back, changed or not.
use Rattle.std.proofs.Common.{◌≡◌, ℕ, ◌<◌, List, length, get_or, set, ap, ◌∙◌}
use Rattle.std.specs.Prelude.{OnErr, OnOk, Result, Ok, Err}
use Rattle.std.proofs.lemmas.List.{get_or-set_same, set-set}
use Rattle.dir_tree.specs.Content.{Keyed, StoredValues}
use Rattle.dir_tree.specs.Inside.AttributeLists.{with_values}

module _ (attributes : List Keyed) (at : ℕ) (there : at < length attributes) (a : Keyed) (out : StoredValues) where
  pub put_back : (values : StoredValues)
      → set (set attributes at (with_values (get_or attributes at a) out)) at (with_values (get_or (set attributes at (with_values (get_or attributes at a) out)) at a) values)
      ≡ set attributes at (with_values (get_or attributes at a) values)
  put_back values =
      ap (λ x. set (set attributes at (with_values (get_or attributes at a) out)) at (with_values x values)) (get_or-set_same attributes at (with_values (get_or attributes at a) out) a there)
      ∙ set-set attributes at _ _

pub ok_then : {A E P Q : Type 0} (r : Result A E) → (P → Q) → OnOk r P → OnOk r Q
ok_then (Ok x) next h = next h
ok_then (Err e) next h = tt

pub err_then : {A E P Q : Type 0} (r : Result A E) → (P → Q) → OnErr r P → OnErr r Q
err_then (Ok x) next h = tt
err_then (Err e) next h = next h
