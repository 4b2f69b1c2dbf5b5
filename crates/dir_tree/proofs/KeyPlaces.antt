-- A map has a key exactly if a search for its place finds it.
use Rattle.std.proofs.Common.{◌≡◌, ℕ, true, List, [], refl, sym, ap, is_some, Result, Ok, Err}
use Rattle.std.specs.FinMap as fin
use Rattle.std.specs.Result.{is_ok}
use Rattle.dir_names.specs.Sorted.{place}
use Rattle.dir_names.specs.Values.{value_key_cmp, value_key_cmp_total}
use Rattle.dir_names.specs.declared.value.ValueKey.{ValueKey}
use Rattle.dir_tree.specs.Inside.Stored.{value_pair, are_rising, values_in}
use Rattle.dir_tree.proofs.SortedVecs.{got, missing, keys_in}

-- a place that is there is that of a value
pub told : (items : List (ValueKey × List ℕ)) → are_rising items ≡ true → (k : ValueKey) (r : Result ℕ ℕ) → r ≡ place value_key_cmp k (keys_in value_key_cmp_total value_pair items) → is_ok r ≡ is_some (fin.get (values_in items) k)
told items t k (Ok i) at = sym (ap is_some (got value_key_cmp_total value_pair items t k (Ok i) at i refl (k, [])))
told items t k (Err i) at = sym (ap is_some (missing value_key_cmp_total value_pair items t k (Err i) at i refl []))
