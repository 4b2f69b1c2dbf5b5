-- A value written through a reference into an ordered map, seen as a finite map.
use Rattle.std.proofs.Common.{◌≡◌, cond, List, Option, Some, None, is_some, MutBor, refl, sym, ◌∙◌}
use Rattle.std.specs.declared.cmp.Ordering.{Ordering}
use Rattle.std.specs.Cmp.{IsTotalOrder, eq_by_cmp_equiv}
use Rattle.std.specs.Map.{lookup}
use Rattle.std.specs.BTreeMap.{is_at}
use Rattle.std.specs.Option.{option_copied_mut}
use Rattle.std.specs.FinMap as fin
use Rattle.std.specs.FinMap.{IsAntisymmetric, get-insert, same_map}
use Rattle.dir_names.proofs.Maps.{get_entries}

-- the clause of `get_mut` on the map that it leaves
pub one_written : {K X : Type 0} {R : K → K → Ordering} (o : IsTotalOrder R) → IsAntisymmetric R → (old new : List (K × X)) (k : K) (v : X) →
    ((q : K) → lookup (is_at (R q)) new ≡ cond (is_at (R k) q) (Some v) (lookup (is_at (R q)) old)) → fin.from_entries {R = R} new ≡ fin.insert (fin.from_entries old) k v
one_written o exact old new k v updates = same_map o exact _ _ (λ q.
    sym (get_entries o new q) ∙ updates q ∙ (λ i. cond ((eq_by_cmp_equiv o).symm k q i) (Some v) (get_entries o old q i)) ∙ sym (get-insert o (fin.from_entries old) k v q))

-- a reference is lent if there is a value
pub lent : {X : Type 0} (o : Option (MutBor X)) → is_some o ≡ is_some (option_copied_mut o)
lent None = refl
lent (Some r) = refl
