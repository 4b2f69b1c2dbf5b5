-- Values that are added or removed one after the other, as sets.
use Rattle.std.proofs.Common.{◌≡◌, ℕ, Bool, true, false, cond, not, ◌&&◌, ◌||◌, List, [], ◌∷◌, map, Option, Some, None, is_some, refl, sym, ap, ◌∙◌}
use Rattle.std.specs.List.{list_any}
use Rattle.std.specs.FinMap as fin
use Rattle.std.specs.FinMap.{get-insert, get-remove}
use Rattle.std.specs.FinMap.Entries.{is_some-find}
use Rattle.std.specs.Ordering.{eq_by_cmp}
use Rattle.std.specs.Cmp.{eq_by_cmp_equiv}
use Rattle.dir_names.specs.declared.value.ValueKey.{ValueKey}
use Rattle.dir_names.specs.Values.{value_key_cmp, value_key_cmp_total}
use Rattle.dir_tree.specs.Content.{StoredValues}
use Rattle.dir_change.specs.Inside.ValuesInTurn.{are_new, are_there, without_each}
use Rattle.dir_change.specs.Modify.{KeyedValues, are_distinct, has_all, has_any, is_given, values_without}
use Rattle.dir_change.proofs.ValueSets.{found, get_without, same_values}

-- ---- added

given_any : (v : ValueKey) (ps : KeyedValues) → is_given v ps ≡ list_any (λ q. eq_by_cmp value_key_cmp q.0 v) ps
given_any v ps = is_some-find value_key_cmp v ps ∙ by ps
  where
    by : (ps : KeyedValues) → list_any (eq_by_cmp value_key_cmp v) (map (λ e. e.0) ps) ≡ list_any (λ q. eq_by_cmp value_key_cmp q.0 v) ps
    by [] = refl
    by (p ∷ ps) = λ i. (eq_by_cmp_equiv value_key_cmp_total).symm v p.0 i || by ps i

has_inserted : (values : StoredValues) (k : ValueKey) (bytes : List ℕ) (q : ValueKey) → fin.contains_key (fin.insert values k bytes) q ≡ (eq_by_cmp value_key_cmp q k || fin.contains_key values q)
has_inserted values k bytes q = ap is_some (get-insert value_key_cmp_total values k bytes q) ∙ by (eq_by_cmp value_key_cmp q k)
  where
    by : (b : Bool) → is_some (cond b (Some bytes) (fin.get values q)) ≡ (b || fin.contains_key values q)
    by true = refl
    by false = refl

or_middle : (a b c d : Bool) → ((a || b) || (c || d)) ≡ ((a || c) || (b || d))
or_middle true b c d = refl
or_middle false true true d = refl
or_middle false true false d = refl
or_middle false false c d = refl

any_inserted : (values : StoredValues) (k : ValueKey) (bytes : List ℕ) (ps : KeyedValues) → has_any (fin.insert values k bytes) ps ≡ (list_any (λ q. eq_by_cmp value_key_cmp q.0 k) ps || has_any values ps)
any_inserted values k bytes [] = refl
any_inserted values k bytes (p ∷ ps) =
    (λ i. has_inserted values k bytes p.0 i || any_inserted values k bytes ps i)
    ∙ or_middle (eq_by_cmp value_key_cmp p.0 k) (fin.contains_key values p.0) (list_any (λ q. eq_by_cmp value_key_cmp q.0 k) ps) (has_any values ps)

joined : (a b c d : Bool) → (not a && (b && not (c || d))) ≡ ((not c && b) && not (a || d))
joined true true true d = refl
joined true true false d = refl
joined true false true d = refl
joined true false false d = refl
joined false true true d = refl
joined false true false d = refl
joined false false true d = refl
joined false false false d = refl

-- each is new when it comes exactly if none comes twice and none is there before
pub new_is : (values : StoredValues) (ps : KeyedValues) → are_new values ps ≡ (are_distinct ps && not (has_any values ps))
new_is values [] = refl
new_is values (p ∷ ps) =
    ap (λ b. not (fin.contains_key values p.0) && b) (new_is (fin.insert values p.0 p.1) ps ∙ ap (λ b. are_distinct ps && not b) (any_inserted values p.0 p.1 ps ∙ ap (λ b. b || has_any values ps) (sym (given_any p.0 ps))))
    ∙ joined (fin.contains_key values p.0) (are_distinct ps) (is_given p.0 ps) (has_any values ps)

-- ---- removed

has_removed : (values : StoredValues) (k q : ValueKey) → fin.contains_key (fin.remove values k) q ≡ (not (eq_by_cmp value_key_cmp q k) && fin.contains_key values q)
has_removed values k q = ap is_some (get-remove value_key_cmp_total values k q) ∙ by (eq_by_cmp value_key_cmp q k)
  where
    by : (b : Bool) → is_some (cond b None (fin.get values q)) ≡ (not b && fin.contains_key values q)
    by true = refl
    by false = refl

all_removed : (values : StoredValues) (k : ValueKey) (ps : KeyedValues) → has_all (fin.remove values k) ps ≡ (not (list_any (λ q. eq_by_cmp value_key_cmp q.0 k) ps) && has_all values ps)
all_removed values k [] = refl
all_removed values k (p ∷ ps) =
    (λ i. has_removed values k p.0 i && all_removed values k ps i)
    ∙ by (eq_by_cmp value_key_cmp p.0 k) (fin.contains_key values p.0) (list_any (λ q. eq_by_cmp value_key_cmp q.0 k) ps) (has_all values ps)
  where
    by : (a b c d : Bool) → ((not a && b) && (not c && d)) ≡ (not (a || c) && (b && d))
    by true b c d = refl
    by false true c d = refl
    by false false true d = refl
    by false false false d = refl

-- each is there when it goes exactly if all are there before, and none is named twice
pub there_is : (values : StoredValues) (ps : KeyedValues) → are_there values ps ≡ (are_distinct ps && has_all values ps)
there_is values [] = refl
there_is values (p ∷ ps) =
    ap (λ b. fin.contains_key values p.0 && b) (there_is (fin.remove values p.0) ps ∙ ap (λ b. are_distinct ps && b) (all_removed values p.0 ps ∙ ap (λ b. not b && has_all values ps) (sym (given_any p.0 ps))))
    ∙ by (fin.contains_key values p.0) (are_distinct ps) (is_given p.0 ps) (has_all values ps)
  where
    by : (a b c d : Bool) → (a && (b && (not c && d))) ≡ ((not c && b) && (a && d))
    by true true true d = refl
    by true true false d = refl
    by true false true d = refl
    by true false false d = refl
    by false true true d = refl
    by false true false d = refl
    by false false true d = refl
    by false false false d = refl

get_without_each : (values : StoredValues) (ps : KeyedValues) (v : ValueKey) → fin.get (without_each values ps) v ≡ cond (is_given v ps) None (fin.get values v)
get_without_each values [] v = refl
get_without_each values (p ∷ ps) v =
    get_without_each (fin.remove values p.0) ps v
    ∙ ap (cond (is_given v ps) None) (get-remove value_key_cmp_total values p.0 v)
    ∙ by (eq_by_cmp value_key_cmp v p.0) (found v ps)
  where
    by : (b : Bool) (o : Option (List ℕ)) → cond (is_some o) None (cond b None (fin.get values v)) ≡ cond (is_some (cond b (Some p.1) o)) None (fin.get values v)
    by true None = refl
    by true (Some x) = refl
    by false o = refl

pub without_is : (values : StoredValues) (ps : KeyedValues) → without_each values ps ≡ values_without values ps
without_is values ps = same_values (without_each values ps) (values_without values ps) (λ v. get_without_each values ps v ∙ sym (get_without values ps v))
