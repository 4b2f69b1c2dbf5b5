-- Values exchanged in turn, as sets.
use Rattle.std.proofs.Common.{◌≡◌, ℕ, Bool, true, false, cond, not, ◌&&◌, List, [], ◌∷◌, Option, Some, None, is_some, refl, sym, ap, ◌∙◌, true≢false}
use Rattle.std.specs.FinMap as fin
use Rattle.std.specs.FinMap.{get-insert, get-remove}
use Rattle.std.specs.Ordering.{eq_by_cmp}
use Rattle.dir_names.specs.declared.value.ValueKey.{ValueKey}
use Rattle.dir_names.specs.Values.{value_key_cmp, value_key_cmp_total}
use Rattle.dir_tree.specs.Content.{StoredValues}
use Rattle.dir_change.specs.Inside.Exchanged.{AreGrown, AreGrowing, AreSettled, AreShrunk, first_of, grown_by, settled_at, settled_by, shrunk_by}
use Rattle.dir_names.proofs.Both.{left, right}
use Rattle.dir_change.specs.Modify.{KeyedValues, are_distinct, is_given}
use Rattle.dir_change.proofs.ValueSets.{distinct_entries, found, found_entries, none_of, same_value}

-- each value of the first is a value of the second, with the same bytes
abbrev pub HasMore : StoredValues → StoredValues → Type 0
HasMore x y = (v : ValueKey) → fin.contains_key x v ≡ true → fin.get y v ≡ fin.get x v

-- ---- grown

get_grown : (ps : KeyedValues) (x : StoredValues) (v : ValueKey) → fin.get (grown_by x ps) v ≡ first_of (fin.get x v) (found v ps)
get_grown [] x v = by (fin.get x v)
  where
    by : (o : Option (List ℕ)) → o ≡ first_of o None
    by None = refl
    by (Some b) = refl
get_grown (p ∷ ps) x v = get_grown ps (cond (fin.contains_key x p.0) x (fin.insert x p.0 p.1)) v ∙ by (fin.contains_key x p.0) refl
  where
    same : (b : Bool) → eq_by_cmp value_key_cmp v p.0 ≡ b → (o : Option (List ℕ)) → fin.get x p.0 ≡ o → is_some o ≡ true → first_of (fin.get x v) (found v ps) ≡ first_of (fin.get x v) (cond b (Some p.1) (found v ps))
    same false e o t h = refl
    same true e (Some c) t h = (λ i. first_of (there i) (found v ps)) ∙ sym (λ i. first_of (there i) (Some p.1))
      where
        there : fin.get x v ≡ Some c
        there = ap (fin.get x) (same_value v p.0 e) ∙ t
    same true e None t h = absurd (true≢false (sym h))

    new : (b : Bool) → eq_by_cmp value_key_cmp v p.0 ≡ b → fin.get x p.0 ≡ None → first_of (cond b (Some p.1) (fin.get x v)) (found v ps) ≡ first_of (fin.get x v) (cond b (Some p.1) (found v ps))
    new false e t = refl
    new true e t = sym (λ i. first_of ((ap (fin.get x) (same_value v p.0 e) ∙ t) i) (Some p.1))

    none : (o : Option (List ℕ)) → is_some o ≡ false → o ≡ None
    none None h = refl
    none (Some c) h = absurd (true≢false h)

    by : (b : Bool) → fin.contains_key x p.0 ≡ b → first_of (fin.get (cond b x (fin.insert x p.0 p.1)) v) (found v ps) ≡ first_of (fin.get x v) (found v (p ∷ ps))
    by true e = same (eq_by_cmp value_key_cmp v p.0) refl (fin.get x p.0) refl e
    by false e = ap (λ o. first_of o (found v ps)) (get-insert value_key_cmp_total x p.0 p.1 v) ∙ new (eq_by_cmp value_key_cmp v p.0) refl (none (fin.get x p.0) e)

pub grown_is : (x after : StoredValues) → AreGrown x after (grown_by x (fin.entries after))
grown_is x after v = get_grown (fin.entries after) x v ∙ ap (first_of (fin.get x v)) (found_entries after v)

pub more_itself : (x : StoredValues) → HasMore x x
more_itself x v h = refl

pub more_inserted : (x y : StoredValues) (k : ValueKey) (bytes : List ℕ) → HasMore x y → fin.contains_key y k ≡ false → HasMore x (fin.insert y k bytes)
more_inserted x y k bytes more free v h = get-insert value_key_cmp_total y k bytes v ∙ by (eq_by_cmp value_key_cmp v k) refl
  where
    by : (b : Bool) → eq_by_cmp value_key_cmp v k ≡ b → cond b (Some bytes) (fin.get y v) ≡ fin.get x v
    by false e = more v h
    by true e = absurd (true≢false (sym (ap is_some (more v h) ∙ h) ∙ ap (fin.contains_key y) (same_value v k e) ∙ free))

pub more_added : (x y : StoredValues) (k : ValueKey) (bytes : List ℕ) → HasMore x y → HasMore x (cond (fin.contains_key y k) y (fin.insert y k bytes))
more_added x y k bytes more = by (fin.contains_key y k) refl
  where
    by : (b : Bool) → fin.contains_key y k ≡ b → HasMore x (cond b y (fin.insert y k bytes))
    by true e = more
    by false e = more_inserted x y k bytes more e

pub growing_is : (x after y : StoredValues) (rest : KeyedValues) → grown_by x (fin.entries after) ≡ grown_by y rest → HasMore x y → AreGrowing x after y
growing_is x after y rest same more v h = by (fin.contains_key x v) refl
  where
    whole : first_of (fin.get y v) (found v rest) ≡ first_of (fin.get x v) (fin.get after v)
    whole = sym (get_grown rest y v) ∙ ap (λ m. fin.get m v) (sym same) ∙ grown_is x after v

    none_then : (o r u w : Option (List ℕ)) → first_of o r ≡ first_of u w → is_some u ≡ false → is_some w ≡ false → o ≡ u
    none_then None r None None e s t = refl
    none_then (Some b) r None None e s t = e
    none_then o r (Some c) w e s t = absurd (true≢false s)
    none_then o r None (Some c) e s t = absurd (true≢false t)

    and_true : (c : Bool) → (c && true) ≡ false → c ≡ false
    and_true false e = refl
    and_true true e = e

    by : (b : Bool) → fin.contains_key x v ≡ b → fin.get y v ≡ fin.get x v
    by true e = more v e
    by false e = none_then (fin.get y v) (found v rest) (fin.get x v) (fin.get after v) whole e (and_true (fin.contains_key after v) (sym (ap (λ c. fin.contains_key after v && not c) e) ∙ h))

-- ---- shrunk

get_shrunk : (before : StoredValues) (ps : KeyedValues) (x : StoredValues) (v : ValueKey) → fin.get (shrunk_by before x ps) v ≡ cond (is_some (found v ps) && not (fin.contains_key before v)) None (fin.get x v)
get_shrunk before [] x v = refl
get_shrunk before (p ∷ ps) x v = get_shrunk before ps (cond (fin.contains_key before p.0) x (fin.remove x p.0)) v ∙ by (fin.contains_key before p.0) refl (eq_by_cmp value_key_cmp v p.0) refl
  where
    none : (b c : Bool) → cond (b && c) None (fin.get x v) ≡ cond (b && c) None (fin.get x v)
    none b c = refl

    gone : (b : Bool) → ◌≡◌ {A = Option (List ℕ)} (cond b None None) None
    gone true = refl
    gone false = refl

    at_p : eq_by_cmp value_key_cmp v p.0 ≡ true → fin.contains_key before v ≡ fin.contains_key before p.0
    at_p t = ap (fin.contains_key before) (same_value v p.0 t)

    stays : (b c : Bool) → c ≡ true → cond (b && not c) None (fin.get x v) ≡ fin.get x v
    stays true true e = refl
    stays false true e = refl
    stays b false e = absurd (true≢false (sym e))

    by : (b : Bool) → fin.contains_key before p.0 ≡ b → (t : Bool) → eq_by_cmp value_key_cmp v p.0 ≡ t
        → cond (is_some (found v ps) && not (fin.contains_key before v)) None (fin.get (cond b x (fin.remove x p.0)) v) ≡ cond (is_some (cond t (Some p.1) (found v ps)) && not (fin.contains_key before v)) None (fin.get x v)
    by true e false t = refl
    by true e true t = stays (is_some (found v ps)) (fin.contains_key before v) (at_p t ∙ e) ∙ sym (stays true (fin.contains_key before v) (at_p t ∙ e))
    by false e false t = ap (λ o. cond (is_some (found v ps) && not (fin.contains_key before v)) None o) (get-remove value_key_cmp_total x p.0 v ∙ ap (λ b. cond b None (fin.get x v)) t)
    by false e true t =
        ap (λ o. cond (is_some (found v ps) && not (fin.contains_key before v)) None o) (get-remove value_key_cmp_total x p.0 v ∙ ap (λ b. cond b None (fin.get x v)) t)
        ∙ gone (is_some (found v ps) && not (fin.contains_key before v))
        ∙ sym (ap (λ c. cond (not c) None (fin.get x v)) (at_p t ∙ e))

pub shrunk_is_by : (x before after : StoredValues) → AreShrunk x before after (shrunk_by before x (fin.entries after))
shrunk_is_by x before after v = get_shrunk before (fin.entries after) x v ∙ ap (λ o. cond (is_some o && not (fin.contains_key before v)) None (fin.get x v)) (found_entries after v)

-- ---- settled

get_settled_at : (x : StoredValues) (k : ValueKey) (o : Option (List ℕ)) (v : ValueKey) → fin.get (settled_at x k o) v ≡ cond (eq_by_cmp value_key_cmp v k) (cond (fin.contains_key x v) o None) (fin.get x v)
get_settled_at x k None v = get-remove value_key_cmp_total x k v ∙ by (eq_by_cmp value_key_cmp v k) (fin.contains_key x v)
  where
    by : (b c : Bool) → cond b None (fin.get x v) ≡ cond b (cond c None None) (fin.get x v)
    by true true = refl
    by true false = refl
    by false c = refl
get_settled_at x k (Some bytes) v = by (fin.contains_key x k) refl
  where
    there : (b : Bool) → eq_by_cmp value_key_cmp v k ≡ b → fin.contains_key x k ≡ true → cond b (Some bytes) (fin.get x v) ≡ cond b (cond (fin.contains_key x v) (Some bytes) None) (fin.get x v)
    there false e h = refl
    there true e h = sym (ap (λ c. cond c (Some bytes) None) (ap (fin.contains_key x) (same_value v k e) ∙ h))

    none : (o : Option (List ℕ)) → is_some o ≡ false → o ≡ cond (is_some o) (Some bytes) None
    none None h = refl
    none (Some c) h = absurd (true≢false h)

    missing : (b : Bool) → eq_by_cmp value_key_cmp v k ≡ b → fin.contains_key x k ≡ false → fin.get x v ≡ cond b (cond (fin.contains_key x v) (Some bytes) None) (fin.get x v)
    missing false e h = refl
    missing true e h = none (fin.get x v) (ap (fin.contains_key x) (same_value v k e) ∙ h)

    by : (c : Bool) → fin.contains_key x k ≡ c → fin.get (cond c (fin.insert x k bytes) x) v ≡ cond (eq_by_cmp value_key_cmp v k) (cond (fin.contains_key x v) (Some bytes) None) (fin.get x v)
    by true h = get-insert value_key_cmp_total x k bytes v ∙ there (eq_by_cmp value_key_cmp v k) refl h
    by false h = missing (eq_by_cmp value_key_cmp v k) refl h

get_settled : (ps : KeyedValues) → are_distinct ps ≡ true → (after x : StoredValues) (v : ValueKey) → fin.get (settled_by after x ps) v ≡ cond (is_some (found v ps)) (cond (fin.contains_key x v) (fin.get after v) None) (fin.get x v)
get_settled [] d after x v = refl
get_settled (p ∷ ps) d after x v =
    get_settled ps (right (not (is_given p.0 ps)) (are_distinct ps) d) (fin.remove after p.0) (settled_at x p.0 (fin.get after p.0)) v
    ∙ (λ i. cond (is_some (found v ps)) (cond (is_some (get_settled_at x p.0 (fin.get after p.0) v i)) (get-remove value_key_cmp_total after p.0 v i) None) (get_settled_at x p.0 (fin.get after p.0) v i))
    ∙ by (eq_by_cmp value_key_cmp v p.0) refl
  where
    once : eq_by_cmp value_key_cmp v p.0 ≡ true → found v ps ≡ None
    once t = ap (λ w. found w ps) (same_value v p.0 t) ∙ none_of (found p.0 ps) (left (not (is_given p.0 ps)) (are_distinct ps) d)

    by : (b : Bool) → eq_by_cmp value_key_cmp v p.0 ≡ b
        → cond (is_some (found v ps)) (cond (is_some (cond b (cond (fin.contains_key x v) (fin.get after p.0) None) (fin.get x v))) (cond b None (fin.get after v)) None) (cond b (cond (fin.contains_key x v) (fin.get after p.0) None) (fin.get x v))
        ≡ cond (is_some (cond b (Some p.1) (found v ps))) (cond (fin.contains_key x v) (fin.get after v) None) (fin.get x v)
    by false t = refl
    by true t =
        ap (λ o. cond (is_some o) (cond (is_some (cond (fin.contains_key x v) (fin.get after p.0) None)) None None) (cond (fin.contains_key x v) (fin.get after p.0) None)) (once t)
        ∙ ap (λ w. cond (fin.contains_key x v) (fin.get after w) None) (sym (same_value v p.0 t))

pub settled_is_by : (x before after : StoredValues) → AreSettled x before after (settled_by after x (fin.entries before))
settled_is_by x before after v =
    get_settled (fin.entries before) (distinct_entries before) after x v
    ∙ ap (λ o. cond (is_some o) (cond (fin.contains_key x v) (fin.get after v) None) (fin.get x v)) (found_entries before v)
