-- Values with others added or taken away, key by key.
use Rattle.std.proofs.Common.{◌≡◌, ℕ, Bool, true, false, cond, not, ◌&&◌, ◌||◌, List, [], ◌∷◌, map, Option, Some, None, is_some, refl, sym, ap, ◌∙◌, true≢false, T}
use Rattle.std.specs.List.{filter, list_all, list_any}
use Rattle.std.specs.FinMap as fin
use Rattle.std.specs.FinMap.{entries_sorted, get-entries, get-insert, get-retain_keys, same_map}
use Rattle.std.specs.Result.{result_ok}
use Rattle.std.specs.Option.{option_map}
use Rattle.std.specs.Ordering.{eq_by_cmp, is_eq, is_lt}
use Rattle.std.specs.declared.cmp.Ordering.{Ordering}
use Rattle.std.specs.declared.cmp.Ordering.TheVariants.{Less, Equal, Greater}
use Rattle.std.specs.Cmp.{Equal-is, tied_itself}
use Rattle.dir_names.specs.declared.schema.TypeRow.{TypeRow}
use Rattle.dir_names.specs.declared.value.ValueKey.{ValueKey}
use Rattle.dir_names.specs.Attr.{Attr}
use Rattle.dir_names.specs.Results.{option_cons}
use Rattle.dir_names.specs.Sorted.{rises}
use Rattle.dir_names.specs.Values.{value_key_cmp, value_key_cmp_total, value_key_cmp_exact}
use Rattle.dir_names.proofs.Both.{left, right}
use Rattle.dir_names.proofs.Placed.{is_sorted-keys, keys_of}
use Rattle.dir_tree.specs.Content.{StoredValues}
use Rattle.dir_tree.specs.WellFormed.{Each, IsSoundValue}
use Rattle.dir_change.specs.Modify.{KeyedValues, are_distinct, is_given, keyed_value, keyed_values, values_with, values_without}

pub same_value : (v w : ValueKey) → eq_by_cmp value_key_cmp v w ≡ true → v ≡ w
same_value v w t = value_key_cmp_exact v w ((Equal-is (value_key_cmp v w)).0 t)

pub value_itself : (v : ValueKey) → eq_by_cmp value_key_cmp v v ≡ true
value_itself v = ap is_eq (tied_itself value_key_cmp_total v)

-- the bytes of the first value with the key
abbrev pub found : ValueKey → KeyedValues → Option (List ℕ)
found v given = fin.find value_key_cmp v given

abbrev pub or_else : Option (List ℕ) → Option (List ℕ) → Option (List ℕ)
or_else None x = x
or_else (Some y) x = Some y

pub none_of : {A : Type 0} (o : Option A) → not (is_some o) ≡ true → o ≡ None
none_of None h = refl
none_of (Some x) h = absurd (true≢false (sym h))

-- ---- values added and taken away

pub get_with : (given : KeyedValues) (values : StoredValues) → are_distinct given ≡ true → (v : ValueKey) → fin.get (values_with values given) v ≡ or_else (found v given) (fin.get values v)
get_with [] values d v = refl
get_with (p ∷ ps) values d v =
    get_with ps (fin.insert values p.0 p.1) (right (not (is_given p.0 ps)) (are_distinct ps) d) v
    ∙ ap (or_else (found v ps)) (get-insert value_key_cmp_total values p.0 p.1 v)
    ∙ by (eq_by_cmp value_key_cmp v p.0) refl
  where
    by : (b : Bool) → eq_by_cmp value_key_cmp v p.0 ≡ b → or_else (found v ps) (cond b (Some p.1) (fin.get values v)) ≡ or_else (cond b (Some p.1) (found v ps)) (fin.get values v)
    by false t = refl
    by true t = ap (λ o. or_else o (Some p.1)) (ap (λ k. found k ps) (same_value v p.0 t) ∙ none_of (found p.0 ps) (left (not (is_given p.0 ps)) (are_distinct ps) d))

turned : {A : Type 0} (b : Bool) (x y : A) → cond (not b) x y ≡ cond b y x
turned true x y = refl
turned false x y = refl

pub get_without : (values : StoredValues) (given : KeyedValues) (v : ValueKey) → fin.get (values_without values given) v ≡ cond (is_given v given) None (fin.get values v)
get_without values given v =
    get-retain_keys values (λ x. not (is_given x given)) v (λ x t. ap (λ z. not (is_given z given)) (sym (value_key_cmp_exact v x t)))
    ∙ turned (is_given v given) (fin.get values v) None

-- ---- lists of values without repetition

some_either : (b : Bool) (x : List ℕ) (o : Option (List ℕ)) → is_some o ≡ true → is_some (cond b (Some x) o) ≡ true
some_either true x o h = refl
some_either false x o h = h

-- what holds of each key that is given
pub all_given : (test : ValueKey → Bool) (given : KeyedValues) → ((v : ValueKey) → is_given v given ≡ true → test v ≡ true) → list_all (λ p. test p.0) given ≡ true
all_given test [] h = refl
all_given test (p ∷ ps) h =
    let first = h p.0 (ap (λ b. is_some (cond b (Some p.1) (found p.0 ps))) (value_itself p.0)) in
    let rest = all_given test ps (λ v there. h v (some_either (eq_by_cmp value_key_cmp v p.0) p.1 (found v ps) there)) in
    λ i. first i && rest i

pub none_given : (test : ValueKey → Bool) (given : KeyedValues) → ((v : ValueKey) → is_given v given ≡ true → test v ≡ false) → list_any (λ p. test p.0) given ≡ false
none_given test [] h = refl
none_given test (p ∷ ps) h =
    let first = h p.0 (ap (λ b. is_some (cond b (Some p.1) (found p.0 ps))) (value_itself p.0)) in
    let rest = none_given test ps (λ v there. h v (some_either (eq_by_cmp value_key_cmp v p.0) p.1 (found v ps) there)) in
    λ i. first i || rest i

less_differs : (r : Ordering) → is_lt r ≡ true → is_eq r ≡ false
less_differs Less h = refl
less_differs Equal h = absurd (true≢false (sym h))
less_differs Greater h = refl

-- a key before all others is none of them
apart : (k : ValueKey) (es : KeyedValues) → list_all (λ x. is_lt (value_key_cmp k x)) (keys_of value_key_cmp es) ≡ true → found k es ≡ None
apart k [] t = refl
apart k (e ∷ es) t =
    ap (λ b. cond b (Some e.1) (found k es)) (less_differs (value_key_cmp k e.0) (left (is_lt (value_key_cmp k e.0)) (list_all (λ x. is_lt (value_key_cmp k x)) (keys_of value_key_cmp es)) t))
    ∙ apart k es (right (is_lt (value_key_cmp k e.0)) (list_all (λ x. is_lt (value_key_cmp k x)) (keys_of value_key_cmp es)) t)

distinct_rising : (es : KeyedValues) → rises value_key_cmp (keys_of value_key_cmp es) ≡ true → are_distinct es ≡ true
distinct_rising [] t = refl
distinct_rising (e ∷ es) t =
    let none = apart e.0 es (left (list_all (λ x. is_lt (value_key_cmp e.0 x)) (keys_of value_key_cmp es)) (rises value_key_cmp (keys_of value_key_cmp es)) t) in
    let rest = distinct_rising es (right (list_all (λ x. is_lt (value_key_cmp e.0 x)) (keys_of value_key_cmp es)) (rises value_key_cmp (keys_of value_key_cmp es)) t) in
    λ i. not (is_some (none i)) && rest i

truth : {b : Bool} → T b → b ≡ true
truth {b} t = elim b as (λ b. T b → b ≡ true) [ true ↦ λ _. refl | _ ↦ λ f. absurd f ] t

pub distinct_entries : (values : StoredValues) → are_distinct (fin.entries values) ≡ true
distinct_entries values = distinct_rising (fin.entries values) (sym (is_sorted-keys value_key_cmp (fin.entries values)) ∙ truth (entries_sorted values))

-- ---- the values that pass a test

module _ (test : ValueKey × List ℕ → Bool) where
  abbrev pub if_passing : ValueKey → Option (List ℕ) → Option (List ℕ)
  if_passing v None = None
  if_passing v (Some bytes) = cond (test (v, bytes)) (Some bytes) None

  none_passing : (v : ValueKey) (es : KeyedValues) → found v es ≡ None → found v (filter test es) ≡ None
  none_passing v [] n = refl
  none_passing v (e ∷ es) n = by (eq_by_cmp value_key_cmp v e.0) refl (test e) n (none_passing v es)
    where
      by : (b : Bool) → eq_by_cmp value_key_cmp v e.0 ≡ b → (c : Bool) → cond b (Some e.1) (found v es) ≡ None → (found v es ≡ None → found v (filter test es) ≡ None) → found v (cond c (e ∷ filter test es) (filter test es)) ≡ None
      by true t c h rest = absurd (cc)
      by false t true h rest = ap (λ b. cond b (Some e.1) (found v (filter test es))) t ∙ rest h
      by false t false h rest = rest h

  pub find_passing : (es : KeyedValues) → are_distinct es ≡ true → (v : ValueKey) → found v (filter test es) ≡ if_passing v (found v es)
  find_passing [] d v = refl
  find_passing (e ∷ es) d v = by (eq_by_cmp value_key_cmp v e.0) refl (test e) refl (find_passing es (right (not (is_given e.0 es)) (are_distinct es) d) v)
    where
      none : found e.0 es ≡ None
      none = none_of (found e.0 es) (left (not (is_given e.0 es)) (are_distinct es) d)

      by : (b : Bool) → eq_by_cmp value_key_cmp v e.0 ≡ b → (c : Bool) → test e ≡ c → found v (filter test es) ≡ if_passing v (found v es) →
          found v (cond c (e ∷ filter test es) (filter test es)) ≡ if_passing v (cond b (Some e.1) (found v es))
      by true t true s rest =
          ap (λ b. cond b (Some e.1) (found v (filter test es))) t
          ∙ sym (ap (λ b. cond b (Some e.1) None) (ap (λ z. test (z, e.1)) (same_value v e.0 t) ∙ s))
      by true t false s rest =
          ap (λ z. found z (filter test es)) (same_value v e.0 t)
          ∙ none_passing e.0 es none
          ∙ sym (ap (λ b. cond b (Some e.1) None) (ap (λ z. test (z, e.1)) (same_value v e.0 t) ∙ s))
      by false t true s rest = ap (λ b. cond b (Some e.1) (found v (filter test es))) t ∙ rest
      by false t false s rest = rest

  pub distinct_passing : (es : KeyedValues) → are_distinct es ≡ true → are_distinct (filter test es) ≡ true
  distinct_passing [] d = refl
  distinct_passing (e ∷ es) d = by (test e) (distinct_passing es (right (not (is_given e.0 es)) (are_distinct es) d))
    where
      by : (c : Bool) → are_distinct (filter test es) ≡ true → are_distinct (cond c (e ∷ filter test es) (filter test es)) ≡ true
      by true rest =
          let none = none_passing e.0 es (none_of (found e.0 es) (left (not (is_given e.0 es)) (are_distinct es) d)) in
          λ i. not (is_some (none i)) && rest i
      by false rest = rest

  pub each_passing : (P : ValueKey × List ℕ → Type 0) (es : KeyedValues) → Each P es → Each P (filter test es)
  each_passing P [] h = tt
  each_passing P (e ∷ es) h = by (test e) (each_passing P es h.1)
    where
      by : (c : Bool) → Each P (filter test es) → Each P (cond c (e ∷ filter test es) (filter test es))
      by true rest = (h.0, rest)
      by false rest = rest

-- ---- stored values have their keys again

pub keyed_again : (rows : List TypeRow) (k : Attr) (es : KeyedValues) → Each (IsSoundValue rows k) es → keyed_values rows k (map (λ p. p.1) es) ≡ Some es
keyed_again rows k [] sound = refl
keyed_again rows k (e ∷ es) sound =
    let one : keyed_value rows k e.1 ≡ Some e = ap (λ r. option_map (λ key. (key, e.1)) (result_ok r)) sound.0.0 in
    λ i. option_cons (one i) (keyed_again rows k es sound.1 i)

-- ---- all values of a map

pub same_values : (x y : StoredValues) → ((v : ValueKey) → fin.get x v ≡ fin.get y v) → x ≡ y
same_values x y h = same_map value_key_cmp_total value_key_cmp_exact x y h

pub found_entries : (values : StoredValues) (v : ValueKey) → found v (fin.entries values) ≡ fin.get values v
found_entries values v = sym (get-entries values v)
