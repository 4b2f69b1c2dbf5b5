-- The values that modifications name of an attribute, and one more, are a part of it in which all that they do is seen.
use Rattle.std.proofs.Common.{◌≡◌, ◌⊎◌, inl, inr, Bool, true, false, cond, not, ◌||◌, List, [], ◌∷◌, length, take, drop, get_or, ℕ, suc, ◌+◌, ◌<◌, Option, Some, None, is_some, refl, sym, ap, subst, ◌∙◌, true≢false}
use native.Mathlib.Omega.{arith}
use Rattle.std.specs.List.{list_all}
use Rattle.std.specs.FinMap as fin
use Rattle.std.specs.FinMap.{get-empty, get-insert}
use Rattle.std.proofs.Math.Seq.{drop-cons}
use Rattle.std.proofs.lemmas.List.{take-append-drop}
use Rattle.std.specs.Option.{option_map}
use Rattle.std.specs.Ordering.{eq_by_cmp}
use Rattle.dir_names.specs.declared.schema.TypeRow.{TypeRow}
use Rattle.dir_names.specs.declared.value.ValueKey.{ValueKey}
use Rattle.dir_names.specs.declared.value.ValueKey.TheVariants.{Text}
use Rattle.dir_names.specs.Attr.{Attr}
use Rattle.dir_names.specs.Keys.{RdnKeys}
use Rattle.dir_names.specs.Orders.{attr_cmp, attr_cmp_total, attr_eq, attr_eq_decides}
use Rattle.dir_names.specs.Results.{option_cons}
use Rattle.dir_names.specs.Table.{single_of}
use Rattle.dir_names.specs.Values.{value_key_cmp, value_key_cmp_total, value_key_cmp_exact}
use Rattle.dir_names.proofs.Both.{left, right}
use Rattle.dir_ldif.specs.declared.records.Mod.{Mod}
use Rattle.dir_tree.specs.Content.{Stored, StoredAttributes, StoredValues}
use Rattle.dir_tree.specs.WellFormed.{Each}
use Rattle.dir_tree.proofs.EachEntry.{each_entry}
use Rattle.dir_change.specs.Inside.Exchanged.{first_of}
use Rattle.dir_change.specs.Inside.Looked.{IsPartOf, IsSeen, Looked, LooksAt, NamesLooked, all_name_values, all_named, is_free, is_one_of, names_values, with_each, with_name, with_names}
use Rattle.dir_change.specs.Modify.{KeyedValues, is_given, keyed_value, keyed_values}
use Rattle.dir_change.proofs.AttributesBack.{attr_itself}
use Rattle.dir_change.proofs.KeysInOrder.{among_append, same_attr}
use Rattle.dir_change.proofs.ValueSets.{found, found_entries, same_value, value_itself}

-- each value of a map is found in it
pub values_there : (x : StoredValues) → Each (λ e. fin.get x e.0 ≡ Some e.1) (fin.entries x)
values_there x = each_entry value_key_cmp_total value_key_cmp_exact (λ e. fin.get x e.0 ≡ Some e.1) x (λ v bytes there. there)

-- the map of this value alone
abbrev pub only : ValueKey → List ℕ → StoredValues
only v bytes = fin.insert fin.empty v bytes

pub only_added : (v : ValueKey) (bytes : List ℕ) → cond (fin.contains_key (fin.empty {K = ValueKey} {X = List ℕ} {R = value_key_cmp}) v) fin.empty (only v bytes) ≡ only v bytes
only_added v bytes = ap (λ o. cond (is_some o) fin.empty (only v bytes)) (get-empty value_key_cmp v)

-- ---- the values of a part

get_named : (part : StoredValues) (k : ValueKey) (o : Option (List ℕ)) (v : ValueKey) → fin.get (with_name part (option_map (λ bytes. (k, bytes)) o)) v ≡ first_of (fin.get part v) (cond (eq_by_cmp value_key_cmp v k) o None)
get_named part k None v = by (fin.get part v) (eq_by_cmp value_key_cmp v k)
  where
    by : (u : Option (List ℕ)) (b : Bool) → u ≡ first_of u (cond b None None)
    by (Some bytes) b = refl
    by None true = refl
    by None false = refl
get_named part k (Some bytes) v = by (fin.get part k) refl (eq_by_cmp value_key_cmp v k) refl
  where
    none : (u : Option (List ℕ)) → u ≡ first_of u None
    none (Some bytes) = refl
    none None = refl

    by : (o : Option (List ℕ)) → fin.get part k ≡ o → (b : Bool) → eq_by_cmp value_key_cmp v k ≡ b → fin.get (cond (is_some o) part (fin.insert part k bytes)) v ≡ first_of (fin.get part v) (cond b (Some bytes) None)
    by (Some c) t true e = there ∙ sym (ap (λ u. first_of u (Some bytes)) there)
      where
        there : fin.get part v ≡ Some c
        there = ap (fin.get part) (same_value v k e) ∙ t
    by (Some c) t false e = none (fin.get part v)
    by None t true e = get-insert value_key_cmp_total part k bytes v ∙ ap (λ b. cond b (Some bytes) (fin.get part v)) e ∙ sym (ap (λ u. first_of u (Some bytes)) (ap (fin.get part) (same_value v k e) ∙ t))
    by None t false e = get-insert value_key_cmp_total part k bytes v ∙ ap (λ b. cond b (Some bytes) (fin.get part v)) e ∙ none (fin.get part v)

get_with_each : (x : StoredValues) (ps : KeyedValues) (part : StoredValues) (v : ValueKey) → fin.get (with_each x part ps) v ≡ first_of (fin.get part v) (cond (is_given v ps) (fin.get x v) None)
get_with_each x [] part v = by (fin.get part v)
  where
    by : (u : Option (List ℕ)) → u ≡ first_of u None
    by (Some bytes) = refl
    by None = refl
get_with_each x (p ∷ ps) part v =
    get_with_each x ps (with_name part (option_map (λ bytes. (p.0, bytes)) (fin.get x p.0))) v
    ∙ ap (λ u. first_of u (cond (is_given v ps) (fin.get x v) None)) (get_named part p.0 (fin.get x p.0) v)
    ∙ by (eq_by_cmp value_key_cmp v p.0) refl (fin.get part v)
  where
    here : (o : Option (List ℕ)) (g : Bool) → first_of o (cond g o None) ≡ o
    here (Some bytes) g = refl
    here None true = refl
    here None false = refl

    by : (b : Bool) → eq_by_cmp value_key_cmp v p.0 ≡ b → (u : Option (List ℕ)) → first_of (first_of u (cond b (fin.get x p.0) None)) (cond (is_given v ps) (fin.get x v) None) ≡ first_of u (cond (is_some (cond b (Some p.1) (found v ps))) (fin.get x v) None)
    by b e (Some bytes) = refl
    by true e None = ap (λ w. first_of (fin.get x w) (cond (is_given v ps) (fin.get x v) None)) (sym (same_value v p.0 e)) ∙ here (fin.get x v) (is_given v ps)
    by false e None = refl

module _ (a : Stored) (named : StoredValues) (one : ValueKey) (bytes : List ℕ) (there : fin.get a.values one ≡ Some bytes) where
  abbrev passes_test : ValueKey → Bool
  passes_test v = fin.contains_key named v || eq_by_cmp value_key_cmp v one

  abbrev pub part : Stored
  part = record { spelling = a.spelling; values = with_each a.values (only one bytes) (fin.entries named) }

  get_part : (v : ValueKey) → fin.get part.values v ≡ cond (passes_test v) (fin.get a.values v) None
  get_part v =
      get_with_each a.values (fin.entries named) (only one bytes) v
      ∙ (λ i. first_of (get-insert value_key_cmp_total fin.empty one bytes v i) (cond (is_some (found_entries named v i)) (fin.get a.values v) None))
      ∙ ap (λ o. first_of (cond (eq_by_cmp value_key_cmp v one) (Some bytes) o) (cond (fin.contains_key named v) (fin.get a.values v) None)) (get-empty value_key_cmp v)
      ∙ by (eq_by_cmp value_key_cmp v one) refl (fin.contains_key named v)
    where
      by : (b : Bool) → eq_by_cmp value_key_cmp v one ≡ b → (c : Bool) → first_of (cond b (Some bytes) None) (cond c (fin.get a.values v) None) ≡ cond (c || b) (fin.get a.values v) None
      by true e true = sym (ap (fin.get a.values) (same_value v one e) ∙ there)
      by true e false = sym (ap (fin.get a.values) (same_value v one e) ∙ there)
      by false e true = refl
      by false e false = refl

  one_passes : passes_test one ≡ true
  one_passes = ap (λ b. fin.contains_key named one || b) (value_itself one) ∙ or_true (fin.contains_key named one)
    where
      or_true : (b : Bool) → (b || true) ≡ true
      or_true true = refl
      or_true false = refl

  pub is_part : IsPartOf passes_test a one a part
  is_part = record {
    spelled = refl;
    spelled_first = refl;
    inside = λ v t. get_part v ∙ ap (λ b. cond b (fin.get a.values v) None) t;
    nothing_else = λ v t. get_part v ∙ ap (λ b. cond b (fin.get a.values v) None) t;
    outside = λ v t. refl;
    passes = one_passes;
    has_one = ap is_some (get_part one ∙ ap (λ b. cond b (fin.get a.values one) None) one_passes ∙ there);
  }

-- ---- what modifications name

name_has : (values : StoredValues) (o : Option (ValueKey × List ℕ)) (v : ValueKey) → fin.contains_key values v ≡ true → fin.contains_key (with_name values o) v ≡ true
name_has values None v h = h
name_has values (Some p) v h = by (fin.contains_key values p.0) refl
  where
    inserted : (b : Bool) → is_some (cond b (Some p.1) (fin.get values v)) ≡ true
    inserted true = refl
    inserted false = h

    by : (b : Bool) → fin.contains_key values p.0 ≡ b → fin.contains_key (cond b values (fin.insert values p.0 p.1)) v ≡ true
    by true t = h
    by false t = ap is_some (get-insert value_key_cmp_total values p.0 p.1 v) ∙ inserted (eq_by_cmp value_key_cmp v p.0)

name_there : (values : StoredValues) (p : ValueKey × List ℕ) → fin.contains_key (with_name values (Some p)) p.0 ≡ true
name_there values p = by (fin.contains_key values p.0) refl
  where
    by : (b : Bool) → fin.contains_key values p.0 ≡ b → fin.contains_key (cond b values (fin.insert values p.0 p.1)) p.0 ≡ true
    by true t = t
    by false t = ap is_some (get-insert value_key_cmp_total values p.0 p.1 p.0) ∙ ap (λ b. is_some (cond b (Some p.1) (fin.get values p.0))) (value_itself p.0)

module _ (rows : List TypeRow) where
  names_have : (k : Attr) (vs : List (List ℕ)) (named : StoredValues) (v : ValueKey) → fin.contains_key named v ≡ true → fin.contains_key (with_names rows k named vs) v ≡ true
  names_have k [] named v h = h
  names_have k (x ∷ xs) named v h = names_have k xs (with_name named (keyed_value rows k x)) v (name_has named (keyed_value rows k x) v h)

  names_there : (k : Attr) (vs : List (List ℕ)) (named : StoredValues) (given : KeyedValues) → keyed_values rows k vs ≡ Some given → Each (λ p. (fin.contains_key (with_names rows k named vs) p.0 ≡ true)) given
  names_there k [] named given e = let none : [] ≡ given = cc in subst (Each (λ p. (fin.contains_key named p.0 ≡ true))) none tt
  names_there k (x ∷ xs) named given e = by (keyed_value rows k x) (keyed_values rows k xs) refl e (λ more u. names_there k xs (with_name named (keyed_value rows k x)) more u) refl
    where
      by : (o : Option (ValueKey × List ℕ)) (r : Option KeyedValues) → keyed_values rows k xs ≡ r → option_cons o r ≡ Some given
          → ((more : KeyedValues) → keyed_values rows k xs ≡ Some more → Each (λ p. (fin.contains_key (with_names rows k (with_name named (keyed_value rows k x)) xs) p.0 ≡ true)) more)
          → keyed_value rows k x ≡ o → Each (λ p. (fin.contains_key (with_names rows k (with_name named (keyed_value rows k x)) xs) p.0 ≡ true)) given
      by None r u e rest w = absurd (cc)
      by (Some p) None u e rest w = absurd (cc)
      by (Some p) (Some more) u e rest w =
          let same : p ∷ more ≡ given = cc in
          let here : fin.contains_key (with_name named (keyed_value rows k x)) p.0 ≡ true = ap (λ o. fin.contains_key (with_name named o) p.0) w ∙ name_there named p in
          subst (Each (λ p. (fin.contains_key (with_names rows k (with_name named (keyed_value rows k x)) xs) p.0 ≡ true))) same (names_have k xs (with_name named (keyed_value rows k x)) p.0 here, rest more u)

  module _ (k : Attr) where
    all_have : (ms : List Mod) (named : StoredValues) (v : ValueKey) → fin.contains_key named v ≡ true → fin.contains_key (all_named rows k named ms) v ≡ true
    all_have [] named v h = h
    all_have (m ∷ ms) named v h = all_have ms (cond (attr_eq m.description.key k) (with_names rows m.description.key named m.values) named) v (by (attr_eq m.description.key k))
      where
        by : (b : Bool) → fin.contains_key (cond b (with_names rows m.description.key named m.values) named) v ≡ true
        by true = names_have m.description.key m.values named v h
        by false = h

    -- what a modification of the key names is there
    abbrev NamesThere : StoredValues → Mod → Type 0
    NamesThere named m = m.description.key ≡ k → (given : KeyedValues) → keyed_values rows m.description.key m.values ≡ Some given → Each (λ p. (fin.contains_key named p.0 ≡ true)) given

    each_has : (ps : KeyedValues) (x y : StoredValues) → ((v : ValueKey) → fin.contains_key x v ≡ true → fin.contains_key y v ≡ true) → Each (λ p. (fin.contains_key x p.0 ≡ true)) ps → Each (λ p. (fin.contains_key y p.0 ≡ true)) ps
    each_has [] x y f h = tt
    each_has (p ∷ ps) x y f h = (f p.0 h.0, each_has ps x y f h.1)

    each_named : (ms : List Mod) (named : StoredValues) → Each (NamesThere (all_named rows k named ms)) ms
    each_named [] named = tt
    each_named (m ∷ ms) named = (here, each_named ms (cond (attr_eq m.description.key k) (with_names rows m.description.key named m.values) named))
      where
        here : NamesThere (all_named rows k named (m ∷ ms)) m
        here is given e = subst (λ b. Each (λ p. (fin.contains_key (all_named rows k (cond b (with_names rows m.description.key named m.values) named) ms) p.0 ≡ true)) given) (sym ((attr_eq_decides m.description.key k).1 is))
            (each_has given (with_names rows m.description.key named m.values) (all_named rows k (with_names rows m.description.key named m.values) ms) (λ v h. all_have ms (with_names rows m.description.key named m.values) v h) (names_there m.description.key m.values named given e))

-- ---- what is looked at

pub looks_whole_named : (rows : List TypeRow) (q : Attr) (mods : List Mod) → Each (λ m. (m.description.key ≡ q → NamesLooked rows m None)) mods
looks_whole_named rows q [] = tt
looks_whole_named rows q (m ∷ ms) = ((λ is. tt), looks_whole_named rows q ms)

pub looks_whole_seen : (q : Attr) (own : RdnKeys) → Each (λ p. (p.0 ≡ q → IsSeen None (Text p.1))) own
looks_whole_seen q [] = tt
looks_whole_seen q (p ∷ ps) = ((λ is. tt), looks_whole_seen q ps)

-- all of what is under a key
pub looks_at_all : (rows : List TypeRow) (own : RdnKeys) (mods : List Mod) (q : Attr) (slot : Option Stored) → LooksAt rows own mods q slot slot
looks_at_all rows own mods q slot = record { looked = None; alike = refl; free = tt; named = looks_whole_named rows q mods; seen = looks_whole_seen q own }

module _ (rows : List TypeRow) (own : RdnKeys) (mods : List Mod) (k : Attr) (a : Stored) (one : ValueKey) (bytes : List ℕ)
    (there : fin.get a.values one ≡ Some bytes) (other : fin.contains_key (all_named rows k fin.empty mods) one ≡ false)
    (free : is_free rows own k ≡ true) (name : all_name_values k mods ≡ true) where
  abbrev looked_in : Looked
  looked_in = record { test = λ v. fin.contains_key (all_named rows k fin.empty mods) v || eq_by_cmp value_key_cmp v one; first = a; one = one }

  given_pass : (ps : KeyedValues) → Each (λ p. (fin.contains_key (all_named rows k fin.empty mods) p.0 ≡ true)) ps → Each (λ p. (looked_in.test p.0 ≡ true)) ps
  given_pass [] h = tt
  given_pass (p ∷ ps) h = (ap (λ b. b || eq_by_cmp value_key_cmp p.0 one) h.0, given_pass ps h.1)

  one_apart : (ps : KeyedValues) → Each (λ p. (fin.contains_key (all_named rows k fin.empty mods) p.0 ≡ true)) ps → found one ps ≡ None
  one_apart [] h = refl
  one_apart (p ∷ ps) h = by (one_apart ps h.1) (eq_by_cmp value_key_cmp one p.0) refl
    where
      by : found one ps ≡ None → (b : Bool) → eq_by_cmp value_key_cmp one p.0 ≡ b → cond b (Some p.1) (found one ps) ≡ None
      by rest false t = rest
      by rest true t = absurd (true≢false (sym (ap (fin.contains_key (all_named rows k fin.empty mods)) (same_value one p.0 t) ∙ h.0) ∙ other))

  mods_named : (ms : List Mod) → list_all (λ m. not (attr_eq m.description.key k) || names_values m) ms ≡ true → Each (λ m. (m.description.key ≡ k → (given : KeyedValues) → keyed_values rows m.description.key m.values ≡ Some given → Each (λ p. (fin.contains_key (all_named rows k fin.empty mods) p.0 ≡ true)) given)) ms
      → Each (λ m. (m.description.key ≡ k → NamesLooked rows m (Some looked_in))) ms
  mods_named [] h each = tt
  mods_named (m ∷ ms) h each = (here, mods_named ms (right (not (attr_eq m.description.key k) || names_values m) (list_all (λ m. not (attr_eq m.description.key k) || names_values m) ms) h) each.1)
    where
      here : m.description.key ≡ k → NamesLooked rows m (Some looked_in)
      here is = (
        ap (λ b. not b || names_values m) (sym ((attr_eq_decides m.description.key k).1 is)) ∙ left (not (attr_eq m.description.key k) || names_values m) (list_all (λ m. not (attr_eq m.description.key k) || names_values m) ms) h,
        λ given e. (given_pass given (each.0 is given e), one_apart given (each.0 is given e)),
      )

  own_seen : (ps : RdnKeys) → list_all (λ p. not (attr_eq p.0 k)) ps ≡ true → Each (λ p. (p.0 ≡ k → IsSeen (Some looked_in) (Text p.1))) ps
  own_seen [] h = tt
  own_seen (p ∷ ps) h = (here, own_seen ps (right (not (attr_eq p.0 k)) (list_all (λ p. not (attr_eq p.0 k)) ps) h))
    where
      here : p.0 ≡ k → IsSeen (Some looked_in) (Text p.1)
      here is = absurd (true≢false (sym (left (not (attr_eq p.0 k)) (list_all (λ p. not (attr_eq p.0 k)) ps) h) ∙ ap not ((attr_eq_decides p.0 k).1 is)))

  not_true : (b : Bool) → not b ≡ true → b ≡ false
  not_true true h = sym h
  not_true false h = refl

  -- the values that are named, and one more
  pub looks_at_part : LooksAt rows own mods k (Some a) (Some (part a (all_named rows k fin.empty mods) one bytes there))
  looks_at_part = record {
    looked = Some looked_in;
    alike = is_part a (all_named rows k fin.empty mods) one bytes there;
    free = not_true (single_of rows k) (left (not (single_of rows k)) (list_all (λ p. not (attr_eq p.0 k)) own) free);
    named = mods_named mods name (each_named rows k mods fin.empty);
    seen = own_seen own (right (not (single_of rows k)) (list_all (λ p. not (attr_eq p.0 k)) own) free);
  }

-- ---- one key after the other

module _ (rows : List TypeRow) (own : RdnKeys) (mods : List Mod) (keys : List Attr) (xs : StoredAttributes) where
  -- what is to be looked at is, or its key comes later
  abbrev pub AreLooksSoFar : StoredAttributes → List Attr → Type 0
  AreLooksSoFar before rest =
      ((q : Attr) → is_one_of q keys ≡ true → LooksAt rows own mods q (fin.get xs q) (fin.get before q) ⊎ ((is_one_of q rest ≡ true) × (fin.get before q ≡ None)))
      × ((q : Attr) → is_one_of q keys ≡ false → fin.get before q ≡ None)

  pub none_so_far : (before : StoredAttributes) → before ≡ fin.empty → AreLooksSoFar before keys
  none_so_far before is = ((λ q named. inr (named, none q)), λ q apart. none q)
    where
      none : (q : Attr) → fin.get before q ≡ None
      none q = ap (λ (m : StoredAttributes). fin.get m q) is ∙ get-empty attr_cmp q

  module _ (k : Attr) (rest : List Attr) (among : is_one_of k keys ≡ true) (before new : StoredAttributes) (so : AreLooksSoFar before (k ∷ rest)) where
    later : (q : Attr) → eq_by_cmp attr_cmp q k ≡ false → is_one_of q (k ∷ rest) ≡ true → is_one_of q rest ≡ true
    later q t h = sym (ap (λ b. b || is_one_of q rest) t) ∙ h

    pub one_looked : (part : Stored) → LooksAt rows own mods k (fin.get xs k) (Some part) → new ≡ fin.insert before k part → AreLooksSoFar new rest
    one_looked part looks is = ((λ q named. by q (eq_by_cmp attr_cmp q k) refl named), λ q apart. other q (eq_by_cmp attr_cmp q k) refl apart)
      where
        get_new : (q : Attr) → fin.get new q ≡ cond (eq_by_cmp attr_cmp q k) (Some part) (fin.get before q)
        get_new q = ap (λ (m : StoredAttributes). fin.get m q) is ∙ get-insert attr_cmp_total before k part q

        stays : (q : Attr) → eq_by_cmp attr_cmp q k ≡ false → fin.get before q ≡ fin.get new q
        stays q t = sym (get_new q ∙ ap (λ b. cond b (Some part) (fin.get before q)) t)

        by : (q : Attr) (b : Bool) → eq_by_cmp attr_cmp q k ≡ b → is_one_of q keys ≡ true → LooksAt rows own mods q (fin.get xs q) (fin.get new q) ⊎ ((is_one_of q rest ≡ true) × (fin.get new q ≡ None))
        by q true t named = inl (subst (λ o. LooksAt rows own mods q (fin.get xs q) o) (sym (get_new q ∙ ap (λ b. cond b (Some part) (fin.get before q)) t)) (subst (λ z. LooksAt rows own mods z (fin.get xs z) (Some part)) (sym (same_attr q k t)) looks))
        by q false t named = elim (so.0 q named) [ inl l ↦ inl (subst (λ o. LooksAt rows own mods q (fin.get xs q) o) (stays q t) l) | inr r ↦ inr (later q t r.0, sym (stays q t) ∙ r.1) ]

        other : (q : Attr) (b : Bool) → eq_by_cmp attr_cmp q k ≡ b → is_one_of q keys ≡ false → fin.get new q ≡ None
        other q false t apart = sym (stays q t) ∙ so.1 q apart
        other q true t apart = absurd (true≢false (sym among ∙ ap (λ z. is_one_of z keys) (sym (same_attr q k t)) ∙ apart))

    pub none_looked : fin.get xs k ≡ None → new ≡ before → AreLooksSoFar new rest
    none_looked none is = subst (λ m. AreLooksSoFar m rest) (sym is) ((λ q named. elim (so.0 q named) [ inl l ↦ inl l | inr r ↦ by q (eq_by_cmp attr_cmp q k) refl r ]), so.1)
      where
        by : (q : Attr) (b : Bool) → eq_by_cmp attr_cmp q k ≡ b → (is_one_of q (k ∷ rest) ≡ true) × (fin.get before q ≡ None) → LooksAt rows own mods q (fin.get xs q) (fin.get before q) ⊎ ((is_one_of q rest ≡ true) × (fin.get before q ≡ None))
        by q true t r = inl (subst (λ o. LooksAt rows own mods q (fin.get xs q) o) (ap (fin.get xs) (same_attr q k t) ∙ none ∙ sym r.1) (looks_at_all rows own mods q (fin.get xs q)))
        by q false t r = inr (later q t r.0, r.1)

-- a key of the keys that are left
pub left_among : (keys rest : List Attr) (i : ℕ) (k : Attr) → drop i keys ≡ k ∷ rest → is_one_of k keys ≡ true
left_among keys rest i k is = ap (is_one_of k) (sym (take-append-drop i keys)) ∙ among_append k (take i keys) (drop i keys) ∙ ap (λ ks. is_one_of k (take i keys) || is_one_of k ks) is ∙ ap (λ b. is_one_of k (take i keys) || (b || is_one_of k rest)) (attr_itself k) ∙ or_true (is_one_of k (take i keys))
  where
    or_true : (b : Bool) → (b || true) ≡ true
    or_true true = refl
    or_true false = refl

pub left_here : {A : Type 0} (keys : List A) (i : ℕ) (k : A) → i < length keys → k ≡ get_or keys i k → drop i keys ≡ k ∷ drop (i + 1) keys
left_here keys i k lt is = drop-cons keys i k lt ∙ ap (λ z. z ∷ drop (suc i) keys) (sym is) ∙ ap (λ n. k ∷ drop n keys) one
  where
    one : suc i ≡ i + 1
    one = omega arith
