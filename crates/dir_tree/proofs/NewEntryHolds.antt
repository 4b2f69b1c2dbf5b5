-- An entry that an add makes holds what its lines give first, and nothing else.
use Rattle.std.proofs.Common.{◌≡◌, ℕ, Bool, true, false, cond, List, [], ◌∷◌, ◌++◌, Option, Some, None, is_some, option_map, find, Ok, Err, refl, sym, ap, subst, ◌∙◌, true≢false}
use Rattle.std.specs.List.{filter}
use Rattle.std.specs.FinMap as fin
use Rattle.std.specs.FinMap.{get-empty}
use Rattle.dir_names.specs.declared.value.ValueKey.{ValueKey}
use Rattle.dir_names.specs.Attr.{Attr}
use Rattle.dir_names.specs.Keys.{RdnKeys}
use Rattle.dir_names.specs.Names.{SpelledRdn}
use Rattle.std.specs.Option.{option_and_then}
use Rattle.dir_names.specs.NameKeys.{rdn_key}
use Rattle.dir_names.specs.Orders.{attr_cmp, attr_eq_decides}
use Rattle.dir_tree.specs.declared.fault.EntryFault.TheVariants.{BadValue, Twice, NotNamed, Single}
use Rattle.dir_tree.specs.declared.lines.KeyedLine.{KeyedLine}
use Rattle.std.specs.Option.{ok_or}
use Rattle.dir_tree.specs.NewEntryLaw.{is_line_of}
use Rattle.dir_tree.specs.Content.{Content, Stored, StoredAttributes, has_in, has_value}
use Rattle.dir_tree.specs.NewEntryLaw.{EntriesHoldTheirLines, HoldsFirst, HoldsItsLines, gives_value, spelled_in, value_in}
use Rattle.dir_tree.specs.NewEntry.{attributes_if_distinct, exceeds_single_value, give_distinct_values, keyed_lines, leaf_key, leaf_lines, leaf_of, ok_unless_exceeding, rdn_lines, with_line, with_lines, with_missing_line, with_missing_lines, with_missing_of}
use Rattle.dir_names.specs.Results.{and_then}
use Rattle.dir_tree.proofs.Orderless.{apart_few, few, few_tail, first_spelled, given_same, has_as_value, last_value, or_spelled, spelled_all, spelled_line, value_all, value_line}
use Rattle.dir_tree.proofs.OwnLines.{keyed_rdn}

-- ---- the first of two lists

abbrev or_else : {A : Type 0} → Option A → Option A → Option A
or_else None o = o
or_else (Some x) o = Some x

or_none : {A : Type 0} (o : Option A) → o ≡ or_else o None
or_none None = refl
or_none (Some x) = refl

find_behind : {A : Type 0} (p : A → Bool) (xs ys : List A) → find p (xs ++ ys) ≡ or_else (find p xs) (find p ys)
find_behind p [] ys = refl
find_behind p (x ∷ xs) ys = by (find_behind p xs ys) (p x)
  where
    by : find p (xs ++ ys) ≡ or_else (find p xs) (find p ys) → (b : Bool) → cond b (Some x) (find p (xs ++ ys)) ≡ or_else (cond b (Some x) (find p xs)) (find p ys)
    by rest true = refl
    by rest false = rest

map_or : {A B : Type 0} (f : A → B) (a b : Option A) → or_else (option_map f a) (option_map f b) ≡ option_map f (or_else a b)
map_or f None b = refl
map_or f (Some x) b = refl

first_behind : {A B : Type 0} (f : A → B) (p : A → Bool) (xs ys : List A) → or_else (option_map f (find p xs)) (option_map f (find p ys)) ≡ option_map f (find p (xs ++ ys))
first_behind f p xs ys = map_or f (find p xs) (find p ys) ∙ ap (option_map f) (sym (find_behind p xs ys))

stays : (o : Option (List ℕ)) (t : List ℕ) → is_some o ≡ true → o ≡ or_spelled o t
stays None t e = absurd (true≢false (sym e))
stays (Some s) t e = refl

comes : (o : Option (List ℕ)) (t : List ℕ) → is_some o ≡ false → Some t ≡ or_spelled o t
comes None t e = refl
comes (Some s) t e = absurd (true≢false e)

or_first : (b : Bool) (o : Option (List ℕ)) (t : List ℕ) (f : KeyedLine → List ℕ) (l : KeyedLine) (later : Option KeyedLine) → f l ≡ t
    → or_else (cond b (or_spelled o t) o) (option_map f later) ≡ or_else o (option_map f (cond b (Some l) later))
or_first false o t f l later e = refl
or_first true None t f l later e = ap Some (sym e)
or_first true (Some s) t f l later e = refl

-- ---- the values of the own RDN

spelled_there : (v : ValueKey) (o : Option Stored) → has_in v o ≡ true → is_some (spelled_in o) ≡ true
spelled_there v None e = absurd (true≢false (sym e))
spelled_there v (Some a) e = refl

module _ (xs : StoredAttributes) (l : KeyedLine) where
  value_missing : (k : Attr) (v : ValueKey) → value_in v (fin.get (with_missing_line xs l) k) ≡ cond (gives_value k v l) (or_spelled (value_in v (fin.get xs k)) l.bytes) (value_in v (fin.get xs k))
  value_missing k v = by (has_value xs l.description.key l.key) refl (gives_value k v l) refl
    where
      here : (h : Bool) → has_value xs l.description.key l.key ≡ h → gives_value k v l ≡ true → is_some (value_in v (fin.get xs k)) ≡ h
      here h t u = let same = given_same k v l u in sym (has_as_value v (fin.get xs k)) ∙ (λ i. has_value xs (same.0 i) (same.1 i)) ∙ t

      by : (h : Bool) → has_value xs l.description.key l.key ≡ h → (b : Bool) → gives_value k v l ≡ b
          → value_in v (fin.get (cond h xs (with_line xs l)) k) ≡ cond b (or_spelled (value_in v (fin.get xs k)) l.bytes) (value_in v (fin.get xs k))
      by true t false u = refl
      by true t true u = stays (value_in v (fin.get xs k)) l.bytes (here true t u)
      by false t false u = value_line xs l k v ∙ ap (λ b. cond b (Some l.bytes) (value_in v (fin.get xs k))) u
      by false t true u = value_line xs l k v ∙ ap (λ b. cond b (Some l.bytes) (value_in v (fin.get xs k))) u ∙ comes (value_in v (fin.get xs k)) l.bytes (here false t u)

  spelled_missing : (k : Attr) → spelled_in (fin.get (with_missing_line xs l) k) ≡ cond (is_line_of k l) (or_spelled (spelled_in (fin.get xs k)) l.description.spelling) (spelled_in (fin.get xs k))
  spelled_missing k = by (has_value xs l.description.key l.key) refl (is_line_of k l) refl
    where
      by : (h : Bool) → has_value xs l.description.key l.key ≡ h → (b : Bool) → is_line_of k l ≡ b
          → spelled_in (fin.get (cond h xs (with_line xs l)) k) ≡ cond b (or_spelled (spelled_in (fin.get xs k)) l.description.spelling) (spelled_in (fin.get xs k))
      by true t false u = refl
      by true t true u =
          let same : k ≡ l.description.key = (attr_eq_decides k l.description.key).0 u in
          stays (spelled_in (fin.get xs k)) l.description.spelling (spelled_there l.key (fin.get xs k) (ap (λ j. has_in l.key (fin.get xs j)) same ∙ t))
      by false t b u = spelled_line xs l k ∙ ap (λ b. cond b (or_spelled (spelled_in (fin.get xs k)) l.description.spelling) (spelled_in (fin.get xs k))) u

value_gained : (xs : StoredAttributes) (ls : List KeyedLine) (k : Attr) (v : ValueKey) → value_in v (fin.get (with_missing_lines xs ls) k) ≡ or_else (value_in v (fin.get xs k)) (option_map (λ l. l.bytes) (find (gives_value k v) ls))
value_gained xs [] k v = or_none (value_in v (fin.get xs k))
value_gained xs (l ∷ ls) k v =
    value_gained (with_missing_line xs l) ls k v
    ∙ ap (λ o. or_else o (option_map (λ (l : KeyedLine). l.bytes) (find (gives_value k v) ls))) (value_missing xs l k v)
    ∙ or_first (gives_value k v l) (value_in v (fin.get xs k)) l.bytes (λ l. l.bytes) l (find (gives_value k v) ls) refl

spelled_gained : (xs : StoredAttributes) (ls : List KeyedLine) (k : Attr) → spelled_in (fin.get (with_missing_lines xs ls) k) ≡ or_else (spelled_in (fin.get xs k)) (option_map (λ l. l.description.spelling) (find (is_line_of k) ls))
spelled_gained xs [] k = or_none (spelled_in (fin.get xs k))
spelled_gained xs (l ∷ ls) k =
    spelled_gained (with_missing_line xs l) ls k
    ∙ ap (λ o. or_else o (option_map (λ (l : KeyedLine). l.description.spelling) (find (is_line_of k) ls))) (spelled_missing xs l k)
    ∙ or_first (is_line_of k l) (spelled_in (fin.get xs k)) l.description.spelling (λ l. l.description.spelling) l (find (is_line_of k) ls) refl

-- ---- the values of the lines

first_found : (p : KeyedLine → Bool) (ls : List KeyedLine) → first_spelled None (filter p ls) ≡ option_map (λ l. l.description.spelling) (find p ls)
first_found p [] = refl
first_found p (l ∷ ls) = by (first_found p ls) (p l)
  where
    by : first_spelled None (filter p ls) ≡ option_map (λ (l : KeyedLine). l.description.spelling) (find p ls) → (b : Bool)
        → first_spelled None (cond b (l ∷ filter p ls) (filter p ls)) ≡ option_map (λ (l : KeyedLine). l.description.spelling) (cond b (Some l) (find p ls))
    by rest true = refl
    by rest false = rest

last_found : (p : KeyedLine → Bool) (ls : List KeyedLine) → few (filter p ls) ≡ true → last_value None (filter p ls) ≡ option_map (λ l. l.bytes) (find p ls)
last_found p [] e = refl
last_found p (l ∷ ls) e = by (last_found p ls) (p l) e
  where
    by : (few (filter p ls) ≡ true → last_value None (filter p ls) ≡ option_map (λ (l : KeyedLine). l.bytes) (find p ls)) → (b : Bool)
        → few (cond b (l ∷ filter p ls) (filter p ls)) ≡ true
        → last_value None (cond b (l ∷ filter p ls) (filter p ls)) ≡ option_map (λ (l : KeyedLine). l.bytes) (cond b (Some l) (find p ls))
    by rest true e = ap (last_value (Some l.bytes)) (few_tail l (filter p ls) e)
    by rest false e = rest e

holds_first : (given pairs : List KeyedLine) → give_distinct_values given ≡ true → HoldsFirst (with_missing_lines (with_lines fin.empty given) pairs) (given ++ pairs)
holds_first given pairs apart k = (
  spelled_gained (with_lines fin.empty given) pairs k
      ∙ ap (λ o. or_else o (option_map (λ (l : KeyedLine). l.description.spelling) (find (is_line_of k) pairs)))
      (spelled_all fin.empty given k ∙ ap (λ o. first_spelled (spelled_in o) (filter (is_line_of k) given)) (get-empty attr_cmp k) ∙ first_found (is_line_of k) given)
      ∙ first_behind (λ l. l.description.spelling) (is_line_of k) given pairs,
  λ v. value_gained (with_lines fin.empty given) pairs k v
      ∙ ap (λ o. or_else o (option_map (λ (l : KeyedLine). l.bytes) (find (gives_value k v) pairs)))
      (value_all fin.empty given k v ∙ ap (λ o. last_value (value_in v o) (filter (gives_value k v) given)) (get-empty attr_cmp k) ∙ last_found (gives_value k v) given (apart_few given apart k v))
      ∙ first_behind (λ l. l.bytes) (gives_value k v) given pairs,
)

-- ---- the entry

pub entries_hold : EntriesHoldTheirLines
entries_hold rows own lines e is = by (leaf_key rows own) refl (keyed_lines rows lines) refl is
  where
    keyed_leaf : (o : Option SpelledRdn) (key : RdnKeys) → option_and_then (rdn_key rows) o ≡ Some key → is_some (option_and_then (rdn_lines rows) o) ≡ true
    keyed_leaf None key e = absurd (cc)
    keyed_leaf (Some leaf) key e = keyed_rdn rows leaf (ap is_some e)

    last : (key : RdnKeys) (given : List KeyedLine) → leaf_key rows own ≡ Some key → keyed_lines rows lines ≡ Some given → give_distinct_values given ≡ true
        → (o : Option (List KeyedLine)) → leaf_lines rows own ≡ o
        → (b : Bool) → cond b (Err Single) (Ok (record { own = own; key = key; attributes = with_missing_of (with_lines fin.empty given) o })) ≡ Ok e → HoldsItsLines rows own lines e
    last key given t u apart None w b h = absurd (true≢false (sym (ap is_some (sym w) ∙ keyed_leaf (leaf_of own) key t)))
    last key given t u apart (Some pairs) w true h = absurd (cc)
    last key given t u apart (Some pairs) w false h =
        let whole : Content = record { own = own; key = key; attributes = with_missing_lines (with_lines fin.empty given) pairs } in
        let same : whole ≡ e = cc in
        (given, pairs, u, w, apart, subst (λ (z : Content). HoldsFirst z.attributes (given ++ pairs)) same (holds_first given pairs apart))

    gather : (key : RdnKeys) (given : List KeyedLine) → leaf_key rows own ≡ Some key → keyed_lines rows lines ≡ Some given → (b : Bool) → give_distinct_values given ≡ b
        → and_then (cond b (Ok (with_lines fin.empty given)) (Err Twice)) (λ xs. ok_unless_exceeding rows (record { own = own; key = key; attributes = with_missing_of xs (leaf_lines rows own) })) ≡ Ok e → HoldsItsLines rows own lines e
    gather key given t u false apart h = absurd (cc)
    gather key given t u true apart h = last key given t u apart (leaf_lines rows own) refl (exceeds_single_value rows (with_missing_of (with_lines fin.empty given) (leaf_lines rows own))) h

    by : (o : Option RdnKeys) → leaf_key rows own ≡ o → (p : Option (List KeyedLine)) → keyed_lines rows lines ≡ p
        → and_then (ok_or o NotNamed) (λ key. and_then (and_then (ok_or p BadValue) attributes_if_distinct) (λ xs. ok_unless_exceeding rows (record { own = own; key = key; attributes = with_missing_of xs (leaf_lines rows own) }))) ≡ Ok e → HoldsItsLines rows own lines e
    by None t p u h = absurd (cc)
    by (Some key) t None u h = absurd (cc)
    by (Some key) t (Some given) u h = gather key given t u (give_distinct_values given) refl h
