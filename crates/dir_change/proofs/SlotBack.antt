-- The modifications from what is under a key to what is to be there lead to it.
use Rattle.std.proofs.Common.{◌≡◌, ℕ, suc, Bool, true, false, cond, not, ◌&&◌, ◌||◌, ◌==◌, List, [], ◌∷◌, ◌++◌, length, Option, Some, None, is_some, Result, Ok, Err, refl, sym, ap, subst, ◌∙◌, true≢false, arith}
use Rattle.std.proofs.lemmas.Bool.Decides.{nat_tests}
use Rattle.std.specs.Bool.{⊤}
use Rattle.std.specs.FinMap as fin
use Rattle.std.specs.FinMap.{get-empty, len-entries}
use Rattle.std.specs.Option.{ok_or}
use Rattle.dir_names.specs.declared.schema.TypeRow.{TypeRow}
use Rattle.dir_names.specs.declared.value.ValueKey.{ValueKey}
use Rattle.dir_names.specs.Attr.{Attr}
use Rattle.dir_names.specs.Orders.{bytes_eq, bytes_eq_decides}
use Rattle.dir_names.specs.Results.{and_then}
use Rattle.dir_names.specs.Values.{value_key_cmp}
use Rattle.dir_ldif.specs.declared.records.Mod.{Mod}
use Rattle.dir_ldif.specs.declared.records.ModOp.TheVariants as op
use Rattle.dir_tree.specs.Content.{Stored, StoredValues}
use Rattle.dir_tree.specs.Slots.{slot_of, spelling_or, values_of}
use Rattle.dir_tree.specs.WellFormed.{Each, IsSoundAttribute, IsSoundValue}
use Rattle.dir_change.specs.Difference.{are_bytes_of, bytes_of, has_exactly, modification, modification_if_any, slot_difference, values_missing_in}
use Rattle.dir_change.specs.Modify.{KeyedValues, are_distinct, has_all, has_any, if_keyed, keyed_values, slot_after, slot_of_given, slot_with, slot_without, values_with, values_without}
use Rattle.dir_change.specs.Refusals.{unless}
use Rattle.dir_change.specs.declared.result_code.ResultCode.{ResultCode}
use Rattle.dir_change.specs.declared.result_code.ResultCode.TheVariants.{AttributeOrValueExists, InvalidAttributeSyntax, NoSuchAttribute}
use Rattle.dir_change.proofs.ValueSets.{all_given, distinct_entries, distinct_passing, each_passing, find_passing, found, found_entries, get_with, get_without, if_passing, keyed_again, none_given, or_else, same_values}

-- several modifications of one key, in order
abbrev pub slot_after_all : List TypeRow → Option Stored → List Mod → Result (Option Stored) ResultCode
slot_after_all rows slot [] = Ok slot
slot_after_all rows slot (m ∷ ms) = and_then (slot_after rows m slot) (λ s. slot_after_all rows s ms)

abbrev pub IsSoundSlot : List TypeRow → Attr → Option Stored → Type 0
IsSoundSlot rows k None = ⊤
IsSoundSlot rows k (Some a) = IsSoundAttribute rows (k, a)

-- ---- an attribute with values

length_zero : {A : Type 0} (xs : List A) → (length xs == 0) ≡ true → xs ≡ []
length_zero [] h = refl
length_zero (x ∷ xs) h = let none : suc (length xs) ≡ 0 = grind (arith, nat_tests) in absurd (omega (arith, none))

pub slot_there : (spelling : List ℕ) (values : StoredValues) → (fin.entries values ≡ [] → ⊥) → slot_of spelling values ≡ Some (record { spelling = spelling; values = values })
slot_there spelling values some = ap (λ b. cond b None (Some (record { spelling = spelling; values = values }))) (by (fin.len values == 0) refl)
  where
    by : (b : Bool) → (fin.len values == 0) ≡ b → b ≡ false
    by false t = refl
    by true t = absurd (some (length_zero (fin.entries values) (ap (λ n. n == 0) (sym (len-entries values)) ∙ t)))

pub empty_of_zero : (values : StoredValues) → (fin.len values == 0) ≡ true → (v : ValueKey) → fin.get values v ≡ None
empty_of_zero values t v =
    sym (found_entries values v) ∙ ap (found v) (length_zero (fin.entries values) (ap (λ n. n == 0) (sym (len-entries values)) ∙ t))

-- the values under a key, also where there are none
values_in_slot : (spelling : List ℕ) (values : StoredValues) → values_of (slot_of spelling values) ≡ values
values_in_slot spelling values = by (fin.len values == 0) refl
  where
    by : (b : Bool) → (fin.len values == 0) ≡ b → values_of (cond b None (Some (record { spelling = spelling; values = values }))) ≡ values
    by false t = refl
    by true t = same_values fin.empty values (λ v. get-empty value_key_cmp v ∙ sym (empty_of_zero values t v))

spelling_in_slot : (spelling : List ℕ) (values : StoredValues) → spelling_or spelling (slot_of spelling values) ≡ spelling
spelling_in_slot spelling values = by (fin.len values == 0)
  where
    by : (b : Bool) → spelling_or spelling (cond b None (Some (record { spelling = spelling; values = values }))) ≡ spelling
    by false = refl
    by true = refl

-- ---- what one modification does

module _ (rows : List TypeRow) (k : Attr) where
  keyed_so : (m : Mod) (given : KeyedValues) (next : KeyedValues → Result (Option Stored) ResultCode) → keyed_values rows m.description.key m.values ≡ Some given → if_keyed rows m next ≡ next given
  keyed_so m given next e = ap (λ o. and_then (ok_or o InvalidAttributeSyntax) next) e

  added : (spelling : List ℕ) (slot : Option Stored) (p : ValueKey × List ℕ) (ps : KeyedValues) → Each (IsSoundValue rows k) (p ∷ ps) → are_distinct (p ∷ ps) ≡ true → has_any (values_of slot) (p ∷ ps) ≡ false →
      slot_after rows (modification k spelling op.Add (bytes_of (p ∷ ps))) slot ≡ Ok (slot_of (spelling_or spelling slot) (values_with (values_of slot) (p ∷ ps)))
  added spelling slot p ps sound distinct none =
      keyed_so (modification k spelling op.Add (bytes_of (p ∷ ps))) (p ∷ ps) (slot_with (modification k spelling op.Add (bytes_of (p ∷ ps))) slot) (keyed_again rows k (p ∷ ps) sound)
      ∙ (λ i. unless (not (distinct i) || none i) AttributeOrValueExists (Ok (slot_of (spelling_or spelling slot) (values_with (values_of slot) (p ∷ ps)))))

  removed : (spelling : List ℕ) (slot : Option Stored) (p : ValueKey × List ℕ) (ps : KeyedValues) → Each (IsSoundValue rows k) (p ∷ ps) → are_distinct (p ∷ ps) ≡ true → has_all (values_of slot) (p ∷ ps) ≡ true →
      slot_after rows (modification k spelling op.Delete (bytes_of (p ∷ ps))) slot ≡ Ok (slot_of (spelling_or spelling slot) (values_without (values_of slot) (p ∷ ps)))
  removed spelling slot p ps sound distinct all =
      keyed_so (modification k spelling op.Delete (bytes_of (p ∷ ps))) (p ∷ ps) (slot_without (modification k spelling op.Delete (bytes_of (p ∷ ps))) slot) (keyed_again rows k (p ∷ ps) sound)
      ∙ (λ i. unless (not (distinct i && all i)) NoSuchAttribute (Ok (slot_of (spelling_or spelling slot) (values_without (values_of slot) (p ∷ ps)))))

  replaced : (spelling : List ℕ) (slot : Option Stored) (p : ValueKey × List ℕ) (ps : KeyedValues) → Each (IsSoundValue rows k) (p ∷ ps) → are_distinct (p ∷ ps) ≡ true →
      slot_after rows (modification k spelling op.Replace (bytes_of (p ∷ ps))) slot ≡ Ok (slot_of spelling (values_with fin.empty (p ∷ ps)))
  replaced spelling slot p ps sound distinct =
      keyed_so (modification k spelling op.Replace (bytes_of (p ∷ ps))) (p ∷ ps) (slot_of_given (modification k spelling op.Replace (bytes_of (p ∷ ps)))) (keyed_again rows k (p ∷ ps) sound)
      ∙ (λ i. unless (not (distinct i)) AttributeOrValueExists (Ok (slot_of spelling (values_with fin.empty (p ∷ ps)))))

  -- all values of an attribute, put where there are none
  whole : (values : StoredValues) → values_with fin.empty (fin.entries values) ≡ values
  whole values = same_values _ values (λ v.
      get_with (fin.entries values) fin.empty (distinct_entries values) v
      ∙ (λ i. or_else (found_entries values v i) (get-empty {X = List ℕ} value_key_cmp v i))
      ∙ or_none (fin.get values v))
    where
      or_none : (o : Option (List ℕ)) → or_else o None ≡ o
      or_none None = refl
      or_none (Some x) = refl

  put_back : (b : Stored) → IsSoundAttribute rows (k, b) → slot_of b.spelling (values_with fin.empty (fin.entries b.values)) ≡ Some b
  put_back b sound = ap (slot_of b.spelling) (whole b.values) ∙ slot_there b.spelling b.values sound.1

  pub none_in_empty : (given : KeyedValues) → has_any fin.empty given ≡ false
  none_in_empty given = none_given (fin.contains_key fin.empty) given (λ v there. ap is_some (get-empty {X = List ℕ} value_key_cmp v))

  add_all : (b : Stored) → IsSoundAttribute rows (k, b) → slot_after_all rows None (modification k b.spelling op.Add (bytes_of (fin.entries b.values)) ∷ []) ≡ Ok (Some b)
  add_all b sound = by (fin.entries b.values) refl
    where
      by : (vs : KeyedValues) → fin.entries b.values ≡ vs → slot_after_all rows None (modification k b.spelling op.Add (bytes_of vs) ∷ []) ≡ Ok (Some b)
      by [] t = absurd (sound.1 t)
      by (p ∷ ps) t =
          ap (λ r. and_then r (λ s. Ok s)) (added b.spelling None p ps (subst (Each (IsSoundValue rows k)) t sound.2) (ap are_distinct (sym t) ∙ distinct_entries b.values) (none_in_empty (p ∷ ps)))
          ∙ ap (λ vs. Ok (slot_of b.spelling (values_with fin.empty vs))) (sym t)
          ∙ ap Ok (put_back b sound)

  replace_all : (slot : Option Stored) (b : Stored) → IsSoundAttribute rows (k, b) → slot_after_all rows slot (modification k b.spelling op.Replace (bytes_of (fin.entries b.values)) ∷ []) ≡ Ok (Some b)
  replace_all slot b sound = by (fin.entries b.values) refl
    where
      by : (vs : KeyedValues) → fin.entries b.values ≡ vs → slot_after_all rows slot (modification k b.spelling op.Replace (bytes_of vs) ∷ []) ≡ Ok (Some b)
      by [] t = absurd (sound.1 t)
      by (p ∷ ps) t =
          ap (λ r. and_then r (λ s. Ok s)) (replaced b.spelling slot p ps (subst (Each (IsSoundValue rows k)) t sound.2) (ap are_distinct (sym t) ∙ distinct_entries b.values))
          ∙ ap (λ vs. Ok (slot_of b.spelling (values_with fin.empty vs))) (sym t)
          ∙ ap Ok (put_back b sound)

  -- ---- the same spelling: the values that go, and then those that come

  -- delete of the values that are given, if there are any
  gone : (spelling : List ℕ) (a : Stored) (given : KeyedValues) → IsSoundAttribute rows (k, a) → a.spelling ≡ spelling → Each (IsSoundValue rows k) given → are_distinct given ≡ true → has_all a.values given ≡ true →
      slot_after_all rows (Some a) (modification_if_any k spelling op.Delete (bytes_of given)) ≡ Ok (slot_of spelling (values_without a.values given))
  gone spelling a [] sound same each distinct all =
      ap Ok (sym (ap (slot_of spelling) (same_values (values_without a.values []) a.values (λ v. get_without a.values [] v)) ∙ slot_there spelling a.values sound.1 ∙ (λ i. Some (record { spelling = sym same i; values = a.values }))))
  gone spelling a (p ∷ ps) sound same each distinct all =
      ap (λ r. and_then r (λ s. Ok s)) (removed spelling (Some a) p ps each distinct all)
      ∙ ap (λ s. Ok (slot_of s (values_without a.values (p ∷ ps)))) same

  -- add of the values that are given, if there are any
  come : (spelling : List ℕ) (values : StoredValues) (given : KeyedValues) → Each (IsSoundValue rows k) given → are_distinct given ≡ true → has_any values given ≡ false →
      slot_after_all rows (slot_of spelling values) (modification_if_any k spelling op.Add (bytes_of given)) ≡ Ok (slot_of spelling (values_with values given))
  come spelling values [] each distinct none = refl
  come spelling values (p ∷ ps) each distinct none =
      ap (λ r. and_then r (λ s. Ok s)) (added spelling (slot_of spelling values) p ps each distinct (ap (λ vs. has_any vs (p ∷ ps)) (values_in_slot spelling values) ∙ none))
      ∙ (λ i. Ok (slot_of (spelling_in_slot spelling values i) (values_with (values_in_slot spelling values i) (p ∷ ps))))

slot_after_append : (rows : List TypeRow) (slot : Option Stored) (ms ns : List Mod) → slot_after_all rows slot (ms ++ ns) ≡ and_then (slot_after_all rows slot ms) (λ s. slot_after_all rows s ns)
slot_after_append rows slot [] ns = refl
slot_after_append rows slot (m ∷ ms) ns = by (slot_after rows m slot) (λ s. slot_after_append rows s ms ns)
  where
    by : (r : Result (Option Stored) ResultCode) → ((s : Option Stored) → slot_after_all rows s (ms ++ ns) ≡ and_then (slot_after_all rows s ms) (λ s. slot_after_all rows s ns)) →
        and_then r (λ s. slot_after_all rows s (ms ++ ns)) ≡ and_then (and_then r (λ s. slot_after_all rows s ms)) (λ s. slot_after_all rows s ns)
    by (Ok s) rest = rest s
    by (Err code) rest = refl

-- ---- which values go and come

module _ (x y : StoredValues) where
  -- the bytes of the first that are not exactly those of the second
  abbrev pub if_differs : Option (List ℕ) → Option (List ℕ) → Option (List ℕ)
  if_differs None other = None
  if_differs (Some bytes) other = cond (not (are_bytes_of bytes other)) (Some bytes) None

  pub missing_found : (v : ValueKey) → found v (values_missing_in x y) ≡ if_differs (fin.get x v) (fin.get y v)
  missing_found v =
      find_passing (λ p. not (has_exactly y p)) (fin.entries x) (distinct_entries x) v
      ∙ ap (if_passing (λ p. not (has_exactly y p)) v) (found_entries x v)
      ∙ by (fin.get x v)
    where
      by : (o : Option (List ℕ)) → if_passing (λ p. not (has_exactly y p)) v o ≡ if_differs o (fin.get y v)
      by None = refl
      by (Some bytes) = refl

  pub distinct_missing : are_distinct (values_missing_in x y) ≡ true
  distinct_missing = distinct_passing (λ p. not (has_exactly y p)) (fin.entries x) (distinct_entries x)

  pub all_missing : has_all x (values_missing_in x y) ≡ true
  all_missing = all_given (fin.contains_key x) (values_missing_in x y) (λ v there. by v (fin.get x v) refl (sym (ap is_some (missing_found v)) ∙ there))
    where
      by : (v : ValueKey) (o : Option (List ℕ)) → fin.get x v ≡ o → is_some (if_differs o (fin.get y v)) ≡ true → is_some o ≡ true
      by v None t h = h
      by v (Some bytes) t h = refl

-- none of the values that come is still there
none_left : (x y : StoredValues) → has_any (values_without x (values_missing_in x y)) (values_missing_in y x) ≡ false
none_left x y = none_given (fin.contains_key (values_without x (values_missing_in x y))) (values_missing_in y x) (λ v there.
    ap is_some (get_without x (values_missing_in x y) v ∙ ap (λ o. cond (is_some o) None (fin.get x v)) (missing_found x y v))
    ∙ by (fin.get x v) (fin.get y v) (sym (ap is_some (missing_found y x v)) ∙ there))
  where
    by : (o u : Option (List ℕ)) → is_some (if_differs y x u o) ≡ true → is_some (cond (is_some (if_differs x y o u)) None o) ≡ false
    by None None h = refl
    by None (Some b) h = refl
    by (Some a) None h = refl
    by (Some a) (Some b) h = by_bytes (bytes_eq a b) refl (bytes_eq b a) refl h
      where
        by_bytes : (s : Bool) → bytes_eq a b ≡ s → (t : Bool) → bytes_eq b a ≡ t → is_some (cond (not t) (Some b) None) ≡ true → is_some (cond (is_some (cond (not s) (Some a) None)) None (Some a)) ≡ false
        by_bytes s e true f h = absurd (true≢false (sym h))
        by_bytes true e false f h = absurd (true≢false (sym ((bytes_eq_decides b a).1 (sym ((bytes_eq_decides a b).0 e))) ∙ f))
        by_bytes false e false f h = refl

-- what is left, with the values that come
exchanged : (x y : StoredValues) → values_with (values_without x (values_missing_in x y)) (values_missing_in y x) ≡ y
exchanged x y = same_values _ y (λ v.
    get_with (values_missing_in y x) (values_without x (values_missing_in x y)) (distinct_missing y x) v
    ∙ (λ i. or_else (missing_found y x v i) ((get_without x (values_missing_in x y) v ∙ ap (λ o. cond (is_some o) None (fin.get x v)) (missing_found x y v)) i))
    ∙ by (fin.get x v) (fin.get y v))
  where
    by : (o u : Option (List ℕ)) → or_else (if_differs y x u o) (cond (is_some (if_differs x y o u)) None o) ≡ u
    by None None = refl
    by None (Some b) = refl
    by (Some a) None = refl
    by (Some a) (Some b) = by_bytes (bytes_eq a b) refl (bytes_eq b a) refl
      where
        by_bytes : (s : Bool) → bytes_eq a b ≡ s → (t : Bool) → bytes_eq b a ≡ t → or_else (cond (not t) (Some b) None) (cond (is_some (cond (not s) (Some a) None)) None (Some a)) ≡ Some b
        by_bytes s e false f = refl
        by_bytes true e true f = ap Some ((bytes_eq_decides a b).0 e)
        by_bytes false e true f = absurd (true≢false (sym ((bytes_eq_decides a b).1 (sym ((bytes_eq_decides b a).0 f))) ∙ e))

-- ---- all cases

pub slot_back : (rows : List TypeRow) (k : Attr) (x y : Option Stored) → IsSoundSlot rows k x → IsSoundSlot rows k y → slot_after_all rows x (slot_difference k x y) ≡ Ok y
slot_back rows k None None f g = refl
slot_back rows k (Some a) None f g = refl
slot_back rows k None (Some b) f g = add_all rows k b g
slot_back rows k (Some a) (Some b) f g = by (bytes_eq a.spelling b.spelling) refl
  where
    go : KeyedValues
    go = values_missing_in a.values b.values

    arrive : KeyedValues
    arrive = values_missing_in b.values a.values

    by : (s : Bool) → bytes_eq a.spelling b.spelling ≡ s →
        slot_after_all rows (Some a) (cond s (modification_if_any k b.spelling op.Delete (bytes_of go) ++ modification_if_any k b.spelling op.Add (bytes_of arrive)) (modification k b.spelling op.Replace (bytes_of (fin.entries b.values)) ∷ [])) ≡ Ok (Some b)
    by false t = replace_all rows k (Some a) b g
    by true t =
        slot_after_append rows (Some a) (modification_if_any k b.spelling op.Delete (bytes_of go)) (modification_if_any k b.spelling op.Add (bytes_of arrive))
        ∙ ap (λ r. and_then r (λ s. slot_after_all rows s (modification_if_any k b.spelling op.Add (bytes_of arrive))))
        (gone rows k b.spelling a go f ((bytes_eq_decides a.spelling b.spelling).0 t) (each_passing (λ p. not (has_exactly b.values p)) (IsSoundValue rows k) (fin.entries a.values) f.2) (distinct_missing a.values b.values) (all_missing a.values b.values))
        ∙ come rows k b.spelling (values_without a.values go) arrive (each_passing (λ p. not (has_exactly a.values p)) (IsSoundValue rows k) (fin.entries b.values) g.2) (distinct_missing b.values a.values) (none_left a.values b.values)
        ∙ ap (λ vs. Ok (slot_of b.spelling vs)) (exchanged a.values b.values)
        ∙ ap Ok (slot_there b.spelling b.values g.1)
