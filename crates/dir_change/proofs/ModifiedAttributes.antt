-- Attributes after modifications: those that are sound stay so, and no other key is touched.
use Rattle.std.proofs.Common.{◌≡◌, ℕ, Bool, true, false, cond, not, ◌&&◌, ◌||◌, ◌==◌, List, [], ◌∷◌, ◌++◌, length, map, ℤ, Option, Some, None, is_some, Result, Ok, Err, refl, sym, ap, subst, ◌∙◌, true≢false}
use Rattle.std.specs.List.{list_all, list_any}
use Rattle.std.specs.FinMap as fin
use Rattle.std.specs.FinMap.{len-entries}
use Rattle.std.specs.Option.{ok_or}
use Rattle.std.specs.Ordering.{eq_by_cmp}
use Rattle.dir_names.specs.declared.schema.Rule.TheVariants.{Integer}
use Rattle.dir_names.specs.declared.schema.TypeRow.{TypeRow}
use Rattle.dir_names.specs.declared.value.ValueKey.{ValueKey}
use Rattle.dir_names.specs.Attr.{Attr}
use Rattle.dir_names.specs.Descriptions.{description_of}
use Rattle.dir_names.specs.Orders.{attr_cmp, attr_cmp_ties, attr_cmp_total, attr_cmp_exact, attr_eq, bytes_eq_decides}
use Rattle.dir_names.specs.Results.{and_then}
use Rattle.dir_names.specs.Sorted.{set_of}
use Rattle.dir_names.specs.Table.{rule_of}
use Rattle.dir_names.specs.Values.{value_key_cmp, value_key_cmp_total, value_key_cmp_exact}
use Rattle.dir_ldif.specs.declared.records.Mod.{Mod}
use Rattle.dir_ldif.specs.declared.records.ModOp.{ModOp}
use Rattle.dir_ldif.specs.declared.records.ModOp.TheVariants as op
use Rattle.dir_names.proofs.Both.{left, right}
use Rattle.dir_tree.specs.Content.{Stored, StoredAttributes, StoredValues}
use Rattle.dir_tree.specs.Slots.{slot_of, spelling_or, values_of, with_slot}
use Rattle.dir_tree.specs.WellFormed.{Each, IsSoundAttribute, IsSoundValue}
use Rattle.dir_tree.proofs.EachEntry.{each_entry}
use Rattle.dir_tree.proofs.SoundMade.{each_get, each_insert, entries_of_none}
use Rattle.dir_change.specs.Difference.{bytes_of, difference, difference_at, modification_if_any, slot_difference, values_missing_in}
use Rattle.dir_change.specs.Increment.{keyed_integer, number_within, sums}
use Rattle.dir_change.specs.Modify.{KeyedValues, are_distinct, attributes_after, has_all, has_any, has_integers, is_given, keyed_value, keyed_values, no_slot, slot_after, slot_after_op, slot_incremented, slot_of_given, slot_with, slot_with_sums, slot_without, values_with, values_without}
use Rattle.dir_change.specs.Refusals.{unless}
use Rattle.dir_change.specs.declared.result_code.ResultCode.{ResultCode}
use Rattle.dir_change.specs.declared.result_code.ResultCode.TheVariants.{AttributeOrValueExists, ConstraintViolation, InvalidAttributeSyntax, NoSuchAttribute}
use Rattle.dir_change.proofs.AttributesBack.{AreSoundSlots, attr_itself, difference_of_key, get_slot, neither}
use Rattle.dir_change.proofs.IncrementedValues.{integers_only, sums_sound}
use Rattle.dir_change.proofs.KeysInOrder.{is_among, same_attr, same_listed, set_among, set_rises}
use Rattle.dir_change.proofs.LegalValues.{IsLegalMod, keyed_sound}
use Rattle.dir_change.proofs.SlotBack.{IsSoundSlot, if_differs, missing_found}
use Rattle.dir_change.proofs.ValueSets.{found, get_without, value_itself}

-- ---- the attributes of an entry, and what is under each key

pub slots_of_attributes : (rows : List TypeRow) (xs : StoredAttributes) → Each (IsSoundAttribute rows) (fin.entries xs) → AreSoundSlots rows xs
slots_of_attributes rows xs each k = by (fin.get xs k) refl
  where
    by : (o : Option Stored) → fin.get xs k ≡ o → IsSoundSlot rows k o
    by None t = tt
    by (Some a) t = each_get attr_cmp_total attr_cmp_exact (IsSoundAttribute rows) xs k a each t

pub attributes_of_slots : (rows : List TypeRow) (xs : StoredAttributes) → AreSoundSlots rows xs → Each (IsSoundAttribute rows) (fin.entries xs)
attributes_of_slots rows xs sound = each_entry attr_cmp_total attr_cmp_exact (IsSoundAttribute rows) xs (λ k a there. subst (IsSoundSlot rows k) there (sound k))

-- ---- what a modification leaves

module _ (rows : List TypeRow) (k : Attr) where
  with_sound : (values : StoredValues) (given : KeyedValues) → Each (IsSoundValue rows k) (fin.entries values) → Each (IsSoundValue rows k) given → Each (IsSoundValue rows k) (fin.entries (values_with values given))
  with_sound values [] each more = each
  with_sound values (p ∷ ps) each more = with_sound (fin.insert values p.0 p.1) ps (each_insert value_key_cmp_total value_key_cmp_exact (IsSoundValue rows k) values p.0 p.1 more.0 each) more.1

  without_sound : (values : StoredValues) (given : KeyedValues) → Each (IsSoundValue rows k) (fin.entries values) → Each (IsSoundValue rows k) (fin.entries (values_without values given))
  without_sound values given each = each_entry value_key_cmp_total value_key_cmp_exact (IsSoundValue rows k) (values_without values given) (λ v bytes there.
      by v bytes (is_given v given) (sym (get_without values given v) ∙ there))
    where
      by : (v : ValueKey) (bytes : List ℕ) (b : Bool) → cond b None (fin.get values v) ≡ Some bytes → IsSoundValue rows k (v, bytes)
      by v bytes true h = absurd (cc)
      by v bytes false h = each_get value_key_cmp_total value_key_cmp_exact (IsSoundValue rows k) values v bytes each h

  empty_sound : Each (IsSoundValue rows k) (fin.entries (fin.empty {K = ValueKey} {X = List ℕ} {R = value_key_cmp}))
  empty_sound = subst (Each (IsSoundValue rows k)) (sym (entries_of_none value_key_cmp)) tt

  values_sound : (slot : Option Stored) → IsSoundSlot rows k slot → Each (IsSoundValue rows k) (fin.entries (values_of slot))
  values_sound None sound = empty_sound
  values_sound (Some a) sound = sound.2

  slot_sound : (spelling : List ℕ) (values : StoredValues) → description_of rows spelling ≡ Ok (record { spelling = spelling; key = k }) → Each (IsSoundValue rows k) (fin.entries values) → IsSoundSlot rows k (slot_of spelling values)
  slot_sound spelling values read each = by (fin.len values == 0) refl
    where
      by : (b : Bool) → (fin.len values == 0) ≡ b → IsSoundSlot rows k (cond b None (Some (record { spelling = spelling; values = values })))
      by true t = tt
      by false t = (read, (λ none. true≢false (ap (λ n. n == 0) (sym (len-entries values ∙ ap length none)) ∙ t)), each)

  spelling_sound : (spelling : List ℕ) (slot : Option Stored) → description_of rows spelling ≡ Ok (record { spelling = spelling; key = k }) → IsSoundSlot rows k slot →
      description_of rows (spelling_or spelling slot) ≡ Ok (record { spelling = spelling_or spelling slot; key = k })
  spelling_sound spelling None read sound = read
  spelling_sound spelling (Some a) read sound = sound.0

ok_is : {A : Type 0} (b : Bool) (code : ResultCode) (x y : A) → unless b code (Ok x) ≡ Ok y → x ≡ y
ok_is true code x y h = absurd (cc)
ok_is false code x y h = cc

abbrev pub named_keys : List Mod → List Attr
named_keys mods = map (λ m. m.description.key) mods

module _ (rows : List TypeRow) where
  pub slot_stays_sound : (m : Mod) (slot new : Option Stored) → IsLegalMod rows m → IsSoundSlot rows m.description.key slot → slot_after rows m slot ≡ Ok new → IsSoundSlot rows m.description.key new
  slot_stays_sound m slot new legal sound is = by m.op m.values is
    where
      k : Attr
      k = m.description.key

      keyed : (next : KeyedValues → Result (Option Stored) ResultCode) → ((given : KeyedValues) → Each (IsSoundValue rows k) given → next given ≡ Ok new → IsSoundSlot rows k new) →
          and_then (ok_or (keyed_values rows k m.values) InvalidAttributeSyntax) next ≡ Ok new → IsSoundSlot rows k new
      keyed next then h = by_keys (keyed_values rows k m.values) refl h
        where
          by_keys : (o : Option KeyedValues) → keyed_values rows k m.values ≡ o → and_then (ok_or o InvalidAttributeSyntax) next ≡ Ok new → IsSoundSlot rows k new
          by_keys None t h = absurd (cc)
          by_keys (Some given) t h = then given (keyed_sound rows k m.values given legal.1 t) h

      by_add : (given : KeyedValues) → Each (IsSoundValue rows k) given → slot_with m slot given ≡ Ok new → IsSoundSlot rows k new
      by_add given each h =
          subst (IsSoundSlot rows k) (ok_is (not (are_distinct given) || has_any (values_of slot) given) AttributeOrValueExists (slot_of (spelling_or m.description.spelling slot) (values_with (values_of slot) given)) new h)
          (slot_sound rows k (spelling_or m.description.spelling slot) (values_with (values_of slot) given) (spelling_sound rows k m.description.spelling slot legal.0 sound) (with_sound rows k (values_of slot) given (values_sound rows k slot sound) each))

      by_delete : (given : KeyedValues) → Each (IsSoundValue rows k) given → slot_without m slot given ≡ Ok new → IsSoundSlot rows k new
      by_delete given each h =
          subst (IsSoundSlot rows k) (ok_is (not (are_distinct given && has_all (values_of slot) given)) NoSuchAttribute (slot_of (spelling_or m.description.spelling slot) (values_without (values_of slot) given)) new h)
          (slot_sound rows k (spelling_or m.description.spelling slot) (values_without (values_of slot) given) (spelling_sound rows k m.description.spelling slot legal.0 sound) (without_sound rows k (values_of slot) given (values_sound rows k slot sound)))

      by_replace : (given : KeyedValues) → Each (IsSoundValue rows k) given → slot_of_given m given ≡ Ok new → IsSoundSlot rows k new
      by_replace given each h =
          subst (IsSoundSlot rows k) (ok_is (not (are_distinct given)) AttributeOrValueExists (slot_of m.description.spelling (values_with fin.empty given)) new h)
          (slot_sound rows k m.description.spelling (values_with fin.empty given) legal.0 (with_sound rows k fin.empty given (empty_sound rows k) each))

      none : ◌≡◌ {A = Result (Option Stored) ResultCode} (Ok None) (Ok new) → IsSoundSlot rows k new
      none h = let same : None ≡ new = cc in subst (IsSoundSlot rows k) same tt

      whole : (slot : Option Stored) → no_slot slot ≡ Ok new → IsSoundSlot rows k new
      whole None h = absurd (cc)
      whole (Some a) h = none h

      -- increment
      by_sums : rule_of rows k ≡ Integer → (amount : List ℕ) (slot : Option Stored) → IsSoundSlot rows k slot → slot_with_sums amount slot ≡ Ok new → IsSoundSlot rows k new
      by_sums rule amount None is_sound h = absurd (cc)
      by_sums rule amount (Some a) is_sound h = by_number (number_within amount) h
        where
          by_texts : (number : ℤ) (o : Option (List (List ℕ))) → sums number a.values ≡ o → and_then (ok_or o ConstraintViolation) (λ texts. Ok (slot_of a.spelling (values_with fin.empty (map keyed_integer texts)))) ≡ Ok new → IsSoundSlot rows k new
          by_texts number None t e = absurd (cc)
          by_texts number (Some texts) t e =
              let same : slot_of a.spelling (values_with fin.empty (map keyed_integer texts)) ≡ new = cc in
              subst (IsSoundSlot rows k) same (slot_sound rows k a.spelling (values_with fin.empty (map keyed_integer texts)) is_sound.0 (with_sound rows k fin.empty (map keyed_integer texts) (empty_sound rows k) (sums_sound rows k rule number (fin.entries a.values) texts t)))

          by_number : (o : Option ℤ) → and_then (ok_or o ConstraintViolation) (λ number. and_then (ok_or (sums number a.values) ConstraintViolation) (λ texts. Ok (slot_of a.spelling (values_with fin.empty (map keyed_integer texts))))) ≡ Ok new → IsSoundSlot rows k new
          by_number None e = absurd (cc)
          by_number (Some number) e = by_texts number (sums number a.values) refl e

      incremented : (values : List (List ℕ)) → slot_incremented rows k values slot ≡ Ok new → IsSoundSlot rows k new
      incremented [] h = absurd (cc)
      incremented (amount ∷ another ∷ vs) h = absurd (cc)
      incremented (amount ∷ []) h = by_rule (has_integers (rule_of rows k)) (is_some (keyed_value rows k amount)) refl h
        where
          by_rule : (b c : Bool) → has_integers (rule_of rows k) ≡ b → unless (not (b && c)) InvalidAttributeSyntax (slot_with_sums amount slot) ≡ Ok new → IsSoundSlot rows k new
          by_rule false c t e = absurd (cc)
          by_rule true false t e = absurd (cc)
          by_rule true true t e = by_sums (integers_only (rule_of rows k) t) amount slot sound e

      by : (what : ModOp) (values : List (List ℕ)) → slot_after_op rows m what values slot ≡ Ok new → IsSoundSlot rows k new
      by op.Add [] h = absurd (cc)
      by op.Add (v ∷ vs) h = keyed (slot_with m slot) by_add h
      by op.Delete [] h = whole slot h
      by op.Delete (v ∷ vs) h = keyed (slot_without m slot) by_delete h
      by op.Replace [] h = none h
      by op.Replace (v ∷ vs) h = keyed (slot_of_given m) by_replace h
      by op.Increment values h = incremented values h

  -- ---- all modifications, one after the other

  -- what a modification that is accepted leaves: all keys but its own as they were
  abbrev pub OneModified : StoredAttributes → Mod → StoredAttributes → Type 0
  OneModified xs m ys = (slot : Option Stored) × (slot_after rows m (fin.get xs m.description.key) ≡ Ok slot) × (ys ≡ with_slot xs m.description.key slot)

  pub after_first : (xs : StoredAttributes) (m : Mod) (ms : List Mod) (zs : StoredAttributes) → attributes_after rows xs (m ∷ ms) ≡ Ok zs → (ys : StoredAttributes) × OneModified xs m ys × (attributes_after rows ys ms ≡ Ok zs)
  after_first xs m ms zs is = by (slot_after rows m (fin.get xs m.description.key)) refl is
    where
      by : (r : Result (Option Stored) ResultCode) → slot_after rows m (fin.get xs m.description.key) ≡ r → and_then (and_then r (λ slot. Ok (with_slot xs m.description.key slot))) (λ ys. attributes_after rows ys ms) ≡ Ok zs →
          (ys : StoredAttributes) × OneModified xs m ys × (attributes_after rows ys ms ≡ Ok zs)
      by (Err code) t h = absurd (cc)
      by (Ok slot) t h = (with_slot xs m.description.key slot, (slot, t, refl), h)

  pub stay_sound : (xs : StoredAttributes) (mods : List Mod) (ys : StoredAttributes) → Each (IsLegalMod rows) mods → AreSoundSlots rows xs → attributes_after rows xs mods ≡ Ok ys → AreSoundSlots rows ys
  stay_sound xs [] ys legal sound is = let same : xs ≡ ys = cc in subst (AreSoundSlots rows) same sound
  stay_sound xs (m ∷ ms) zs legal sound is =
      let first = after_first xs m ms zs is in
      stay_sound first.0 ms zs legal.1 (λ q. subst (IsSoundSlot rows q) (sym (ap (λ ys. fin.get ys q) first.1.2 ∙ get_slot xs m.description.key first.1.0 q)) (by first.1.0 first.1.1 q (eq_by_cmp attr_cmp q m.description.key) refl)) first.2
    where
      by : (slot : Option Stored) → slot_after rows m (fin.get xs m.description.key) ≡ Ok slot → (q : Attr) (b : Bool) → eq_by_cmp attr_cmp q m.description.key ≡ b → IsSoundSlot rows q (cond b slot (fin.get xs q))
      by slot t q false e = sound q
      by slot t q true e = subst (λ z. IsSoundSlot rows z slot) (sym (same_attr q m.description.key e)) (slot_stays_sound m (fin.get xs m.description.key) slot legal.0 (sound m.description.key) t)

  -- a key that no modification names
  pub untouched : (xs : StoredAttributes) (mods : List Mod) (ys : StoredAttributes) → attributes_after rows xs mods ≡ Ok ys → (q : Attr) → is_among q (named_keys mods) ≡ false → fin.get ys q ≡ fin.get xs q
  untouched xs [] ys is q apart = let same : xs ≡ ys = cc in ap (λ zs. fin.get zs q) (sym same)
  untouched xs (m ∷ ms) zs is q apart =
      let first = after_first xs m ms zs is in
      let here = both_false (eq_by_cmp attr_cmp q m.description.key) (is_among q (named_keys ms)) apart in
      untouched first.0 ms zs first.2 q here.1
      ∙ ap (λ ys. fin.get ys q) first.1.2
      ∙ get_slot xs m.description.key first.1.0 q
      ∙ ap (λ b. cond b first.1.0 (fin.get xs q)) here.0
    where
      both_false : (a b : Bool) → (a || b) ≡ false → (a ≡ false) × (b ≡ false)
      both_false false false h = (refl, refl)
      both_false false true h = absurd (true≢false h)
      both_false true b h = absurd (true≢false h)

-- ---- the difference is one of the named keys

no_values : (x : StoredValues) → values_missing_in x x ≡ []
no_values x = by (values_missing_in x x) refl
  where
    alike : (o : Option (List ℕ)) → if_differs x x o o ≡ None
    alike None = refl
    alike (Some bytes) = ap (λ b. cond (not b) (Some bytes) None) ((bytes_eq_decides bytes bytes).1 refl)

    by : (es : KeyedValues) → values_missing_in x x ≡ es → values_missing_in x x ≡ []
    by [] t = t
    by (p ∷ ps) t = absurd (no (sym (missing_found x x p.0 ∙ alike (fin.get x p.0)) ∙ ap (found p.0) t ∙ head))
      where
        head : found p.0 (p ∷ ps) ≡ Some p.1
        head = ap (λ b. cond b (Some p.1) (found p.0 ps)) (value_itself p.0)

        no : ◌≡◌ {A = Option (List ℕ)} None (Some p.1) → ⊥
        no e = cc

pub no_difference : (k : Attr) (slot : Option Stored) → slot_difference k slot slot ≡ []
no_difference k None = refl
no_difference k (Some a) =
    ap (λ b. cond b (modification_if_any k a.spelling op.Delete (bytes_of (values_missing_in a.values a.values)) ++ modification_if_any k a.spelling op.Add (bytes_of (values_missing_in a.values a.values))) (record { op = op.Replace; description = record { spelling = a.spelling; key = k }; values = map (λ p. p.1) (fin.entries a.values) } ∷ [])) ((bytes_eq_decides a.spelling a.spelling).1 refl)
    ∙ ap (λ given. modification_if_any k a.spelling op.Delete (bytes_of given) ++ modification_if_any k a.spelling op.Add (bytes_of given)) (no_values a.values)

module _ (xs ys : StoredAttributes) where
  pub difference_named : (named : List Attr) → ((q : Attr) → is_among q named ≡ false → fin.get xs q ≡ fin.get ys q) → difference xs ys ≡ difference_at (set_of attr_cmp named) xs ys
  difference_named named apart = same_listed at (set_of attr_cmp (fin.keys xs ++ fin.keys ys)) (set_of attr_cmp named) (set_rises (fin.keys xs ++ fin.keys ys)) (set_rises named) (λ k some.
      in_either k some ∙ sym (set_among k named ∙ in_named k some))
    where
      at : Attr → List Mod
      at k = slot_difference k (fin.get xs k) (fin.get ys k)

      in_either : (k : Attr) → (at k ≡ [] → ⊥) → is_among k (set_of attr_cmp (fin.keys xs ++ fin.keys ys)) ≡ true
      in_either k some = by (is_among k (set_of attr_cmp (fin.keys xs ++ fin.keys ys))) refl
        where
          by : (b : Bool) → is_among k (set_of attr_cmp (fin.keys xs ++ fin.keys ys)) ≡ b → b ≡ true
          by true t = refl
          by false t = let none = neither xs ys k t in absurd (some (λ i. slot_difference k (none.0 i) (none.1 i)))

      in_named : (k : Attr) → (at k ≡ [] → ⊥) → is_among k named ≡ true
      in_named k some = by (is_among k named) refl
        where
          by : (b : Bool) → is_among k named ≡ b → b ≡ true
          by true t = refl
          by false t = absurd (some (ap (λ s. slot_difference k s (fin.get ys k)) (apart k t) ∙ no_difference k (fin.get ys k)))

-- ---- the keys of a difference

among_eq : (k : Attr) (ks : List Attr) → list_any (attr_eq k) ks ≡ is_among k ks
among_eq k [] = refl
among_eq k (x ∷ xs) = λ i. attr_cmp_ties k x i || among_eq k xs i

all_append : {A : Type 0} (p : A → Bool) (xs ys : List A) → list_all p xs ≡ true → list_all p ys ≡ true → list_all p (xs ++ ys) ≡ true
all_append p [] ys e h = h
all_append p (x ∷ xs) ys e h = λ i. left (p x) (list_all p xs) e i && all_append p xs ys (right (p x) (list_all p xs) e) h i

of_named : (named : List Attr) (k : Attr) (mods : List Mod) → is_among k named ≡ true → Each (λ m. m.description.key ≡ k) mods → list_all (λ m. list_any (attr_eq m.description.key) named) mods ≡ true
of_named named k [] there each = refl
of_named named k (m ∷ ms) there each = λ i. (ap (λ q. list_any (attr_eq q) named) each.0 ∙ among_eq k named ∙ there) i && of_named named k ms there each.1 i

module _ (rows : List TypeRow) (named : List Attr) (xs ys : StoredAttributes) where
  pub only_named : (ks : List Attr) → ((k : Attr) → is_among k ks ≡ true → is_among k named ≡ true) → list_all (λ m. list_any (attr_eq m.description.key) named) (difference_at ks xs ys) ≡ true
  only_named [] h = refl
  only_named (k ∷ ks) h =
      all_append (λ m. list_any (attr_eq m.description.key) named) (slot_difference k (fin.get xs k) (fin.get ys k)) (difference_at ks xs ys)
      (of_named named k (slot_difference k (fin.get xs k) (fin.get ys k)) (h k (ap (λ b. b || is_among k ks) (attr_itself k))) (difference_of_key rows k (fin.get xs k) (fin.get ys k)))
      (only_named ks (λ q there. h q (or_true (eq_by_cmp attr_cmp q k) (is_among q ks) there)))
    where
      or_true : (a b : Bool) → b ≡ true → (a || b) ≡ true
      or_true true b e = refl
      or_true false b e = e
