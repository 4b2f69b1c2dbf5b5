-- An entry after a rename: it is sound, and a rename back and the difference that is left lead to what it was.
use Rattle.std.proofs.Common.{◌≡◌, ℕ, ◌<◌, Bool, true, false, cond, not, ◌&&◌, ◌||◌, nat_lt, List, [], ◌∷◌, length, Option, Some, None, is_some, Ok, Err, refl, sym, ap, subst, ◌∙◌, true≢false, arith}
use Rattle.std.specs.List.{list_all, list_any}
use Rattle.std.proofs.lemmas.Bool.Decides.{nat_tests}
use Rattle.std.specs.FinMap as fin
use Rattle.std.specs.FinMap.{len-empty, len-entries}
use Rattle.std.specs.Ordering.{eq_by_cmp}
use Rattle.dir_names.specs.declared.schema.TypeRow.{TypeRow}
use Rattle.dir_names.specs.declared.value.ValueKey.{ValueKey}
use Rattle.dir_names.specs.declared.value.ValueKey.TheVariants.{Text}
use Rattle.dir_names.specs.Attr.{Attr}
use Rattle.dir_names.specs.Keys.{RdnKeys}
use Rattle.dir_names.specs.Names.{SpelledRdn}
use Rattle.dir_names.specs.NameKeys.{rdn_key}
use Rattle.dir_names.specs.Orders.{attr_cmp_exact, attr_cmp_total, attr_eq, attr_eq_decides, pair_eq}
use Rattle.dir_names.specs.Results.{and_then}
use Rattle.dir_names.specs.Table.{single_of}
use Rattle.dir_names.specs.Values.{value_key_cmp, value_key_eq, value_key_eq_decides}
use Rattle.dir_names.proofs.Both.{left, right}
use Rattle.dir_tree.specs.ChangedEntry.{changed_entry}
use Rattle.dir_tree.specs.Content.{Content, Stored, StoredAttributes, StoredValues, has_in, has_value}
use Rattle.dir_tree.specs.NewEntry.{exceeds_single_value, leaf_key, rdn_lines, with_missing_of}
use Rattle.dir_tree.specs.WellFormed.{Each, IsLegalPair, IsSoundEntry, has_each}
use Rattle.dir_tree.specs.declared.fault.EntryFault.TheVariants.{Single}
use Rattle.dir_tree.proofs.EachEntry.{each_entry}
use Rattle.dir_tree.proofs.GainedValues.{gained_apart, gained_sound, has_gained, in_rdn}
use Rattle.dir_tree.proofs.OwnValues.{by_rdn_key, each_passes, own_values}
use Rattle.dir_tree.proofs.SoundMade.{each_get}
use Rattle.dir_change.specs.Difference.{difference}
use Rattle.dir_change.specs.Inside.Touched.{AreSameApartFrom, has_type}
use Rattle.dir_change.specs.Modify.{KeyedValues, are_distinct, entry_after, is_given, with_attributes}
use Rattle.dir_change.specs.Refusals.{entry_or_code}
use Rattle.dir_change.specs.Rename.{pairs_missing_in, renamed, renamed_attributes, renamed_entry}
use Rattle.dir_change.proofs.AttributesBack.{AreSoundSlots, difference_leads}
use Rattle.dir_change.proofs.ModifiedAttributes.{attributes_of_slots, slots_of_attributes}
use Rattle.dir_change.proofs.ModifiedEntry.{slots_of_entry, sound_accepted}
use Rattle.dir_change.proofs.RenamedValues.{has_lost, in_missing, lost_apart, lost_sound}
use Rattle.dir_change.proofs.ValueSets.{distinct_entries, found, found_entries, same_value, value_itself}

-- ---- single types

-- a set of values with more than one has more than one in each set that has all of them
two_values : (m n : StoredValues) → ((v : ValueKey) → fin.contains_key m v ≡ true → fin.contains_key n v ≡ true) → nat_lt 1 (fin.len m) ≡ true → nat_lt 1 (fin.len n) ≡ true
two_values m n inside two = by (fin.entries m) refl (ap (nat_lt 1) (sym (len-entries m)) ∙ two)
  where
    more : (p q : ValueKey × List ℕ) (rest : KeyedValues) → fin.entries m ≡ p ∷ q ∷ rest → (ns : KeyedValues) → fin.entries n ≡ ns → nat_lt 1 (length ns) ≡ true
    more p q rest is ns are = count ns (given p.0 first) (given q.0 second)
      where
        apart : eq_by_cmp value_key_cmp p.0 q.0 ≡ false
        apart = none (eq_by_cmp value_key_cmp p.0 q.0) refl (left (not (is_given p.0 (q ∷ rest))) _ (ap are_distinct (sym is) ∙ distinct_entries m))
          where
            none : (b : Bool) → eq_by_cmp value_key_cmp p.0 q.0 ≡ b → not (is_some (cond b (Some q.1) (found p.0 rest))) ≡ true → b ≡ false
            none false t h = refl
            none true t h = absurd (true≢false (sym h))

        first : fin.contains_key m p.0 ≡ true
        first = ap is_some (sym (found_entries m p.0) ∙ ap (found p.0) is) ∙ ap (λ b. is_some (cond b (Some p.1) (found p.0 (q ∷ rest)))) (value_itself p.0)

        second : fin.contains_key m q.0 ≡ true
        second = ap is_some (sym (found_entries m q.0) ∙ ap (found q.0) is) ∙ either (eq_by_cmp value_key_cmp q.0 p.0)
          where
            either : (b : Bool) → is_some (cond b (Some p.1) (found q.0 (q ∷ rest))) ≡ true
            either true = refl
            either false = ap (λ b. is_some (cond b (Some q.1) (found q.0 rest))) (value_itself q.0)

        given : (v : ValueKey) → fin.contains_key m v ≡ true → is_some (found v ns) ≡ true
        given v there = ap (λ es. is_some (found v es)) (sym are) ∙ ap is_some (found_entries n v) ∙ inside v there

        count : (ns : KeyedValues) → is_some (found p.0 ns) ≡ true → is_some (found q.0 ns) ≡ true → nat_lt 1 (length ns) ≡ true
        count [] h g = absurd (true≢false (sym h))
        count (x ∷ []) h g = absurd (both (eq_by_cmp value_key_cmp p.0 x.0) refl h (eq_by_cmp value_key_cmp q.0 x.0) refl g)
          where
            both : (a : Bool) → eq_by_cmp value_key_cmp p.0 x.0 ≡ a → is_some (cond a (Some x.1) None) ≡ true → (b : Bool) → eq_by_cmp value_key_cmp q.0 x.0 ≡ b → is_some (cond b (Some x.1) None) ≡ true → ⊥
            both false t h b u g = true≢false (sym h)
            both true t h false u g = true≢false (sym g)
            both true t h true u g =
                let same : p.0 ≡ q.0 = same_value p.0 x.0 t ∙ sym (same_value q.0 x.0 u) in
                true≢false (sym (value_itself p.0) ∙ ap (eq_by_cmp value_key_cmp p.0) same ∙ apart)
        count (x ∷ y ∷ rest) h g = grind (arith, nat_tests)

    by : (es : KeyedValues) → fin.entries m ≡ es → nat_lt 1 (length es) ≡ true → nat_lt 1 (fin.len n) ≡ true
    by [] is h = let none : 1 < 0 = grind (arith, nat_tests) in absurd (omega (arith, none))
    by (p ∷ []) is h = let none : 1 < 1 = grind (arith, nat_tests) in absurd (omega (arith, none))
    by (p ∷ q ∷ rest) is h = ap (nat_lt 1) (len-entries n) ∙ more p q rest is (fin.entries n) refl

module _ {A : Type 0} (test : A → Bool) where
  each_false : (xs : List A) → list_any test xs ≡ false → Each (λ x. test x ≡ false) xs
  each_false [] h = tt
  each_false (x ∷ xs) h = by (each_false xs) (test x) refl h
    where
      by : (list_any test xs ≡ false → Each (λ x. test x ≡ false) xs) → (b : Bool) → test x ≡ b → (b || list_any test xs) ≡ false → Each (λ x. test x ≡ false) (x ∷ xs)
      by rest true t h = absurd (true≢false h)
      by rest false t h = (t, rest h)

  none_true : (xs : List A) → Each (λ x. test x ≡ false) xs → list_any test xs ≡ false
  none_true [] h = refl
  none_true (x ∷ xs) h = ap (λ b. b || list_any test xs) h.0 ∙ none_true xs h.1

module _ (rows : List TypeRow) where
  -- where an entry has no more values than another, no single type has more than one if none has there
  pub fewer_values : (xs ys : StoredAttributes) → ((q : Attr) (v : ValueKey) → has_value xs q v ≡ true → has_value ys q v ≡ true) → exceeds_single_value rows ys ≡ false → exceeds_single_value rows xs ≡ false
  fewer_values xs ys inside single = none_true test (fin.entries xs) (each_entry attr_cmp_total attr_cmp_exact (λ a. test a ≡ false) xs one)
    where
      test : Attr × Stored → Bool
      test a = nat_lt 1 (fin.len a.1.values) && single_of rows a.0

      one : (k : Attr) (a : Stored) → fin.get xs k ≡ Some a → test (k, a) ≡ false
      one k a there = by (nat_lt 1 (fin.len a.values)) refl
        where
          into : (v : ValueKey) → fin.contains_key a.values v ≡ true → has_in v (fin.get ys k) ≡ true
          into v h = inside k v (ap (has_in v) there ∙ h)

          other : (o : Option Stored) → fin.get ys k ≡ o → nat_lt 1 (fin.len a.values) ≡ true → single_of rows k ≡ false
          other None t two =
              let none = two_values a.values fin.empty (λ v h. absurd (true≢false (sym (ap (has_in v) (sym t) ∙ into v h)))) two in
              absurd (true≢false (sym none ∙ ap (nat_lt 1) (len-empty value_key_cmp (List ℕ))))
          other (Some b) t two =
              let more = two_values a.values b.values (λ v h. ap (has_in v) (sym t) ∙ into v h) two in
              ap (λ c. c && single_of rows k) (sym more) ∙ each_get attr_cmp_total attr_cmp_exact (λ a. test a ≡ false) ys k b (each_false test (fin.entries ys) single) t

          by : (b : Bool) → nat_lt 1 (fin.len a.values) ≡ b → (b && single_of rows k) ≡ false
          by false t = refl
          by true t = other (fin.get ys k) refl t

-- ---- the values of an RDN's key

in_itself : (p : Attr × List ℕ) (ps : RdnKeys) → in_rdn (p ∷ ps) p.0 (Text p.1) ≡ true
in_itself p ps = λ i. ((attr_eq_decides p.0 p.0).1 refl i && (value_key_eq_decides (Text p.1) (Text p.1)).1 refl i) || in_rdn ps p.0 (Text p.1)

or_right : (a b : Bool) → b ≡ true → (a || b) ≡ true
or_right true b h = refl
or_right false b h = h

-- what holds of each value of the RDN holds of each pair of its key
all_members : (test : Attr × List ℕ → Bool) (keys : RdnKeys) → ((q : Attr) (t : List ℕ) → in_rdn keys q (Text t) ≡ true → test (q, t) ≡ true) → list_all test keys ≡ true
all_members test [] h = refl
all_members test (p ∷ ps) h = λ i. h p.0 p.1 (in_itself p ps) i && all_members test ps (λ q t there. h q t (or_right (attr_eq p.0 q && value_key_eq (Text p.1) (Text t)) (in_rdn ps q (Text t)) there)) i

-- and the other way round
member : (test : Attr → ValueKey → Bool) (keys : RdnKeys) → list_all (λ p. test p.0 (Text p.1)) keys ≡ true → (q : Attr) (v : ValueKey) → in_rdn keys q v ≡ true → test q v ≡ true
member test [] all q v h = absurd (true≢false (sym h))
member test (p ∷ ps) all q v h = by (member test ps (right (test p.0 (Text p.1)) _ all) q v) (attr_eq p.0 q) refl (value_key_eq (Text p.1) v) refl h
  where
    by : (in_rdn ps q v ≡ true → test q v ≡ true) → (a : Bool) → attr_eq p.0 q ≡ a → (b : Bool) → value_key_eq (Text p.1) v ≡ b → ((a && b) || in_rdn ps q v) ≡ true → test q v ≡ true
    by rest false t b u h = rest h
    by rest true t false u h = rest h
    by rest true t true u h = (λ i. test (sym ((attr_eq_decides p.0 q).0 t) i) (sym ((value_key_eq_decides (Text p.1) v).0 u) i)) ∙ left (test p.0 (Text p.1)) _ all

-- ---- the attributes after a rename

module _ (rows : List TypeRow) (xs : StoredAttributes) (old : RdnKeys) (rdn : SpelledRdn) (new : RdnKeys) (named : rdn_key rows rdn ≡ Some new) where
  -- the values of the new RDN, and those before, without those that go
  pub has_renamed : (delete_old : Bool) (q : Attr) (v : ValueKey) →
      has_value (renamed_attributes rows xs old rdn new delete_old) q v ≡ (not (delete_old && (in_rdn old q v && not (in_rdn new q v))) && (in_rdn new q v || has_value xs q v))
  has_renamed false q v = has_gained rows rdn new named xs q v
  has_renamed true q v =
      has_lost (with_missing_of xs (rdn_lines rows rdn)) (pairs_missing_in old new) q v
      ∙ (λ i. not (in_missing old new q v i) && has_gained rows rdn new named xs q v i)

  pub sound_renamed : (delete_old : Bool) → Each IsLegalPair rdn → AreSoundSlots rows xs → AreSoundSlots rows (renamed_attributes rows xs old rdn new delete_old)
  sound_renamed delete_old legal sound = by delete_old
    where
      gained : AreSoundSlots rows (with_missing_of xs (rdn_lines rows rdn))
      gained = slots_of_attributes rows (with_missing_of xs (rdn_lines rows rdn)) (gained_sound rows rdn new named xs legal (attributes_of_slots rows xs sound))

      by : (b : Bool) → AreSoundSlots rows (renamed_attributes rows xs old rdn new b)
      by false = gained
      by true = lost_sound rows (with_missing_of xs (rdn_lines rows rdn)) (pairs_missing_in old new) gained

  -- an attribute that neither RDN names stays
  pub renamed_apart : (delete_old : Bool) (q : Attr) → list_any (λ p. attr_eq p.0 q) old ≡ false → list_any (λ p. attr_eq p.0 q) new ≡ false → fin.get (renamed_attributes rows xs old rdn new delete_old) q ≡ fin.get xs q
  renamed_apart delete_old q apart apart_new = by delete_old
    where
      fewer : (ps : RdnKeys) → list_any (λ p. attr_eq p.0 q) ps ≡ false → list_any (λ p. attr_eq p.0 q) (pairs_missing_in ps new) ≡ false
      fewer [] h = refl
      fewer (p ∷ ps) h = or (fewer ps) (attr_eq p.0 q) refl h (list_any (pair_eq p) new)
        where
          or : (list_any (λ p. attr_eq p.0 q) ps ≡ false → list_any (λ p. attr_eq p.0 q) (pairs_missing_in ps new) ≡ false) → (a : Bool) → attr_eq p.0 q ≡ a → (a || list_any (λ p. attr_eq p.0 q) ps) ≡ false → (b : Bool) →
              list_any (λ p. attr_eq p.0 q) (cond (not b) (p ∷ pairs_missing_in ps new) (pairs_missing_in ps new)) ≡ false
          or rest true t h b = absurd (true≢false h)
          or rest false t h true = rest h
          or rest false t h false = ap (λ c. c || list_any (λ p. attr_eq p.0 q) (pairs_missing_in ps new)) t ∙ rest h

      by : (b : Bool) → fin.get (renamed_attributes rows xs old rdn new b) q ≡ fin.get xs q
      by false = gained_apart rows rdn new named xs q apart_new
      by true = lost_apart (with_missing_of xs (rdn_lines rows rdn)) (pairs_missing_in old new) q (fewer old apart) ∙ gained_apart rows rdn new named xs q apart_new

  -- the values of the new RDN are there
  pub new_there : (delete_old : Bool) → has_each (renamed_attributes rows xs old rdn new delete_old) (rdn_lines rows rdn) ≡ true
  new_there delete_old =
      each_passes (renamed_attributes rows xs old rdn new delete_old) rows (rdn_lines rows rdn)
      ∙ by_rdn_key rows (has_value (renamed_attributes rows xs old rdn new delete_old)) rdn new named
      ∙ all_members (λ p. has_value (renamed_attributes rows xs old rdn new delete_old) p.0 (Text p.1)) new (λ q t there.
      has_renamed delete_old q (Text t)
      ∙ ap (λ b. not (delete_old && (in_rdn old q (Text t) && not b)) && (b || has_value xs q (Text t))) there
      ∙ kept delete_old (in_rdn old q (Text t)))
    where
      kept : (a b : Bool) → (not (a && (b && false)) && true) ≡ true
      kept true true = refl
      kept true false = refl
      kept false b = refl

-- ---- the entry

module _ (rows : List TypeRow) where
  pub renamed_is : (e : Content) (rdn : SpelledRdn) (key : RdnKeys) (delete_old : Bool) (y : Content) → renamed_entry rows e rdn key delete_old ≡ Ok y → (y ≡ renamed rows e rdn key delete_old) × (exceeds_single_value rows y.attributes ≡ false)
  renamed_is e rdn key delete_old y is = by (exceeds_single_value rows (renamed_attributes rows e.attributes e.key rdn key delete_old)) refl is
    where
      by : (b : Bool) → exceeds_single_value rows (renamed_attributes rows e.attributes e.key rdn key delete_old) ≡ b → entry_or_code (cond b (Err Single) (Ok (renamed rows e rdn key delete_old))) ≡ Ok y → (y ≡ renamed rows e rdn key delete_old) × (exceeds_single_value rows y.attributes ≡ false)
      by true t h = absurd (cc)
      by false t h = let same : renamed rows e rdn key delete_old ≡ y = cc in (sym same, ap (λ (z : Content). exceeds_single_value rows z.attributes) (sym same) ∙ t)

  -- an attribute that neither RDN names stays
  pub renamed_stays : (e : Content) (rdn : SpelledRdn) (key : RdnKeys) (delete_old : Bool) (y : Content) → rdn_key rows rdn ≡ Some key → renamed_entry rows e rdn key delete_old ≡ Ok y → AreSameApartFrom e.key y.key y.attributes e.attributes
  renamed_stays e rdn key delete_old y named is q apart apart_new =
      let known = (renamed_is e rdn key delete_old y is).0 in
      ap (λ (z : Content). fin.get z.attributes q) known
      ∙ renamed_apart rows e.attributes e.key rdn key named delete_old q apart (ap (λ (z : Content). has_type z.key q) (sym known) ∙ apart_new)

  pub renamed_sound : (e : Content) (rdn : SpelledRdn) (key : RdnKeys) (delete_old : Bool) (y : Content) → rdn_key rows rdn ≡ Some key → Each IsLegalPair rdn → IsSoundEntry rows e → renamed_entry rows e rdn key delete_old ≡ Ok y → IsSoundEntry rows y
  renamed_sound e rdn key delete_old y named legal sound is =
      let known = renamed_is e rdn key delete_old y is in
      let single = ap (λ (z : Content). exceeds_single_value rows z.attributes) (sym known.0) ∙ known.1 in
      subst (IsSoundEntry rows) (sym known.0) (
        named,
        attributes_of_slots rows (renamed_attributes rows e.attributes e.key rdn key delete_old) (sound_renamed rows e.attributes e.key rdn key named delete_old legal (slots_of_entry rows e sound)),
        new_there rows e.attributes e.key rdn key named delete_old,
        single,
      )

  -- the entry has the values of its own RDN
  own_there : (e : Content) (leaf : SpelledRdn) → e.own ≡ leaf ∷ [] → IsSoundEntry rows e → (q : Attr) (v : ValueKey) → in_rdn e.key q v ≡ true → has_value e.attributes q v ≡ true
  own_there e leaf own sound q v there = member (has_value e.attributes) e.key (sym (own_values rows e sound.0) ∙ sound.2) q v there

  module _ (e : Content) (leaf : SpelledRdn) (own : e.own ≡ leaf ∷ []) (sound : IsSoundEntry rows e) (legal_leaf : Each IsLegalPair leaf) (rdn : SpelledRdn) (key : RdnKeys) (delete_old : Bool) (named : rdn_key rows rdn ≡ Some key) (legal : Each IsLegalPair rdn) (y : Content) (is : renamed_entry rows e rdn key delete_old ≡ Ok y) where
    named_leaf : rdn_key rows leaf ≡ Some e.key
    named_leaf = ap (leaf_key rows) (sym own) ∙ sound.0

    -- the entry as the rename back leaves it
    abbrev pub left_entry : Content
    left_entry = renamed rows y leaf e.key true

    -- it has no value that the entry hadn't
    no_more : (q : Attr) (v : ValueKey) → has_value left_entry.attributes q v ≡ true → has_value e.attributes q v ≡ true
    no_more q v there =
        by (in_rdn key q v) (in_rdn e.key q v) refl (has_value e.attributes q v) refl delete_old
        (sym (
        has_renamed rows y.attributes y.key leaf e.key named_leaf true q v
        ∙ ap (λ (z : Content). not (in_rdn z.key q v && not (in_rdn e.key q v)) && (in_rdn e.key q v || has_value z.attributes q v)) (renamed_is e rdn key delete_old y is).0
        ∙ ap (λ b. not (in_rdn key q v && not (in_rdn e.key q v)) && (in_rdn e.key q v || b)) (has_renamed rows e.attributes e.key rdn key named delete_old q v))
        ∙ there)
      where
        by : (n o : Bool) → in_rdn e.key q v ≡ o → (b : Bool) → has_value e.attributes q v ≡ b → (del : Bool) → (not (n && not o) && (o || (not (del && (o && not n)) && (n || b)))) ≡ true → b ≡ true
        by n o t true u del h = refl
        by n true t false u del h = absurd (true≢false (sym (own_there e leaf own sound q v t) ∙ u))
        by true false t false u del h = absurd (true≢false (sym h))
        by false false t false u true h = absurd (true≢false (sym h))
        by false false t false u false h = absurd (true≢false (sym h))

    -- the rename back is accepted
    pub left_accepted : renamed_entry rows y leaf e.key true ≡ Ok left_entry
    left_accepted = ap (λ b. entry_or_code (cond b (Err Single) (Ok left_entry))) (fewer_values rows left_entry.attributes e.attributes no_more sound.3)

    pub left_sound : IsSoundEntry rows left_entry
    left_sound = renamed_sound y leaf e.key true left_entry named_leaf legal_leaf (renamed_sound e rdn key delete_old y named legal sound is) left_accepted

    -- and the difference leads to the entry
    pub left_back : entry_after rows left_entry (difference left_entry.attributes e.attributes) ≡ Ok e
    left_back =
        let leads = difference_leads rows left_entry.attributes e.attributes (slots_of_entry rows left_entry left_sound) (slots_of_entry rows e sound) in
        ap (λ r. and_then r (λ xs. entry_or_code (changed_entry rows (with_attributes left_entry xs)))) leads
        ∙ ap (λ own. entry_or_code (changed_entry rows (record { own = own; key = e.key; attributes = e.attributes }))) (sym own)
        ∙ sound_accepted rows e sound

    -- an attribute that neither RDN names is what it was
    pub left_apart : (q : Attr) → list_any (λ p. attr_eq p.0 q) e.key ≡ false → list_any (λ p. attr_eq p.0 q) key ≡ false → fin.get left_entry.attributes q ≡ fin.get e.attributes q
    left_apart q apart apart_new =
        renamed_apart rows y.attributes y.key leaf e.key named_leaf true q (ap (λ (z : Content). list_any (λ p. attr_eq p.0 q) z.key) (renamed_is e rdn key delete_old y is).0 ∙ apart_new) apart
        ∙ ap (λ (z : Content). fin.get z.attributes q) (renamed_is e rdn key delete_old y is).0
        ∙ renamed_apart rows e.attributes e.key rdn key named delete_old q apart apart_new
