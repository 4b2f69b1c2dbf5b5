-- An entry that an add makes of legal lines is sound.
use Rattle.std.proofs.Common.{◌≡◌, ℕ, ◌≤◌, Bool, true, false, cond, ◌&&◌, ◌||◌, List, [], ◌∷◌, length, Option, Some, None, is_some, option_map, Result, Ok, Err, refl, sym, ap, subst, ◌∙◌, true≢false, arith}
use Rattle.std.specs.List.{list_all}
use Rattle.std.specs.FinMap as fin
use Rattle.std.specs.FinMap.{IsAntisymmetric, entries-insert, get-entries, len-entries, len-empty, find, put}
use Rattle.std.specs.FinMap.Entries.{by_order}
use Rattle.std.specs.declared.cmp.Ordering.{Ordering}
use Rattle.std.specs.declared.cmp.Ordering.TheVariants.{Less, Equal, Greater}
use Rattle.std.specs.Ordering.{eq_by_cmp}
use Rattle.std.specs.Cmp.{IsTotalOrder, Equal-is}
use Rattle.dir_names.specs.declared.fault.NameFault.{NameFault}
use Rattle.dir_names.specs.declared.schema.TypeRow.{TypeRow}
use Rattle.dir_names.specs.declared.value.ValueKey.{ValueKey}
use Rattle.dir_names.specs.Described.{Described}
use Rattle.dir_names.specs.Descriptions.{description_of}
use Rattle.dir_names.specs.Keys.{RdnKeys}
use Rattle.dir_names.specs.Names.{SpelledName, SpelledRdn}
use Rattle.std.specs.Option.{option_and_then}
use Rattle.std.specs.Result.{result_ok}
use Rattle.dir_names.specs.NameKeys.{rdn_key, value_key_of}
use Rattle.dir_names.specs.Orders.{attr_cmp, attr_cmp_total, attr_cmp_exact}
use Rattle.dir_names.specs.Results.{option_cons}
use Rattle.dir_names.specs.Values.{value_key_cmp, value_key_cmp_total, value_key_cmp_exact}
use Rattle.dir_tree.specs.declared.fault.EntryFault.TheVariants.{BadValue, Twice, NotNamed, Single}
use Rattle.dir_tree.specs.declared.lines.KeyedLine.{KeyedLine}
use Rattle.dir_tree.specs.Content.{Content, Stored, StoredAttributes, has_value}
use Rattle.std.specs.Option.{ok_or}
use Rattle.dir_tree.specs.NewEntry.{attributes_if_distinct, exceeds_single_value, give_distinct_values, give_same_value, keyed_lines, leaf_key, leaf_lines, leaf_of, new_entry, ok_unless_exceeding, pair_line, rdn_lines, with_line, with_lines, with_missing_line, with_missing_lines, with_missing_of, with_value}
use Rattle.dir_names.specs.Results.{and_then}
use Rattle.dir_tree.specs.WellFormed.{Each, IsLegalLine, IsLegalPair, IsSoundAttribute, IsSoundEntry, IsSoundValue, are_bytes, has_each}
use Rattle.dir_tree.proofs.Orderless.{given_itself, has_after}
use Rattle.dir_tree.proofs.OwnLines.{and_right, keyed_rdn, pair_described, pair_line_keyed}

-- ---- what holds of each entry of a map

module _ {K X : Type 0} {R : K → K → Ordering} (o : IsTotalOrder R) (exact : IsAntisymmetric R) (P : K × X → Type 0) where
  each_put : (k : K) (v : X) (es : List (K × X)) → P (k, v) → Each P es → Each P (put R k v es)
  each_put k v [] p each = (p, tt)
  each_put k v (e ∷ es) p each = by (R k e.0) refl (each_put k v es p each.1)
    where
      by : (r : Ordering) → R k e.0 ≡ r → Each P (put R k v es) → Each P (by_order r ((k, v) ∷ e ∷ es) ((e.0, v) ∷ es) (e ∷ put R k v es))
      by Less t rest = (p, each)
      by Equal t rest = (subst (λ z. P (z, v)) (exact k e.0 t) p, each.1)
      by Greater t rest = (each.0, rest)

  pub each_insert : (m : fin.FinMap R X) (k : K) (v : X) → P (k, v) → Each P (fin.entries m) → Each P (fin.entries (fin.insert m k v))
  each_insert m k v p each = subst (Each P) (sym (entries-insert o m k v)) (each_put k v (fin.entries m) p each)

  pub each_find : (k : K) (v : X) (es : List (K × X)) → Each P es → find R k es ≡ Some v → P (k, v)
  each_find k v [] each e = absurd (cc)
  each_find k v (x ∷ es) each e = by (eq_by_cmp R k x.0) refl e (each_find k v es each.1)
    where
      by : (b : Bool) → eq_by_cmp R k x.0 ≡ b → cond b (Some x.1) (find R k es) ≡ Some v → (find R k es ≡ Some v → P (k, v)) → P (k, v)
      by true t h rest =
          let value : x.1 ≡ v = cc in
          let same : x.0 ≡ k = sym (exact k x.0 ((Equal-is (R k x.0)).0 t)) in
          subst P (λ i. (same i, value i)) each.0
      by false t h rest = rest h

  pub each_get : (m : fin.FinMap R X) (k : K) (v : X) → Each P (fin.entries m) → fin.get m k ≡ Some v → P (k, v)
  each_get m k v each e = each_find k v (fin.entries m) each (sym (get-entries m k) ∙ e)

  put_some : (k : K) (v : X) (es : List (K × X)) → put R k v es ≡ [] → ⊥
  put_some k v [] e = cc
  put_some k v (x ∷ es) e = by (R k x.0) e
    where
      by : (r : Ordering) → by_order r ((k, v) ∷ x ∷ es) ((x.0, v) ∷ es) (x ∷ put R k v es) ≡ [] → ⊥
      by Less h = cc
      by Equal h = cc
      by Greater h = cc

  pub insert_some : (m : fin.FinMap R X) (k : K) (v : X) → fin.entries (fin.insert m k v) ≡ [] → ⊥
  insert_some m k v e = put_some k v (fin.entries m) (sym (entries-insert o m k v) ∙ e)

pub entries_of_none : {K X : Type 0} (R : K → K → Ordering) → fin.entries (fin.empty {K = K} {X = X} {R = R}) ≡ []
entries_of_none R = no_entries (fin.entries (fin.empty {R = R})) (sym (len-entries (fin.empty {R = R})) ∙ len-empty R _)
  where
    no_entries : {A : Type 0} (xs : List A) → length xs ≡ 0 → xs ≡ []
    no_entries [] e = refl
    no_entries (x ∷ xs) e = absurd (omega (arith, e))

-- ---- sound lines keep attributes sound

abbrev pub IsSoundLine : List TypeRow → KeyedLine → Type 0
IsSoundLine rows l = (description_of rows l.description.spelling ≡ Ok l.description) × (value_key_of rows l.description.key l.bytes ≡ Ok l.key) × (length l.bytes ≤ 1048576) × (are_bytes l.bytes ≡ true)

module _ (rows : List TypeRow) where
  one_sound : (l : KeyedLine) (a : Option Stored) → IsSoundLine rows l → ((s : Stored) → a ≡ Some s → IsSoundAttribute rows (l.description.key, s)) → IsSoundAttribute rows (l.description.key, with_value a l)
  one_sound l None line there = (
    line.0,
    insert_some value_key_cmp_total value_key_cmp_exact (IsSoundValue rows l.description.key) fin.empty l.key l.bytes,
    each_insert value_key_cmp_total value_key_cmp_exact (IsSoundValue rows l.description.key) fin.empty l.key l.bytes (line.1, line.2, line.3) (subst (Each (IsSoundValue rows l.description.key)) (sym (entries_of_none value_key_cmp)) tt),
  )
  one_sound l (Some s) line there =
      let before = there s refl in (
        before.0,
        insert_some value_key_cmp_total value_key_cmp_exact (IsSoundValue rows l.description.key) s.values l.key l.bytes,
        each_insert value_key_cmp_total value_key_cmp_exact (IsSoundValue rows l.description.key) s.values l.key l.bytes (line.1, line.2, line.3) before.2,
      )

  line_keeps : (xs : StoredAttributes) (l : KeyedLine) → IsSoundLine rows l → Each (IsSoundAttribute rows) (fin.entries xs) → Each (IsSoundAttribute rows) (fin.entries (with_line xs l))
  line_keeps xs l line each =
      each_insert attr_cmp_total attr_cmp_exact (IsSoundAttribute rows) xs l.description.key (with_value (fin.get xs l.description.key) l)
      (one_sound l (fin.get xs l.description.key) line (λ s t. each_get attr_cmp_total attr_cmp_exact (IsSoundAttribute rows) xs l.description.key s each t)) each

  lines_keep : (xs : StoredAttributes) (ls : List KeyedLine) → Each (IsSoundLine rows) ls → Each (IsSoundAttribute rows) (fin.entries xs) → Each (IsSoundAttribute rows) (fin.entries (with_lines xs ls))
  lines_keep xs [] lines each = each
  lines_keep xs (l ∷ ls) lines each = lines_keep (with_line xs l) ls lines.1 (line_keeps xs l lines.0 each)

  missing_keeps : (xs : StoredAttributes) (l : KeyedLine) → IsSoundLine rows l → Each (IsSoundAttribute rows) (fin.entries xs) → Each (IsSoundAttribute rows) (fin.entries (with_missing_line xs l))
  missing_keeps xs l line each = by (has_value xs l.description.key l.key)
    where
      by : (b : Bool) → Each (IsSoundAttribute rows) (fin.entries (cond b xs (with_line xs l)))
      by true = each
      by false = line_keeps xs l line each

  pub gained_keeps : (xs : StoredAttributes) (ls : List KeyedLine) → Each (IsSoundLine rows) ls → Each (IsSoundAttribute rows) (fin.entries xs) → Each (IsSoundAttribute rows) (fin.entries (with_missing_lines xs ls))
  gained_keeps xs [] lines each = each
  gained_keeps xs (l ∷ ls) lines each = gained_keeps (with_missing_line xs l) ls lines.1 (missing_keeps xs l lines.0 each)

-- ---- the values of the own RDN are there

or_true : (b : Bool) → (b || true) ≡ true
or_true true = refl
or_true false = refl

has_more : (xs : StoredAttributes) (l m : KeyedLine) → has_value xs m.description.key m.key ≡ true → has_value (with_missing_line xs l) m.description.key m.key ≡ true
has_more xs l m there = by (has_value xs l.description.key l.key)
  where
    by : (b : Bool) → has_value (cond b xs (with_line xs l)) m.description.key m.key ≡ true
    by true = there
    by false = has_after xs l m ∙ ap (λ b. give_same_value l m || b) there ∙ or_true (give_same_value l m)

has_gained : (xs : StoredAttributes) (ls : List KeyedLine) (m : KeyedLine) → has_value xs m.description.key m.key ≡ true → has_value (with_missing_lines xs ls) m.description.key m.key ≡ true
has_gained xs [] m there = there
has_gained xs (l ∷ ls) m there = has_gained (with_missing_line xs l) ls m (has_more xs l m there)

has_itself : (xs : StoredAttributes) (l : KeyedLine) → has_value (with_missing_line xs l) l.description.key l.key ≡ true
has_itself xs l = by (has_value xs l.description.key l.key) refl
  where
    by : (b : Bool) → has_value xs l.description.key l.key ≡ b → has_value (cond b xs (with_line xs l)) l.description.key l.key ≡ true
    by true t = t
    by false t = has_after xs l l ∙ ap (λ b. b || has_value xs l.description.key l.key) (given_itself l)

all_gained : (xs : StoredAttributes) (ls : List KeyedLine) → list_all (λ l. has_value (with_missing_lines xs ls) l.description.key l.key) ls ≡ true
all_gained xs [] = refl
all_gained xs (l ∷ ls) = λ i. has_gained (with_missing_line xs l) ls l (has_itself xs l) i && all_gained (with_missing_line xs l) ls i

each_gained : (xs : StoredAttributes) (o : Option (List KeyedLine)) → is_some o ≡ true → has_each (with_missing_of xs o) o ≡ true
each_gained xs None e = absurd (true≢false (sym e))
each_gained xs (Some ls) e = all_gained xs ls

-- ---- lines that are legal

module _ (rows : List TypeRow) where
  keyed_sound : (lines : List (Described × List ℕ)) (ks : List KeyedLine) → Each (IsLegalLine rows) lines → keyed_lines rows lines ≡ Some ks → Each (IsSoundLine rows) ks
  keyed_sound [] ks legal e = let none : [] ≡ ks = cc in subst (Each (IsSoundLine rows)) none tt
  keyed_sound (line ∷ lines) ks legal e = by (value_key_of rows line.0.key line.1) refl (keyed_lines rows lines) refl e (keyed_sound lines)
    where
      by : (r : Result ValueKey NameFault) → value_key_of rows line.0.key line.1 ≡ r → (p : Option (List KeyedLine)) → keyed_lines rows lines ≡ p →
          option_cons (option_map (λ key. record { description = line.0; key = key; bytes = line.1 }) (result_ok r)) p ≡ Some ks →
          ((ks : List KeyedLine) → Each (IsLegalLine rows) lines → keyed_lines rows lines ≡ Some ks → Each (IsSoundLine rows) ks) → Each (IsSoundLine rows) ks
      by (Err fault) t p u e rest = absurd (cc)
      by (Ok key) t None u e rest = absurd (cc)
      by (Ok key) t (Some more) u e rest =
          let first : KeyedLine = record { description = line.0; key = key; bytes = line.1 } in
          let same : first ∷ more ≡ ks = cc in
          subst (Each (IsSoundLine rows)) same ((legal.0.0, t, legal.0.1, legal.0.2), rest more legal.1 u)

  pub pairs_sound : (rdn : SpelledRdn) (ls : List KeyedLine) → Each IsLegalPair rdn → rdn_lines rows rdn ≡ Some ls → Each (IsSoundLine rows) ls
  pairs_sound [] ls legal e = let none : [] ≡ ls = cc in subst (Each (IsSoundLine rows)) none tt
  pairs_sound (p ∷ ps) ls legal e = by (pair_line rows p) refl (rdn_lines rows ps) refl e (pairs_sound ps)
    where
      by : (o : Option KeyedLine) → pair_line rows p ≡ o → (r : Option (List KeyedLine)) → rdn_lines rows ps ≡ r → option_cons o r ≡ Some ls →
          ((ls : List KeyedLine) → Each IsLegalPair ps → rdn_lines rows ps ≡ Some ls → Each (IsSoundLine rows) ls) → Each (IsSoundLine rows) ls
      by None t r u e rest = absurd (cc)
      by (Some l) t None u e rest = absurd (cc)
      by (Some l) t (Some more) u e rest =
          let same : l ∷ more ≡ ls = cc in
          let line = pair_line_keyed rows p l t in
          let spelled : p.0 ≡ l.description.spelling = ap (λ (d : Described). d.spelling) (sym line.0) in
          let sound : IsSoundLine rows l = (ap (description_of rows) (sym spelled) ∙ pair_described rows p legal.0.0 ∙ ap Ok (sym line.0), (λ i. value_key_of rows (line.0 i).key (line.2 i)) ∙ line.1, subst (λ b. length b ≤ 1048576) (sym line.2) legal.0.1, subst (λ b. are_bytes b ≡ true) (sym line.2) (and_right _ (are_bytes p.1) legal.0.0)) in
          subst (Each (IsSoundLine rows)) same (sound, rest more legal.1 u)

  -- an entry that is made of legal lines under a legal own RDN
  pub made_sound : (own : SpelledName) (lines : List (Described × List ℕ)) (e : Content) → ((leaf : SpelledRdn) → leaf_of own ≡ Some leaf → Each IsLegalPair leaf) → Each (IsLegalLine rows) lines → new_entry rows own lines ≡ Ok e → IsSoundEntry rows e
  made_sound own lines e pairs legal is = by (leaf_key rows own) refl (keyed_lines rows lines) refl is
    where
      lines_of_leaf : (o : Option SpelledRdn) → leaf_of own ≡ o → (ls : List KeyedLine) → option_and_then (rdn_lines rows) o ≡ Some ls → Each (IsSoundLine rows) ls
      lines_of_leaf None t ls e = absurd (cc)
      lines_of_leaf (Some leaf) t ls e = pairs_sound leaf ls (pairs leaf t) e

      keyed_leaf : (o : Option SpelledRdn) (key : RdnKeys) → option_and_then (rdn_key rows) o ≡ Some key → is_some (option_and_then (rdn_lines rows) o) ≡ true
      keyed_leaf None key e = absurd (cc)
      keyed_leaf (Some leaf) key e = keyed_rdn rows leaf (ap is_some e)

      gain : (key : RdnKeys) (xs : StoredAttributes) → leaf_key rows own ≡ Some key → Each (IsSoundAttribute rows) (fin.entries xs) → (o : Option (List KeyedLine)) → leaf_lines rows own ≡ o → Each (IsSoundAttribute rows) (fin.entries (with_missing_of xs o))
      gain key xs t each None u = each
      gain key xs t each (Some ls) u = gained_keeps rows xs ls (lines_of_leaf (leaf_of own) refl ls u) each

      last : (key : RdnKeys) (xs : StoredAttributes) → leaf_key rows own ≡ Some key → Each (IsSoundAttribute rows) (fin.entries xs) → (b : Bool) → exceeds_single_value rows (with_missing_of xs (leaf_lines rows own)) ≡ b →
          cond b (Err Single) (Ok (record { own = own; key = key; attributes = with_missing_of xs (leaf_lines rows own) })) ≡ Ok e → IsSoundEntry rows e
      last key xs t each true u h = absurd (cc)
      last key xs t each false u h =
          let whole : Content = record { own = own; key = key; attributes = with_missing_of xs (leaf_lines rows own) } in
          let same : whole ≡ e = cc in
          subst (IsSoundEntry rows) same (t, gain key xs t each (leaf_lines rows own) refl, each_gained xs (leaf_lines rows own) (keyed_leaf (leaf_of own) key t), u)

      gather : (key : RdnKeys) → leaf_key rows own ≡ Some key → (ks : List KeyedLine) → Each (IsSoundLine rows) ks → (b : Bool) →
          and_then (cond b (Ok (with_lines fin.empty ks)) (Err Twice)) (λ xs. ok_unless_exceeding rows (record { own = own; key = key; attributes = with_missing_of xs (leaf_lines rows own) })) ≡ Ok e → IsSoundEntry rows e
      gather key t ks sound false h = absurd (cc)
      gather key t ks sound true h = last key (with_lines fin.empty ks) t (lines_keep rows fin.empty ks sound (subst (Each (IsSoundAttribute rows)) (sym (entries_of_none attr_cmp)) tt)) (exceeds_single_value rows (with_missing_of (with_lines fin.empty ks) (leaf_lines rows own))) refl h

      by : (o : Option RdnKeys) → leaf_key rows own ≡ o → (p : Option (List KeyedLine)) → keyed_lines rows lines ≡ p →
          and_then (ok_or o NotNamed) (λ key. and_then (and_then (ok_or p BadValue) attributes_if_distinct) (λ xs. ok_unless_exceeding rows (record { own = own; key = key; attributes = with_missing_of xs (leaf_lines rows own) }))) ≡ Ok e → IsSoundEntry rows e
      by None t p u h = absurd (cc)
      by (Some key) t None u h = absurd (cc)
      by (Some key) t (Some ks) u h = gather key t ks (keyed_sound lines ks legal u) (give_distinct_values ks) h
