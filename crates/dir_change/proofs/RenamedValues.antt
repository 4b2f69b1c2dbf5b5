-- Which values an entry has after a rename, and that its attributes are sound.
use Rattle.std.proofs.Common.{◌≡◌, ℕ, Bool, true, false, cond, not, ◌&&◌, ◌||◌, ◌==◌, List, [], ◌∷◌, length, Option, Some, None, is_some, refl, sym, ap, subst, ◌∙◌, true≢false}
use Rattle.std.specs.List.{list_any}
use Rattle.std.specs.FinMap as fin
use Rattle.std.specs.FinMap.{get-remove, len-entries}
use Rattle.std.specs.Ordering.{eq_by_cmp}
use Rattle.dir_names.specs.declared.schema.TypeRow.{TypeRow}
use Rattle.dir_names.specs.declared.value.ValueKey.{ValueKey}
use Rattle.dir_names.specs.declared.value.ValueKey.TheVariants.{Text}
use Rattle.dir_names.specs.Attr.{Attr}
use Rattle.dir_names.specs.Keys.{RdnKeys}
use Rattle.dir_names.specs.Orders.{attr_cmp, attr_cmp_ties, attr_eq, attr_eq_decides, bytes_eq, bytes_eq_decides, pair_eq}
use Rattle.dir_names.specs.Values.{value_key_cmp, value_key_cmp_exact, value_key_cmp_ties, value_key_cmp_total, value_key_eq, value_key_eq_decides}
use Rattle.dir_tree.specs.Content.{Stored, StoredAttributes, StoredValues, has_in, has_value}
use Rattle.dir_tree.specs.Slots.{slot_of}
use Rattle.dir_tree.specs.WellFormed.{Each, IsSoundValue}
use Rattle.dir_tree.proofs.EachEntry.{each_entry}
use Rattle.dir_tree.proofs.GainedValues.{alike, and_both, in_rdn}
use Rattle.dir_tree.proofs.SoundMade.{each_get}
use Rattle.dir_change.specs.Rename.{pairs_missing_in, slot_without_value, without_pair, without_pairs}
use Rattle.dir_change.proofs.AttributesBack.{AreSoundSlots, get_slot}
use Rattle.dir_change.proofs.KeysInOrder.{same_attr}
use Rattle.dir_change.proofs.SlotBack.{IsSoundSlot, empty_of_zero}

-- ---- the values of the old RDN go

has_in_slot_of : (v : ValueKey) (spelling : List ℕ) (values : StoredValues) → has_in v (slot_of spelling values) ≡ fin.contains_key values v
has_in_slot_of v spelling values = by (fin.len values == 0) refl
  where
    by : (b : Bool) → (fin.len values == 0) ≡ b → has_in v (cond b None (Some (record { spelling = spelling; values = values }))) ≡ fin.contains_key values v
    by false t = refl
    by true t = sym (ap is_some (empty_of_zero values t v))

has_without : (v w : ValueKey) (slot : Option Stored) → has_in v (slot_without_value w slot) ≡ (not (value_key_eq w v) && has_in v slot)
has_without v w None = by (value_key_eq w v)
  where
    by : (b : Bool) → false ≡ (not b && false)
    by true = refl
    by false = refl
has_without v w (Some a) =
    has_in_slot_of v a.spelling (fin.remove a.values w)
    ∙ ap is_some (get-remove value_key_cmp_total a.values w v)
    ∙ ap (λ b. is_some (cond b None (fin.get a.values v))) (sym (value_key_cmp_ties v w) ∙ alike (value_key_eq v w) (value_key_eq w v) (λ e. (value_key_eq_decides w v).1 (sym ((value_key_eq_decides v w).0 e))) (λ e. (value_key_eq_decides v w).1 (sym ((value_key_eq_decides w v).0 e))))
    ∙ by (value_key_eq w v)
  where
    by : (b : Bool) → is_some (cond b None (fin.get a.values v)) ≡ (not b && is_some (fin.get a.values v))
    by true = refl
    by false = refl

has_without_pair : (xs : StoredAttributes) (p : Attr × List ℕ) (q : Attr) (v : ValueKey) → has_value (without_pair xs p) q v ≡ (not (attr_eq p.0 q && value_key_eq (Text p.1) v) && has_value xs q v)
has_without_pair xs p q v =
    ap (has_in v) (get_slot xs p.0 (slot_without_value (Text p.1) (fin.get xs p.0)) q ∙ ap (λ b. cond b (slot_without_value (Text p.1) (fin.get xs p.0)) (fin.get xs q)) (sym (attr_cmp_ties q p.0)))
    ∙ by (attr_eq q p.0) refl
  where
    by : (b : Bool) → attr_eq q p.0 ≡ b → has_in v (cond b (slot_without_value (Text p.1) (fin.get xs p.0)) (fin.get xs q)) ≡ (not (attr_eq p.0 q && value_key_eq (Text p.1) v) && has_value xs q v)
    by true t =
        let same : q ≡ p.0 = (attr_eq_decides q p.0).0 t in
        has_without v (Text p.1) (fin.get xs p.0)
        ∙ (λ i. not (sym ((attr_eq_decides p.0 q).1 (sym same)) i && value_key_eq (Text p.1) v) && has_in v (fin.get xs (sym same i)))
    by false t = ap (λ b. not (b && value_key_eq (Text p.1) v) && has_value xs q v) (sym (none (attr_eq p.0 q) refl))
      where
        none : (b : Bool) → attr_eq p.0 q ≡ b → b ≡ false
        none false u = refl
        none true u = absurd (true≢false (sym ((attr_eq_decides q p.0).1 (sym ((attr_eq_decides p.0 q).0 u))) ∙ t))

pub has_lost : (xs : StoredAttributes) (ps : RdnKeys) (q : Attr) (v : ValueKey) → has_value (without_pairs xs ps) q v ≡ (not (in_rdn ps q v) && has_value xs q v)
has_lost xs [] q v = refl
has_lost xs (p ∷ ps) q v =
    has_lost (without_pair xs p) ps q v
    ∙ ap (λ b. not (in_rdn ps q v) && b) (has_without_pair xs p q v)
    ∙ by (attr_eq p.0 q && value_key_eq (Text p.1) v) (in_rdn ps q v) (has_value xs q v)
  where
    by : (a b c : Bool) → (not b && (not a && c)) ≡ (not (a || b) && c)
    by true true c = refl
    by true false c = refl
    by false b c = refl

text_same : {x y : List ℕ} → ◌≡◌ {A = ValueKey} (Text x) (Text y) → x ≡ y
text_same e = cc

and_false : (b : Bool) → (b && false) ≡ false
and_false true = refl
and_false false = refl

-- the values of the pairs that others have not
pub in_missing : (pairs others : RdnKeys) (q : Attr) (v : ValueKey) → in_rdn (pairs_missing_in pairs others) q v ≡ (in_rdn pairs q v && not (in_rdn others q v))
in_missing [] others q v = refl
in_missing (p ∷ ps) others q v = by (list_any (pair_eq p) others) refl (attr_eq p.0 q && value_key_eq (Text p.1) v) refl (in_missing ps others q v)
  where
    -- the pair is among others exactly if its value is
    among : (attr_eq p.0 q && value_key_eq (Text p.1) v) ≡ true → list_any (pair_eq p) others ≡ in_rdn others q v
    among t =
        let both = and_both (attr_eq p.0 q) (value_key_eq (Text p.1) v) t in
        each ((attr_eq_decides p.0 q).0 both.0) ((value_key_eq_decides (Text p.1) v).0 both.1) others
      where
        one : p.0 ≡ q → Text p.1 ≡ v → (o : Attr × List ℕ) → pair_eq p o ≡ (attr_eq o.0 q && value_key_eq (Text o.1) v)
        one same_attr same_value o =
            (λ i. turned i && values i)
            ∙ (λ i. attr_eq o.0 (same_attr i) && value_key_eq (Text o.1) (same_value i))
          where
            values : bytes_eq p.1 o.1 ≡ value_key_eq (Text o.1) (Text p.1)
            values = alike (bytes_eq p.1 o.1) (value_key_eq (Text o.1) (Text p.1)) (λ e. (value_key_eq_decides (Text o.1) (Text p.1)).1 (ap Text (sym ((bytes_eq_decides p.1 o.1).0 e)))) (λ e. (bytes_eq_decides p.1 o.1).1 (sym (text_same ((value_key_eq_decides (Text o.1) (Text p.1)).0 e))))

            turned : attr_eq p.0 o.0 ≡ attr_eq o.0 p.0
            turned = alike (attr_eq p.0 o.0) (attr_eq o.0 p.0) (λ e. (attr_eq_decides o.0 p.0).1 (sym ((attr_eq_decides p.0 o.0).0 e))) (λ e. (attr_eq_decides p.0 o.0).1 (sym ((attr_eq_decides o.0 p.0).0 e)))

        each : p.0 ≡ q → Text p.1 ≡ v → (os : RdnKeys) → list_any (pair_eq p) os ≡ in_rdn os q v
        each s t [] = refl
        each s t (o ∷ os) = λ i. one s t o i || each s t os i

    by : (a : Bool) → list_any (pair_eq p) others ≡ a → (b : Bool) → (attr_eq p.0 q && value_key_eq (Text p.1) v) ≡ b → in_rdn (pairs_missing_in ps others) q v ≡ (in_rdn ps q v && not (in_rdn others q v)) →
        in_rdn (cond (not a) (p ∷ pairs_missing_in ps others) (pairs_missing_in ps others)) q v ≡ ((b || in_rdn ps q v) && not (in_rdn others q v))
    by true t false u rest = rest
    by false t false u rest = ap (λ b. b || in_rdn (pairs_missing_in ps others) q v) u ∙ rest
    by true t true u rest =
        let here : in_rdn others q v ≡ true = sym (among u) ∙ t in
        rest ∙ ap (λ b. in_rdn ps q v && not b) here ∙ and_false (in_rdn ps q v) ∙ sym (ap not here)
    by false t true u rest = ap (λ b. b || in_rdn (pairs_missing_in ps others) q v) u ∙ sym (ap not (sym (among u) ∙ t))

-- ---- what stays, and what is sound

-- an attribute that none of the pairs names stays
pub lost_apart : (xs : StoredAttributes) (ps : RdnKeys) (q : Attr) → list_any (λ p. attr_eq p.0 q) ps ≡ false → fin.get (without_pairs xs ps) q ≡ fin.get xs q
lost_apart xs [] q apart = refl
lost_apart xs (p ∷ ps) q apart = by (lost_apart (without_pair xs p) ps q) (attr_eq p.0 q) refl apart
  where
    by : (list_any (λ p. attr_eq p.0 q) ps ≡ false → fin.get (without_pairs (without_pair xs p) ps) q ≡ fin.get (without_pair xs p) q) → (b : Bool) → attr_eq p.0 q ≡ b → (b || list_any (λ p. attr_eq p.0 q) ps) ≡ false → fin.get (without_pairs (without_pair xs p) ps) q ≡ fin.get xs q
    by rest true t h = absurd (true≢false h)
    by rest false t h =
        let differs : eq_by_cmp attr_cmp q p.0 ≡ false = sym (attr_cmp_ties q p.0) ∙ none (attr_eq q p.0) refl in
        rest h
        ∙ get_slot xs p.0 (slot_without_value (Text p.1) (fin.get xs p.0)) q
        ∙ ap (λ b. cond b (slot_without_value (Text p.1) (fin.get xs p.0)) (fin.get xs q)) differs
      where
        none : (b : Bool) → attr_eq q p.0 ≡ b → b ≡ false
        none false u = refl
        none true u = absurd (true≢false (sym ((attr_eq_decides p.0 q).1 (sym ((attr_eq_decides q p.0).0 u))) ∙ t))

slot_without_sound : (rows : List TypeRow) (k : Attr) (v : ValueKey) (slot : Option Stored) → IsSoundSlot rows k slot → IsSoundSlot rows k (slot_without_value v slot)
slot_without_sound rows k v None sound = tt
slot_without_sound rows k v (Some a) sound = by (fin.len (fin.remove a.values v) == 0) refl
  where
    values_sound : Each (IsSoundValue rows k) (fin.entries (fin.remove a.values v))
    values_sound = each_entry value_key_cmp_total value_key_cmp_exact (IsSoundValue rows k) (fin.remove a.values v) (λ w x there. one w x (eq_by_cmp value_key_cmp w v) (sym (get-remove value_key_cmp_total a.values v w) ∙ there))
      where
        one : (w : ValueKey) (x : List ℕ) (b : Bool) → cond b None (fin.get a.values w) ≡ Some x → IsSoundValue rows k (w, x)
        one w x true h = absurd (cc)
        one w x false h = each_get value_key_cmp_total value_key_cmp_exact (IsSoundValue rows k) a.values w x sound.2 h

    by : (b : Bool) → (fin.len (fin.remove a.values v) == 0) ≡ b → IsSoundSlot rows k (cond b None (Some (record { spelling = a.spelling; values = fin.remove a.values v })))
    by true t = tt
    by false t = (sound.0, (λ e. true≢false (sym (ap (λ n. n == 0) (len-entries (fin.remove a.values v) ∙ ap length e)) ∙ t)), values_sound)

pub lost_sound : (rows : List TypeRow) (xs : StoredAttributes) (ps : RdnKeys) → AreSoundSlots rows xs → AreSoundSlots rows (without_pairs xs ps)
lost_sound rows xs [] sound = sound
lost_sound rows xs (p ∷ ps) sound = lost_sound rows (without_pair xs p) ps (λ q. subst (IsSoundSlot rows q) (sym (get_slot xs p.0 (slot_without_value (Text p.1) (fin.get xs p.0)) q)) (by q (eq_by_cmp attr_cmp q p.0) refl))
  where
    by : (q : Attr) (b : Bool) → eq_by_cmp attr_cmp q p.0 ≡ b → IsSoundSlot rows q (cond b (slot_without_value (Text p.1) (fin.get xs p.0)) (fin.get xs q))
    by q false t = sound q
    by q true t = subst (λ k. IsSoundSlot rows k (slot_without_value (Text p.1) (fin.get xs p.0))) (sym (same_attr q p.0 t)) (slot_without_sound rows p.0 (Text p.1) (fin.get xs p.0) (sound p.0))
