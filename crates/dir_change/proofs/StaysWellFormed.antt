-- A sound change leaves a directory in good order.
use Rattle.std.proofs.Common.{◌≡◌, ℕ, suc, ◌≤◌, Bool, true, false, cond, not, ◌||◌, ◌==◌, nat_le, List, [], ◌∷◌, ◌++◌, length, Option, Some, None, is_some, Ok, refl, sym, ap, subst, ◌∙◌, true≢false, arith, length-append}
use Rattle.std.specs.List.{list_all}
use Rattle.std.proofs.lemmas.Bool.Decides.{nat_tests}
use Rattle.std.specs.Ordering.{eq_by_cmp}
use Rattle.dir_names.specs.declared.schema.TypeRow.{TypeRow}
use Rattle.dir_names.specs.Keys.{DnKeys}
use Rattle.dir_names.specs.Names.{SpelledName, SpelledPair, SpelledRdn}
use Rattle.dir_names.specs.NameKeys.{name_key}
use Rattle.dir_names.specs.Orders.{dn_key_cmp, dn_key_eq}
use Rattle.dir_names.specs.Names.Printing.{escape_of, is_special, printed_byte, printed_pair, printed_rdn, printed_rest, printed_value}
use Rattle.dir_names.specs.Names.Limits.{is_rdn_within_limit, is_within_limits}
use Rattle.dir_names.specs.Names.Sound.{is_sound_name, is_sound_pair, is_sound_rdn}
use Rattle.dir_ldif.specs.declared.records.Change.{Change}
use Rattle.dir_ldif.specs.declared.records.ChangeKind.{ChangeKind}
use Rattle.dir_ldif.specs.declared.records.ChangeKind.TheVariants as kind
use Rattle.dir_ldif.specs.SoundRecords.{IsSoundKind}
use Rattle.dir_ldif.specs.LegalRecords.{is_legal_kind}
use Rattle.dir_tree.specs.Content.{Content}
use Rattle.dir_tree.specs.Dir.{Dir, entry_at, has_child, has_parent, put_entry, remove_entry}
use Rattle.dir_tree.specs.NewEntry.{leaf_of}
use Rattle.dir_tree.specs.WellFormed.{Each, IsLegalPair, IsSoundEntry, IsWellFormed, own_part}
use Rattle.dir_tree.proofs.DirLemmas.{closed_put, closed_without, get_put, get_without, same_key}
use Rattle.dir_tree.proofs.SoundMade.{made_sound}
use Rattle.dir_tree.specs.SpelledNames.{own_rdns}
use Rattle.dir_change.specs.Operation.{directory_after, step, step_at}
use Rattle.dir_change.specs.SoundChange.{IsSoundChange}
use Rattle.dir_change.proofs.Conditions.{child_true}
use Rattle.dir_change.proofs.AfterOperations.{added_is, deleted_is, made_own, own_named}
use Rattle.dir_change.proofs.LegalValues.{legal_lines, legal_mods}
use Rattle.dir_change.proofs.ModifiedEntry.{modified_is, modified_sound}
use Rattle.dir_change.proofs.ModifyBack.{modified_at}
use Rattle.dir_change.proofs.RenameAccepted.{renamed_at}
use Rattle.dir_change.proofs.RenameStays.{rename_keeps}
use Rattle.dir_names.proofs.Both.{left, right}

-- ---- pairs

three : (b : ℕ) → length (escape_of b) ≡ 3
three b = refl

shown_long : (b : ℕ) → 1 ≤ length (printed_byte b)
shown_long b = by (is_special b)
  where
    by : (t : Bool) → 1 ≤ length (cond t (escape_of b) (b ∷ []))
    by true = omega arith
    by false = omega arith

rest_long : (bs : List ℕ) → length bs ≤ length (printed_rest bs)
rest_long [] = omega arith
rest_long (b ∷ []) = by (b == 32)
  where
    by : (t : Bool) → 1 ≤ length (cond t (escape_of b) (printed_byte b))
    by true = omega arith
    by false = shown_long b
rest_long (b ∷ c ∷ bs) =
    let first = shown_long b in
    let rest = rest_long (c ∷ bs) in
    let whole = length-append (printed_byte b) (printed_rest (c ∷ bs)) in
    omega (arith, first, rest, whole)

value_long : (bs : List ℕ) → length bs ≤ length (printed_value bs)
value_long [] = omega arith
value_long (b ∷ bs) = by (b == 32 || b == 35)
  where
    by : (t : Bool) → suc (length bs) ≤ length (cond t (escape_of b) (printed_byte b) ++ printed_rest bs)
    by true = let rest = rest_long bs in omega (arith, rest)
    by false =
        let first = shown_long b in
        let rest = rest_long bs in
        let whole = length-append (printed_byte b) (printed_rest bs) in
        omega (arith, first, rest, whole)

pair_long : (p : SpelledPair) → length p.1 ≤ length (printed_pair p)
pair_long p =
    let value = value_long p.1 in
    let whole = length-append p.0 (61 ∷ printed_value p.1) in
    omega (arith, value, whole)

small_pairs : (n : ℕ) (rdn : SpelledRdn) → length (printed_rdn rdn) ≤ n → Each (λ (p : SpelledPair). length p.1 ≤ n) rdn
small_pairs n [] h = tt
small_pairs n (p ∷ []) h = let long = pair_long p in (omega (arith, long, h), tt)
small_pairs n (p ∷ q ∷ ps) h =
    let long = pair_long p in
    let whole = length-append (printed_pair p) (43 ∷ printed_rdn (q ∷ ps)) in
    (omega (arith, long, whole, h), small_pairs n (q ∷ ps) (omega (arith, whole, h)))

legal_pairs : (rdn : SpelledRdn) → list_all is_sound_pair rdn ≡ true → Each (λ (p : SpelledPair). length p.1 ≤ 4096) rdn → Each IsLegalPair rdn
legal_pairs [] e h = tt
legal_pairs (p ∷ ps) e h = let short = h.0 in ((left (is_sound_pair p) _ e, omega (arith, short)), legal_pairs ps (right (is_sound_pair p) _ e) h.1)

pub legal_rdn : (rdn : SpelledRdn) → is_sound_rdn rdn ≡ true → is_rdn_within_limit rdn ≡ true → Each IsLegalPair rdn
legal_rdn rdn sound small = legal_pairs rdn (right (not (length rdn == 0)) _ sound) (small_pairs 4096 rdn (grind (arith, nat_tests)))

-- the own RDN of a name within the limits
pub legal_leaf : (suffix k : DnKeys) (name : SpelledName) → is_sound_name name ≡ true → is_within_limits name ≡ true → (leaf : SpelledRdn) → leaf_of (own_rdns suffix k name) ≡ Some leaf → Each IsLegalPair leaf
legal_leaf suffix k [] sound small leaf e = by (dn_key_eq k suffix) e
  where
    by : (b : Bool) → leaf_of (cond b [] []) ≡ Some leaf → Each IsLegalPair leaf
    by true h = absurd (cc)
    by false h = absurd (cc)
legal_leaf suffix k (rdn ∷ rdns) sound small leaf e = by (dn_key_eq k suffix) e
  where
    here : rdn ≡ leaf → Each IsLegalPair leaf
    here same = subst (Each IsLegalPair) same (legal_rdn rdn (left (is_sound_rdn rdn) _ sound) (left (is_rdn_within_limit rdn) _ (right (nat_le (length (rdn ∷ rdns)) 64) _ small)))

    by : (b : Bool) → leaf_of (cond b (rdn ∷ rdns) (rdn ∷ [])) ≡ Some leaf → Each IsLegalPair leaf
    by true h = here (cc)
    by false h = here (cc)

-- ---- the directory

keeps_without : (rows : List TypeRow) (d : Dir) (k : DnKeys) → IsWellFormed rows d → has_child d k ≡ false → IsWellFormed rows (remove_entry d k)
keeps_without rows d k well leaf =
    (well.0, closed_without d k well.1 (λ child. true≢false (sym (child_true d k child) ∙ leaf)), λ q e there. by q e (eq_by_cmp dn_key_cmp q k) (sym (get_without d k q) ∙ there))
  where
    by : (q : DnKeys) (e : Content) (b : Bool) → cond b None (entry_at d q) ≡ Some e → IsSoundEntry rows e × (name_key rows e.own ≡ Some (own_part d.suffix q))
    by q e true h = absurd (cc)
    by q e false h = well.2 q e h

keeps_put : (rows : List TypeRow) (d : Dir) (k : DnKeys) (x : Content) → IsWellFormed rows d → has_parent d k ≡ true → IsSoundEntry rows x → name_key rows x.own ≡ Some (own_part d.suffix k) → IsWellFormed rows (put_entry d k x)
keeps_put rows d k x well parent sound named =
    (well.0, closed_put d k x well.1 parent, λ q e there. by q e (eq_by_cmp dn_key_cmp q k) refl (sym (get_put d k x q) ∙ there))
  where
    by : (q : DnKeys) (e : Content) (b : Bool) → eq_by_cmp dn_key_cmp q k ≡ b → cond b (Some x) (entry_at d q) ≡ Some e → IsSoundEntry rows e × (name_key rows e.own ≡ Some (own_part d.suffix q))
    by q e false t h = well.2 q e h
    by q e true t h =
        let same : x ≡ e = cc in
        (subst (IsSoundEntry rows) same sound, ap (λ (c : Content). name_key rows c.own) (sym same) ∙ named ∙ ap (λ z. Some (own_part d.suffix z)) (sym (same_key q k t)))

pub step_keeps : (rows : List TypeRow) (d : Dir) (change : Change) → IsWellFormed rows d → IsSoundChange rows change → (new : Dir) → step rows d change ≡ Ok new → IsWellFormed rows new
step_keeps rows d change well sound new is = by (name_key rows change.dn) refl is
  where
    name_sound : (is_sound_name change.dn ≡ true) × (is_within_limits change.dn ≡ true)
    name_sound = sound.1.0

    done : (k : DnKeys) → name_key rows change.dn ≡ Some k → (c : ChangeKind) → is_legal_kind rows c ≡ true → IsSoundKind c → directory_after rows d k change.dn c ≡ Ok new → IsWellFormed rows new
    done k t (kind.Add lines) legal bytes h =
        let known = added_is rows d k change.dn lines new h in
        let entry = known.3 in
        let made_so = made_sound rows (own_rdns d.suffix k change.dn) lines entry (legal_leaf d.suffix k change.dn name_sound.0 name_sound.1) (legal_lines rows lines legal bytes) known.4 in
        let named = ap (name_key rows) (made_own rows (own_rdns d.suffix k change.dn) lines entry known.4) ∙ own_named rows d.suffix k change.dn t in
        subst (IsWellFormed rows) (sym known.5) (keeps_put rows d k entry well known.2 made_so named)
    done k t kind.Delete legal bytes h =
        let known = deleted_is d k new h in
        subst (IsWellFormed rows) (sym known.3) (keeps_without rows d k well known.2)
    done k t (kind.Modify mods) legal bytes h =
        let known = modified_at rows d k mods new h in
        let before = well.2 k known.old_entry known.there in
        let named = ap (λ (e : Content). name_key rows e.own) (modified_is rows known.old_entry mods known.new_entry known.after).is ∙ before.1 in
        subst (IsWellFormed rows) (sym known.is) (keeps_put rows d k known.new_entry well (well.1 k (ap is_some known.there)) (modified_sound rows known.old_entry mods known.new_entry (legal_mods rows mods legal bytes) before.0 known.after) named)
    done k t (kind.Rename rdn delete_old superior) legal bytes h = rename_keeps rows d k rdn delete_old superior new (renamed_at rows d k rdn delete_old superior new h) well (legal_rdn rdn bytes.0.0 bytes.0.1)

    by : (o : Option DnKeys) → name_key rows change.dn ≡ o → step_at rows d change o ≡ Ok new → IsWellFormed rows new
    by None t h = absurd (cc)
    by (Some k) t h = done k t change.kind (right (is_some (name_key rows change.dn)) (is_legal_kind rows change.kind) sound.0) sound.1.1 h
