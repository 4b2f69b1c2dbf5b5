-- The entries of a copy of sound records are sound.
use Rattle.std.proofs.Common.{◌≡◌, ℕ, ◌≤◌, Bool, true, false, cond, not, nat_le, List, [], length, Option, None, Some, is_some, Result, Ok, Err, refl, sym, ap, subst, ◌∙◌, arith}
use Rattle.std.specs.List.{list_all}
use Rattle.std.specs.Ordering.{eq_by_cmp}
use Rattle.std.proofs.lemmas.Bool.Decides.{nat_tests}
use Rattle.dir_names.specs.declared.schema.TypeRow.{TypeRow}
use Rattle.dir_names.specs.Described.{Described}
use Rattle.dir_names.specs.Keys.{DnKeys}
use Rattle.dir_names.specs.Names.{SpelledName}
use Rattle.dir_names.specs.NameKeys.{name_key}
use Rattle.dir_names.specs.Orders.{dn_key_cmp}
use Rattle.dir_names.specs.Names.Limits.{is_rdn_within_limit}
use Rattle.dir_names.specs.Names.Sound.{is_sound_rdn}
use Rattle.dir_names.specs.Below.{is_at_or_below}
use Rattle.dir_ldif.specs.declared.faults.RecordFault.{RecordFault}
use Rattle.dir_ldif.specs.declared.records.Record.{Record}
use Rattle.dir_ldif.specs.declared.records.Record.TheVariants as form
use Rattle.dir_ldif.specs.SoundRecords.{IsSoundName, ValuesAreBytes, IsSoundFound}
use Rattle.dir_ldif.specs.LegalRecords.{has_key, is_legal_line}
use Rattle.dir_tree.specs.Content.{Content}
use Rattle.dir_tree.specs.Dir.{Dir, IsClosed, entry_at, put_entry}
use Rattle.dir_tree.specs.NewEntry.{new_entry}
use Rattle.dir_tree.specs.WellFormed.{IsWellFormed, IsWithinLimits}
use Rattle.dir_tree.specs.declared.fault.EntryFault.{EntryFault}
use Rattle.dir_tree.proofs.DirLemmas.{get_put, same_key}
use Rattle.dir_tree.proofs.SoundMade.{made_sound}
use Rattle.dir_tree.proofs.OwnNames.{all_own_of}
use Rattle.dir_tree.specs.SpelledNames.{own_rdns}
use Rattle.dir_change.specs.declared.result_code.ResultCode.TheVariants.{NoSuchObject, EntryAlreadyExists}
use Rattle.dir_change.proofs.LegalValues.{legal_lines}
use Rattle.dir_change.proofs.StaysWellFormed.{legal_leaf}
use Rattle.dir_change.proofs.AfterOperations.{key_length, made_own, own_named}
use Rattle.dir_tools.specs.CopyOf.{LoadedCopy, refused_if, with_content, with_entry, with_record}
use Rattle.dir_tools.specs.Inside.Loading.{AreSoundInPlace, IsSoundAt}
use Rattle.dir_tools.proofs.Small.{left, right}

order_one : (rows : List TypeRow) (suffix k : DnKeys) (name : SpelledName) (lines : List (Described × List ℕ)) (e : Content)
    → name_key rows name ≡ Some k → IsSoundName name → list_all (is_legal_line rows) lines ≡ true → ValuesAreBytes lines → new_entry rows (own_rdns suffix k name) lines ≡ Ok e → IsSoundAt rows suffix k e
order_one rows suffix k name lines e named sound legal bytes makes =
    let own = made_own rows (own_rdns suffix k name) lines e makes in
    let long : length name ≡ length k = key_length rows name k named in
    let bound : nat_le (length name) 64 ≡ true = left (nat_le (length name) 64) _ sound.1 in
    let low : length k ≤ 64 = grind (arith, nat_tests) in (
      made_sound rows (own_rdns suffix k name) lines e (legal_leaf suffix k name sound.0 sound.1) (legal_lines rows lines legal bytes) makes,
      ap (name_key rows) own ∙ own_named rows suffix k name named,
      low,
      ap (list_all is_sound_rdn) own ∙ all_own_of is_sound_rdn suffix k name sound.0,
      ap (list_all is_rdn_within_limit) own ∙ all_own_of is_rdn_within_limit suffix k name (right (nat_le (length name) 64) _ sound.1),
    )

order_put : (rows : List TypeRow) (d : Dir) (k : DnKeys) (x : Content) → AreSoundInPlace rows d → IsSoundAt rows d.suffix k x → AreSoundInPlace rows (put_entry d k x)
order_put rows d k x order one q e there = by (eq_by_cmp dn_key_cmp q k) refl (sym (get_put d k x q) ∙ there)
  where
    by : (b : Bool) → eq_by_cmp dn_key_cmp q k ≡ b → cond b (Some x) (entry_at d q) ≡ Some e → IsSoundAt rows d.suffix q e
    by false t h = order q e h
    by true t h = let same : x ≡ e = cc in subst (λ z. IsSoundAt rows d.suffix z e) (sym (same_key q k t)) (subst (IsSoundAt rows d.suffix k) same one)

-- a sound record that is taken leaves the entries sound
pub order_taken : (rows : List TypeRow) (m n : LoadedCopy) (line : ℕ) (found : Result Record RecordFault)
    → IsSoundFound rows (line, found) → with_record rows m line found ≡ Ok n → AreSoundInPlace rows m.entries → AreSoundInPlace rows n.entries
order_taken rows m n line (Err fault) sound is order = absurd (cc)
order_taken rows m n line (Ok (form.Change change)) sound is order = absurd (cc)
order_taken rows m n line (Ok (form.Content name lines)) sound is order = by (name_key rows name) refl is
  where
    tests : (k : DnKeys) → name_key rows name ≡ Some k → (a b : Bool) (r : Result Content EntryFault) → new_entry rows (own_rdns m.entries.suffix k name) lines ≡ r
        → refused_if a line NoSuchObject (refused_if b line EntryAlreadyExists (with_entry m line k r)) ≡ Ok n → AreSoundInPlace rows n.entries
    tests k t true b r u h = absurd (cc)
    tests k t false true r u h = absurd (cc)
    tests k t false false (Err fault) u h = absurd (cc)
    tests k t false false (Ok e) u h =
        let same : with_entry m line k (Ok e) ≡ Ok n = h in
        let entries : put_entry m.entries k e ≡ n.entries = cc in
        subst (AreSoundInPlace rows) entries (order_put rows m.entries k e order (order_one rows m.entries.suffix k name lines e t sound.1.0 (right (has_key rows name) _ sound.0) sound.1.1 u))

    by : (o : Option DnKeys) → name_key rows name ≡ o → with_content rows m line name lines o ≡ Ok n → AreSoundInPlace rows n.entries
    by None t h = absurd (cc)
    by (Some k) t h = tests k t (not (is_at_or_below k m.entries.suffix)) (is_some (entry_at m.entries k)) (new_entry rows (own_rdns m.entries.suffix k name) lines) refl h

-- a closed directory of such entries is well formed
pub order_whole : (rows : List TypeRow) (d e : Dir) → d ≡ e → IsClosed e → (e.suffix ≡ [] → ⊥) → AreSoundInPlace rows d → IsWellFormed rows e × IsWithinLimits e
order_whole rows d e same closed named order =
    let all = subst (AreSoundInPlace rows) same order in
    ((named, closed, λ k x there. let one = all k x there in (one.0, one.1)), λ k x there. let one = all k x there in (one.2, one.3, one.4))
