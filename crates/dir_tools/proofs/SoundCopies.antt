-- What a text of bytes is the copy of, is well formed and within the limits.
use Rattle.std.proofs.Common.{◌≡◌, ℕ, Bool, true, false, cond, not, nat_lt, List, [], ◌∷◌, map, Option, None, Some, is_some, Result, Ok, Err, refl, sym, ap, subst, ◌∙◌, true≢false}
use Rattle.std.specs.List.{filter}
use Rattle.std.specs.Ordering.{eq_by_cmp}
use Rattle.std.specs.FinMap as fin
use Rattle.std.specs.FinMap.{find, get-entries}
use Rattle.dir_names.specs.declared.schema.TypeRow.{TypeRow}
use Rattle.dir_names.specs.Keys.{DnKeys}
use Rattle.dir_names.specs.NameKeys.{name_key}
use Rattle.dir_names.specs.Orders.{dn_key_cmp}
use Rattle.dir_names.specs.Results.{and_then}
use Rattle.dir_ldif.specs.declared.faults.RecordFault.{RecordFault}
use Rattle.dir_ldif.specs.declared.records.Record.{Record}
use Rattle.dir_ldif.specs.declared.records.Record.TheVariants as form
use Rattle.dir_ldif.specs.Records.{Answer, records_of}
use Rattle.dir_ldif.specs.SoundRecords.{AreSoundAnswers, RecordsAreSound}
use Rattle.dir_tree.specs.Content.{Content}
use Rattle.dir_tree.specs.Dir.{Dir, IsClosed, entry_at, has_parent, put_entry}
use Rattle.dir_tree.specs.NewEntry.{new_entry}
use Rattle.dir_tree.specs.declared.fault.EntryFault.{EntryFault}
use Rattle.dir_tree.proofs.DirLemmas.{same_key}
use Rattle.dir_change.specs.declared.result_code.ResultCode.TheVariants.{NoSuchObject, EntryAlreadyExists}
use Rattle.dir_names.specs.Below.{is_at_or_below}
use Rattle.dir_tree.specs.SpelledNames.{own_rdns}
use Rattle.dir_tools.specs.CopyOf.{CopyFault, LoadedCopy, copy_of, earlier_line, empty_copy, first_line, orphan_lines, refused_if, unless_orphan, whole_directory, with_content, with_entry, with_record, with_records}
use Rattle.dir_tools.specs.Inside.Loading.{AreSoundInPlace}
use Rattle.dir_tools.specs.Laws.{CopiesAreSound}
use Rattle.dir_tools.proofs.CopyLemmas.{bare_order}
use Rattle.dir_tools.proofs.CopySound.{order_taken, order_whole}

-- ---- record by record

sound_loaded : (rows : List TypeRow) (answers : List Answer) (m n : LoadedCopy) → AreSoundAnswers rows answers → with_records rows m answers ≡ Ok n → AreSoundInPlace rows m.entries → AreSoundInPlace rows n.entries
sound_loaded rows [] m n sound is order = let same : m ≡ n = cc in subst (λ (l : LoadedCopy). AreSoundInPlace rows l.entries) same order
sound_loaded rows (Err fault ∷ rest) m n sound is order = absurd (cc)
sound_loaded rows (Ok found ∷ rest) m n sound is order = by (λ l. sound_loaded rows rest l n sound.1) (with_record rows m found.0 found.1) refl is
  where
    by : ((l : LoadedCopy) → with_records rows l rest ≡ Ok n → AreSoundInPlace rows l.entries → AreSoundInPlace rows n.entries)
        → (r : Result LoadedCopy CopyFault) → with_record rows m found.0 found.1 ≡ r → and_then r (λ l. with_records rows l rest) ≡ Ok n → AreSoundInPlace rows n.entries
    by later (Ok l) e h = later l h (order_taken rows m l found.0 found.1 sound.0 e order)
    by later (Err fault) e h = absurd (cc)

-- the suffix stays
suffix_with : (rows : List TypeRow) (m n : LoadedCopy) (line : ℕ) (found : Result Record RecordFault) → with_record rows m line found ≡ Ok n → n.entries.suffix ≡ m.entries.suffix
suffix_with rows m n line (Err fault) is = absurd (cc)
suffix_with rows m n line (Ok (form.Change change)) is = absurd (cc)
suffix_with rows m n line (Ok (form.Content name lines)) is = by (name_key rows name) is
  where
    tests : (k : DnKeys) (a b : Bool) (r : Result Content EntryFault) → refused_if a line NoSuchObject (refused_if b line EntryAlreadyExists (with_entry m line k r)) ≡ Ok n → n.entries.suffix ≡ m.entries.suffix
    tests k true b r h = absurd (cc)
    tests k false true r h = absurd (cc)
    tests k false false (Err fault) h = absurd (cc)
    tests k false false (Ok e) h =
        let same : with_entry m line k (Ok e) ≡ Ok n = h in
        let entries : put_entry m.entries k e ≡ n.entries = cc in
        ap (λ (d : Dir). d.suffix) (sym entries)

    by : (o : Option DnKeys) → with_content rows m line name lines o ≡ Ok n → n.entries.suffix ≡ m.entries.suffix
    by None h = absurd (cc)
    by (Some k) h = tests k (not (is_at_or_below k m.entries.suffix)) (is_some (entry_at m.entries k)) (new_entry rows (own_rdns m.entries.suffix k name) lines) h

suffix_loaded : (rows : List TypeRow) (answers : List Answer) (m n : LoadedCopy) → with_records rows m answers ≡ Ok n → n.entries.suffix ≡ m.entries.suffix
suffix_loaded rows [] m n is = let same : m ≡ n = cc in ap (λ (l : LoadedCopy). l.entries.suffix) (sym same)
suffix_loaded rows (Err fault ∷ rest) m n is = absurd (cc)
suffix_loaded rows (Ok found ∷ rest) m n is = by (λ l. suffix_loaded rows rest l n) (with_record rows m found.0 found.1) refl is
  where
    by : ((l : LoadedCopy) → with_records rows l rest ≡ Ok n → n.entries.suffix ≡ l.entries.suffix)
        → (r : Result LoadedCopy CopyFault) → with_record rows m found.0 found.1 ≡ r → and_then r (λ l. with_records rows l rest) ≡ Ok n → n.entries.suffix ≡ m.entries.suffix
    by later (Ok l) e h = later l h ∙ suffix_with rows m l found.0 found.1 e
    by later (Err fault) e h = absurd (cc)

-- ---- where no line is that of an orphan

some_line : (line : ℕ) (first : Option ℕ) → earlier_line line first ≡ None → ⊥
some_line line None h = cc
some_line line (Some first) h = by (nat_lt line first) h
  where
    by : (b : Bool) → cond b (Some line) (Some first) ≡ None → ⊥
    by true g = cc
    by false g = cc

no_line : (lines : List ℕ) → first_line lines ≡ None → lines ≡ []
no_line [] h = refl
no_line (line ∷ lines) h = absurd (some_line line (first_line lines) h)

no_image : {A B : Type 0} (f : A → B) (xs : List A) → map f xs ≡ [] → xs ≡ []
no_image f [] h = refl
no_image f (x ∷ xs) h = absurd (cc)

-- a test that is passed by all keys of a list is passed by one that is found in it
found_passes : (test : DnKeys → Bool) (es : List (DnKeys × Content)) (k : DnKeys) → filter (λ p. not (test p.0)) es ≡ [] → is_some (find dn_key_cmp k es) ≡ true → test k ≡ true
found_passes test [] k none there = absurd (true≢false (sym there))
found_passes test (e ∷ es) k none there = by (λ rest. found_passes test es k rest) (eq_by_cmp dn_key_cmp k e.0) refl there
  where
    passed : (t : Bool) → test e.0 ≡ t → cond (not t) (e ∷ filter (λ p. not (test p.0)) es) (filter (λ p. not (test p.0)) es) ≡ [] → (test e.0 ≡ true) × (filter (λ p. not (test p.0)) es ≡ [])
    passed true t h = (t, h)
    passed false t h = absurd (cc)

    both : (test e.0 ≡ true) × (filter (λ p. not (test p.0)) es ≡ [])
    both = passed (test e.0) refl none

    by : (filter (λ p. not (test p.0)) es ≡ [] → is_some (find dn_key_cmp k es) ≡ true → test k ≡ true)
        → (b : Bool) → eq_by_cmp dn_key_cmp k e.0 ≡ b → is_some (cond b (Some e.1) (find dn_key_cmp k es)) ≡ true → test k ≡ true
    by later true t h = ap test (same_key k e.0 t) ∙ both.0
    by later false t h = later both.1 h

closed_so : (d : Dir) → filter (λ p. not (has_parent d p.0)) (fin.entries d.entries) ≡ [] → IsClosed d
closed_so d none k there = found_passes (has_parent d) (fin.entries d.entries) k none (ap is_some (sym (get-entries d.entries k)) ∙ there)

whole_so : (m : LoadedCopy) (d : Dir) → whole_directory m ≡ Ok d → (m.entries ≡ d) × IsClosed d
whole_so m d is = by (first_line (orphan_lines m)) refl is
  where
    by : (o : Option ℕ) → first_line (orphan_lines m) ≡ o → unless_orphan m.entries o ≡ Ok d → (m.entries ≡ d) × IsClosed d
    by None t h = let same : m.entries ≡ d = cc in (same, subst IsClosed same (closed_so m.entries (no_image _ _ (no_line (orphan_lines m) t))))
    by (Some line) t h = absurd (cc)

-- ---- the whole copy

module _ (rows : List TypeRow) (suffix : DnKeys) (text : List ℕ) (d : Dir) (is : copy_of rows suffix text ≡ Ok d) where
  loaded : (l : LoadedCopy) × (with_records rows (empty_copy suffix) (records_of rows text) ≡ Ok l) × (whole_directory l ≡ Ok d)
  loaded = by (with_records rows (empty_copy suffix) (records_of rows text)) refl is
    where
      by : (r : Result LoadedCopy CopyFault) → with_records rows (empty_copy suffix) (records_of rows text) ≡ r → and_then r whole_directory ≡ Ok d
          → (l : LoadedCopy) × (with_records rows (empty_copy suffix) (records_of rows text) ≡ Ok l) × (whole_directory l ≡ Ok d)
      by (Ok l) e h = (l, e, h)
      by (Err fault) e h = absurd (cc)

  pub copy_suffix : d.suffix ≡ suffix
  copy_suffix = ap (λ (e : Dir). e.suffix) (sym (whole_so loaded.0 d loaded.2).0) ∙ suffix_loaded rows (records_of rows text) (empty_copy suffix) loaded.0 loaded.1

pub copies_sound : RecordsAreSound → CopiesAreSound
copies_sound law rows suffix text d bytes named is =
    let l = loaded rows suffix text d is in
    let whole = whole_so l.0 d l.2 in
    order_whole rows l.0.entries d whole.0 whole.1 (λ none. named (sym (copy_suffix rows suffix text d is) ∙ none))
    (sound_loaded rows (records_of rows text) (empty_copy suffix) l.0 (law rows text bytes) l.1 (bare_order rows suffix))
