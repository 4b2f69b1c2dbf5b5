-- A canonical text reads back as its directory.
use Rattle.std.proofs.Common.{◌≡◌, ℕ, Bool, true, false, cond, not, ◌&&◌, List, [], ◌∷◌, ◌++◌, map, Some, is_some, Ok, Err, T, refl, ap, subst, ◌∙◌, Less}
use Rattle.std.specs.List.{flat_map, filter}
use Rattle.std.specs.FinMap as fin
use Rattle.std.specs.FinMap.{find, entries_sorted, get-entries}
use Rattle.dir_names.specs.declared.schema.TypeRow.{TypeRow}
use Rattle.dir_names.specs.Keys.{DnKeys}
use Rattle.dir_names.specs.NameKeys.{name_key}
use Rattle.dir_names.specs.Orders.{dn_key_cmp, dn_key_cmp_total, dn_key_cmp_exact}
use Rattle.dir_names.specs.Sorted.{rises}
use Rattle.dir_names.proofs.Placed.{is_sorted-keys}
use Rattle.dir_ldif.specs.declared.records.Record.{Record}
use Rattle.dir_ldif.specs.declared.records.Record.TheVariants as form
use Rattle.dir_ldif.specs.RoundTrip.{RecordsReadBack, records_text, without_line}
use Rattle.dir_ldif.specs.SoundRecords.{AreLegalAndSound, IsSoundRecord}
use Rattle.dir_ldif.specs.LegalRecords.{is_legal_record}
use Rattle.dir_ldif.specs.RecordText.{record_text_of}
use Rattle.dir_ldif.specs.Records.{Answer, records_of}
use Rattle.dir_tree.specs.Content.{Content}
use Rattle.dir_tree.specs.Dir.{Dir, entry_at, has_parent}
use Rattle.dir_tree.specs.NewEntry.{new_entry}
use Rattle.dir_tree.specs.SpelledNames.{own_rdns, spelled_name}
use Rattle.dir_tree.specs.WellFormed.{Each, IsWellFormed, IsWithinLimits, all_lines}
use Rattle.dir_tree.proofs.MadeAgain.{made_again}
use Rattle.dir_tree.proofs.Relisted.{are_new, inserted, inserted_whole, new_whole}
use Rattle.dir_tree.proofs.Walk.{Entries, Rising, find_here, find_later, rising}
use Rattle.dir_change.specs.declared.result_code.ResultCode.TheVariants.{NoSuchObject, EntryAlreadyExists}
use Rattle.dir_change.proofs.LegalUndo.{legal_attributes}
use Rattle.dir_change.proofs.AfterOperations.{own_spelled, spelled_key, stands_below}
use Rattle.dir_change.proofs.StaysWithinLimits.{bytes_all, name_sound}
use Rattle.dir_tools.specs.Canonical.{canonical_of, entry_text}
use Rattle.dir_tools.specs.CopyOf.{LoadedCopy, copy_of, first_line, line_or_zero, refused_if, unless_orphan, whole_directory, with_content, with_entry, with_record, with_records}
use Rattle.dir_names.specs.Results.{and_then}
use Rattle.dir_tools.specs.Laws.{CanonicalTextsReadBack}
use Rattle.dir_tools.proofs.Small.{heads, left, not_true, one_found, right}

-- ---- every entry that is listed is at its key

found_all : (d : Dir) (k : DnKeys) (es : Entries) → Rising k es → ((q : DnKeys) → dn_key_cmp k q ≡ Less → entry_at d q ≡ find dn_key_cmp q es) → Each (λ p. entry_at d p.0 ≡ Some p.1) es
found_all d k [] r later = tt
found_all d k (e ∷ es) r later =
    (later e.0 r.0 ∙ find_here e es, found_all d e.0 es r.1 (λ q l. later q (dn_key_cmp_total.trans k e.0 q r.0 l) ∙ find_later e es q l))

found_first : (d : Dir) (es : Entries) → T (rises dn_key_cmp (map (λ e. e.0) es)) → ((q : DnKeys) → entry_at d q ≡ find dn_key_cmp q es) → Each (λ p. entry_at d p.0 ≡ Some p.1) es
found_first d [] t all = tt
found_first d (e ∷ es) t all = (all e.0 ∙ find_here e es, found_all d e.0 es (rising e.0 es t) (λ q l. all q ∙ find_later e es q l))

pub entries_stand : (d : Dir) → Each (λ p. entry_at d p.0 ≡ Some p.1) (fin.entries d.entries)
entries_stand d = found_first d (fin.entries d.entries) (subst T (is_sorted-keys dn_key_cmp (fin.entries d.entries)) (entries_sorted d.entries)) (λ q. get-entries d.entries q)

-- ---- no entry is without its parent

pub all_filtered : {A : Type 0} (p : A → Bool) (P : A → Type 0) → ((x : A) → P x → p x ≡ false) → (xs : List A) → Each P xs → filter p xs ≡ []
all_filtered p P none [] each = refl
all_filtered p P none (x ∷ xs) each = ap (λ b. cond b (x ∷ filter p xs) (filter p xs)) (none x each.0) ∙ all_filtered p P none xs each.1

module _ (rows : List TypeRow) (d : Dir) (well : IsWellFormed rows d) (within : IsWithinLimits d) where
  -- the record of an entry
  abbrev content_at : DnKeys × Content → Record
  content_at p = form.Content (spelled_name d p.0) (all_lines p.1.attributes)

  abbrev Stands : DnKeys × Content → Type 0
  Stands p = entry_at d p.0 ≡ Some p.1

  texts : (es : Entries) → flat_map entry_text (map (λ p. (spelled_name d p.0, p.1)) es) ≡ records_text (map content_at es)
  texts [] = refl
  texts (p ∷ es) = ap (λ t. record_text_of (content_at p) ++ t) (texts es)

  key_at : (p : DnKeys × Content) → Stands p → name_key rows (spelled_name d p.0) ≡ Some p.0
  key_at p there = spelled_key rows d well.1 (λ q x h. (well.2 q x h).1) p.0 (ap is_some there)

  sound_at : (p : DnKeys × Content) → Stands p → (is_legal_record rows (content_at p) ≡ true) × IsSoundRecord (content_at p)
  sound_at p there =
      let key = key_at p there in
      let attributes = (well.2 p.0 p.1 there).0.1 in
      let lines = legal_attributes rows (fin.entries p.1.attributes) attributes in
      ((λ i. is_some (key i) && lines i), (name_sound rows d well within p.0 p.1 there, bytes_all rows (fin.entries p.1.attributes) attributes))

  all_sound : (es : Entries) → Each Stands es → AreLegalAndSound rows (map content_at es)
  all_sound [] each = tt
  all_sound (p ∷ es) each = let sound = sound_at p each.0 in (sound.0, sound.1, all_sound es each.1)

  -- ---- one record

  module _ (m : fin.FinMap dn_key_cmp Content) (lines : fin.FinMap dn_key_cmp ℕ) where
    abbrev so_far : LoadedCopy
    so_far = record { entries = record { suffix = d.suffix; entries = m }; lines = lines }

    abbrev with_one : DnKeys × Content → ℕ → LoadedCopy
    with_one p line = record { entries = record { suffix = d.suffix; entries = fin.insert m p.0 p.1 }; lines = fin.insert lines p.0 line }

    taken : (p : DnKeys × Content) (line : ℕ) → Stands p → fin.contains_key m p.0 ≡ false → with_record rows so_far line (Ok (content_at p)) ≡ Ok (with_one p line)
    taken p line there free =
        let below = stands_below d well.1 p.0 (ap is_some there) in
        ap (λ o. with_content rows so_far line (spelled_name d p.0) (all_lines p.1.attributes) o) (key_at p there)
        ∙ (λ i. refused_if (not (below i)) line NoSuchObject (refused_if (free i) line EntryAlreadyExists (with_entry so_far line p.0 (new_entry rows (own_rdns d.suffix p.0 (spelled_name d p.0)) (all_lines p.1.attributes)))))
        ∙ ap (λ own. with_entry so_far line p.0 (new_entry rows own (all_lines p.1.attributes))) (own_spelled rows d well p.0 p.1 there)
        ∙ ap (with_entry so_far line p.0) (made_again rows p.1 (well.2 p.0 p.1 there).0)

  -- ---- all of them

  load : (es : Entries) (m : fin.FinMap dn_key_cmp Content) (lines : fin.FinMap dn_key_cmp ℕ) (answers : List Answer)
      → Each Stands es → are_new dn_key_cmp_total dn_key_cmp_exact m es ≡ true → map without_line answers ≡ map (λ r. Ok (Ok r)) (map content_at es)
      → (end : LoadedCopy) × (with_records rows (so_far m lines) answers ≡ Ok end) × (end.entries ≡ record { suffix = d.suffix; entries = inserted dn_key_cmp_total dn_key_cmp_exact m es })
  load [] m lines [] each new same = (so_far m lines, refl, refl)
  load [] m lines (a ∷ later) each new same = absurd (cc)
  load (p ∷ es) m lines [] each new same = absurd (cc)
  load (p ∷ es) m lines (Err fault ∷ later) each new same = absurd (cc)
  load (p ∷ es) m lines (Ok found ∷ later) each new same =
      let parts = heads (Ok found) (content_at p) (map without_line later) (map (λ r. Ok (Ok r)) (map content_at es)) same in
      let is : found.1 ≡ Ok (content_at p) = one_found found (content_at p) parts.0 in
      let free : fin.contains_key m p.0 ≡ false = not_true (fin.contains_key m p.0) (left _ (are_new dn_key_cmp_total dn_key_cmp_exact (fin.insert m p.0 p.1) es) new) in
      let took = ap (with_record rows (so_far m lines) found.0) is ∙ taken m lines p found.0 each.0 free in
      let rest = load es (fin.insert m p.0 p.1) (fin.insert lines p.0 found.0) later each.1 (right (not (fin.contains_key m p.0)) _ new) parts.1 in
      (rest.0, ap (λ r. and_then r (λ l. with_records rows l later)) took ∙ rest.1, rest.2)

  no_orphan : (l : LoadedCopy) → l.entries ≡ d → whole_directory l ≡ Ok d
  no_orphan l same =
      ap (λ e. unless_orphan e (first_line (map (λ p. line_or_zero (fin.get l.lines p.0)) (filter (λ p. not (has_parent e p.0)) (fin.entries e.entries))))) same
      ∙ ap (λ ps. unless_orphan d (first_line (map (λ p. line_or_zero (fin.get l.lines p.0)) ps)))
      (all_filtered (λ p. not (has_parent d p.0)) Stands (λ p there. ap not (well.1 p.0 (ap is_some there))) (fin.entries d.entries) (entries_stand d))

  read_back : RecordsReadBack → copy_of rows d.suffix (canonical_of d) ≡ Ok d
  read_back law =
      let es = fin.entries d.entries in
      let known = ap (λ t. map without_line (records_of rows t)) (texts es) ∙ (law rows (map content_at es) (all_sound es (entries_stand d))).0 in
      let end = load es fin.empty fin.empty (records_of rows (canonical_of d)) (entries_stand d) (new_whole dn_key_cmp_total dn_key_cmp_exact d.entries) known in
      let same : end.0.entries ≡ d = end.2 ∙ ap (λ m. record { suffix = d.suffix; entries = m }) (inserted_whole dn_key_cmp_total dn_key_cmp_exact d.entries) in
      ap (λ r. and_then r whole_directory) end.1 ∙ no_orphan end.0 same

pub texts_read_back : RecordsReadBack → CanonicalTextsReadBack
texts_read_back law rows d well within = read_back rows d well within law
