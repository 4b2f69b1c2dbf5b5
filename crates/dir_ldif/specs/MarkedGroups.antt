-- Groups of records, each after its mark, as an undo text has them, read back.
use Rattle.std.specs.Prelude.{◌≡◌, ℕ, ◌+◌, ◌<◌, ◌^◌, List, [], ◌∷◌, ◌++◌, length, map, min, take, codes, Some, Ok}
use Rattle.std.specs.Bool.{⊤}
use Rattle.std.specs.List.{flat_map}
use Rattle.dir_names.specs.declared.schema.TypeRow.{TypeRow}
use Rattle.dir_ldif.specs.declared.records.Record.{Record}
use Rattle.dir_ldif.specs.MarkText.{mark_line}
use Rattle.dir_ldif.specs.Records.{Found, all_found, marks_up_to, records_of, records_up_to}
use Rattle.dir_ldif.specs.RoundTrip.{records_text, without_line}
use Rattle.dir_ldif.specs.SoundRecords.{AreLegalAndSound}

-- the text of groups, each after its mark, with numbers from this one on
abbrev pub marked_text : ℕ → List (List Record) → List ℕ
marked_text n [] = []
marked_text n (group ∷ groups) = mark_line n ++ (records_text group ++ marked_text (n + 1) groups)

-- the whole text
abbrev pub marked_groups : List (List Record) → List ℕ
marked_groups groups = codes "version: 1\n\n" ++ marked_text 1 groups

abbrev pub AreSoundGroups : List TypeRow → List (List Record) → Type 0
AreSoundGroups rows [] = ⊤
AreSoundGroups rows (group ∷ groups) = AreLegalAndSound rows group × AreSoundGroups rows groups

-- all is read back where marks are comments; and of so many groups, those, with as many marks
abbrev pub MarkedGroupsReadBack : Type 0
MarkedGroupsReadBack = (rows : List TypeRow) (groups : List (List Record)) → AreSoundGroups rows groups
    → (map without_line (records_of rows (marked_groups groups)) ≡ map (λ (r : Record). Ok (Ok r)) (flat_map (λ g. g) groups))
    × ((k : ℕ) → k < 2 ^ 64
    → (map without_line (records_up_to rows k (marked_groups groups)) ≡ map (λ (r : Record). Ok (Ok r)) (flat_map (λ g. g) (take k groups)))
    × (marks_up_to k (marked_groups groups) ≡ Some (min k (length groups))))

-- the marks of a text that ends in no fault are known
abbrev pub MarksAreKnown : Type 0
MarksAreKnown = (rows : List TypeRow) (groups : ℕ) (text : List ℕ) (found : List Found) → records_up_to rows groups text ≡ all_found found → (n : ℕ) × (marks_up_to groups text ≡ Some n)
