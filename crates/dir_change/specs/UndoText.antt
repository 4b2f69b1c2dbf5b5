-- The undo text of a run: groups of changes, each after its mark and in the order in which it is to be applied, the last accepted record's
-- group first.
use Rattle.std.specs.Prelude.{ℕ, ◌+◌, List, [], ◌∷◌, ◌++◌, codes, reverse}
use Rattle.std.specs.List.{flat_map}
use Rattle.dir_ldif.specs.declared.records.Change.{Change}
use Rattle.dir_ldif.specs.MarkText.{mark_line}
use Rattle.dir_ldif.specs.RecordText.{change_text}

abbrev pub group_text : List Change → List ℕ
group_text group = flat_map change_text group

-- groups, each after its mark, with numbers from this one on
abbrev pub marked_text : ℕ → List (List Change) → List ℕ
marked_text n [] = []
marked_text n (group ∷ groups) = mark_line n ++ (group_text group ++ marked_text (n + 1) groups)

abbrev pub undo_text_of : List (List Change) → List ℕ
undo_text_of groups = codes "version: 1\n\n" ++ marked_text 1 (reverse groups)
