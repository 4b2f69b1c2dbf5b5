use Rattle.std.proofs.Common.{◌++◌, ℕ, List, Ok, Result, ap, codes, refl, ◌∙◌}
use Rattle.std.specs.declared.fmt.Error.{Error}
use Rattle.dir_tools.proofs.Shown.{two_shown}
use Rattle.dir_files.specs.NoteText.{derived_text, note_text, place_text, shown_bytes, unknown_text, word_text}
use Rattle.dir_files.proofs.NoteLemmas.{two_written}
use Rattle.dir_files.proofs.note.ShownNoteDisplay.fmt.Goals as goal

pub returns-in_ok-show_place-in-Include-clause-writes : goal.returns-in_ok-show_place-in-Include-clause-writes
returns-in_ok-show_place-in-Include-clause-writes g c =
    let ok : Result (Unit {0}) Error = Ok tt in
    let line = c.args.self.now.0.now.line in
    two_written g.W.Write.write_str_gives c.args.f.now c.show_place.new.f c.show_between.new.f ok c.show_between.result
    (place_text line) (codes "include \"" ++ shown_bytes c.as_slice.result.now ++ codes "\" is not read") (note_text c.args.self.now.0.now) c.in_ok-show_place-in-Include.ensures.writes refl c.show_between.ensures.writes (rw c.in-Include.is (ap (λ (t : List ℕ). place_text line ++ (codes "include \"" ++ shown_bytes t ++ codes "\" is not read")) c.as_slice.ensures))

pub returns-in_ok-show_place-in-Include-clause-styled : goal.returns-in_ok-show_place-in-Include-clause-styled
returns-in_ok-show_place-in-Include-clause-styled g c =
    let ok : Result (Unit {0}) Error = Ok tt in
    let line = c.args.self.now.0.now.line in
    two_shown g.W.Write.write_str_gives c.args.f.now c.show_place.new.f c.show_between.new.f ok c.show_between.result
    (place_text line) (codes "include \"" ++ shown_bytes c.as_slice.result.now ++ codes "\" is not read") (note_text c.args.self.now.0.now) c.in_ok-show_place-in-Include.ensures.styled refl c.show_between.ensures.styled (rw c.in-Include.is (ap (λ (t : List ℕ). place_text line ++ (codes "include \"" ++ shown_bytes t ++ codes "\" is not read")) c.as_slice.ensures))

pub returns-in_ok-show_place-in-UnknownType-clause-writes : goal.returns-in_ok-show_place-in-UnknownType-clause-writes
returns-in_ok-show_place-in-UnknownType-clause-writes g c =
    let ok : Result (Unit {0}) Error = Ok tt in
    let line = c.args.self.now.0.now.line in
    two_written g.W.Write.write_str_gives c.args.f.now c.show_place-in-UnknownType.new.f c.show_unknown.new.f ok c.show_unknown.result
    (place_text line) (unknown_text c.as_slice-in-UnknownType.result.now) (note_text c.args.self.now.0.now) c.in_ok-show_place-in-UnknownType.ensures.writes refl c.show_unknown.ensures.writes (rw c.in-UnknownType.is (ap (λ (t : List ℕ). place_text line ++ unknown_text t) c.as_slice-in-UnknownType.ensures))

pub returns-in_ok-show_place-in-UnknownType-clause-styled : goal.returns-in_ok-show_place-in-UnknownType-clause-styled
returns-in_ok-show_place-in-UnknownType-clause-styled g c =
    let ok : Result (Unit {0}) Error = Ok tt in
    let line = c.args.self.now.0.now.line in
    two_shown g.W.Write.write_str_gives c.args.f.now c.show_place-in-UnknownType.new.f c.show_unknown.new.f ok c.show_unknown.result
    (place_text line) (unknown_text c.as_slice-in-UnknownType.result.now) (note_text c.args.self.now.0.now) c.in_ok-show_place-in-UnknownType.ensures.styled refl c.show_unknown.ensures.styled (rw c.in-UnknownType.is (ap (λ (t : List ℕ). place_text line ++ unknown_text t) c.as_slice-in-UnknownType.ensures))

pub returns-in_ok-show_place-in-Supertype-clause-writes : goal.returns-in_ok-show_place-in-Supertype-clause-writes
returns-in_ok-show_place-in-Supertype-clause-writes g c =
    let ok : Result (Unit {0}) Error = Ok tt in
    let line = c.args.self.now.0.now.line in
    two_written g.W.Write.write_str_gives c.args.f.now c.show_place-in-Supertype.new.f c.show_derived.new.f ok c.show_derived.result
    (place_text line) (derived_text c.as_slice-in-Supertype.result.now) (note_text c.args.self.now.0.now) c.in_ok-show_place-in-Supertype.ensures.writes refl c.show_derived.ensures.writes (rw c.in-Supertype.is (ap (λ (t : List ℕ). place_text line ++ derived_text t) c.as_slice-in-Supertype.ensures))

pub returns-in_ok-show_place-in-Supertype-clause-styled : goal.returns-in_ok-show_place-in-Supertype-clause-styled
returns-in_ok-show_place-in-Supertype-clause-styled g c =
    let ok : Result (Unit {0}) Error = Ok tt in
    let line = c.args.self.now.0.now.line in
    two_shown g.W.Write.write_str_gives c.args.f.now c.show_place-in-Supertype.new.f c.show_derived.new.f ok c.show_derived.result
    (place_text line) (derived_text c.as_slice-in-Supertype.result.now) (note_text c.args.self.now.0.now) c.in_ok-show_place-in-Supertype.ensures.styled refl c.show_derived.ensures.styled (rw c.in-Supertype.is (ap (λ (t : List ℕ). place_text line ++ derived_text t) c.as_slice-in-Supertype.ensures))

pub returns-in_ok-show_place-in-ObjectClass-clause-styled : goal.returns-in_ok-show_place-in-ObjectClass-clause-styled
returns-in_ok-show_place-in-ObjectClass-clause-styled g c =
    let ok : Result (Unit {0}) Error = Ok tt in
    let line = c.args.self.now.0.now.line in
    two_shown g.W.Write.write_str_gives c.args.f.now c.show_place-in-ObjectClass.new.f c.write_str-in-ObjectClass.new.self ok c.write_str-in-ObjectClass.result
    (place_text line) (codes "objectClass: only the classes that an entry lists are looked at") (note_text c.args.self.now.0.now) c.in_ok-show_place-in-ObjectClass.ensures.styled refl c.write_str-in-ObjectClass.ensures.styled (rw c.in-ObjectClass.is refl)

pub returns-in_ok-show_place-in-HalfOfWrite-clause-styled : goal.returns-in_ok-show_place-in-HalfOfWrite-clause-styled
returns-in_ok-show_place-in-HalfOfWrite-clause-styled g c =
    let ok : Result (Unit {0}) Error = Ok tt in
    let line = c.args.self.now.0.now.line in
    two_shown g.W.Write.write_str_gives c.args.f.now c.show_place-in-HalfOfWrite.new.f c.write_str-in-HalfOfWrite.new.self ok c.write_str-in-HalfOfWrite.result
    (place_text line) (codes "for -a or -z slapd takes all of w away") (note_text c.args.self.now.0.now) c.in_ok-show_place-in-HalfOfWrite.ensures.styled refl c.write_str-in-HalfOfWrite.ensures.styled (rw c.in-HalfOfWrite.is refl)

pub returns-in_ok-show_place-in-OtherDatabase-clause-styled : goal.returns-in_ok-show_place-in-OtherDatabase-clause-styled
returns-in_ok-show_place-in-OtherDatabase-clause-styled g c =
    let ok : Result (Unit {0}) Error = Ok tt in
    let line = c.args.self.now.0.now.line in
    two_shown g.W.Write.write_str_gives c.args.f.now c.show_place-in-OtherDatabase.new.f c.write_str-in-OtherDatabase.new.self ok c.write_str-in-OtherDatabase.result
    (place_text line) (codes "access rule of database config or monitor is passed over") (note_text c.args.self.now.0.now) c.in_ok-show_place-in-OtherDatabase.ensures.styled refl c.write_str-in-OtherDatabase.ensures.styled (rw c.in-OtherDatabase.is refl)

pub returns-in_ok-show_word-in-UnknownInWord-clause-styled : goal.returns-in_ok-show_word-in-UnknownInWord-clause-styled
returns-in_ok-show_word-in-UnknownInWord-clause-styled g c =
    let ok : Result (Unit {0}) Error = Ok tt in
    let line = c.args.self.now.0.now.line in
    let description = c.as_slice-in-UnknownInWord-2.result.now in
    two_shown g.W.Write.write_str_gives c.args.f.now c.show_word.new.f c.show_unknown-in-UnknownInWord.new.f ok c.show_unknown-in-UnknownInWord.result
    (word_text line c.as_slice-in-UnknownInWord.result.now) (unknown_text description) (note_text c.args.self.now.0.now) c.in_ok-show_word-in-UnknownInWord.ensures.styled refl c.show_unknown-in-UnknownInWord.ensures.styled
    (rw c.in-UnknownInWord.is (ap (λ (t : List ℕ). word_text line t ++ unknown_text description) c.as_slice-in-UnknownInWord.ensures ∙ ap (λ (t : List ℕ). word_text line c.in-UnknownInWord.word ++ unknown_text t) c.as_slice-in-UnknownInWord-2.ensures))
