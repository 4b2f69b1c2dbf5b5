-- The complete records among a reader's bytes were given, and taken or accepted.
use Rattle.std.proofs.Common.{◌≡◌, ℕ, List, [], ◌∷◌, ◌++◌, Option, Ok, refl, sym, ap, subst, ◌∙◌, append_assoc, append-nil}
use Rattle.std.proofs.lemmas.List.{map-append}
use Rattle.std.proofs.KnownBytes.{Consumes-nil, Consumes-trans}
use Rattle.dir_names.specs.declared.schema.TypeRow.{TypeRow}
use Rattle.dir_ldif.specs.declared.faults.StreamFault.{StreamFault}
use Rattle.dir_ldif.specs.declared.faults.StreamFault.TheVariants as stream
use Rattle.dir_ldif.specs.declared.reader.RecordReader.{RecordReader}
use Rattle.std.specs.Io.KnownBytes.{Consumes}
use Rattle.dir_ldif.specs.declared.reader.Place.TheVariants.{Reading}
use Rattle.dir_ldif.specs.Reader.Answers.{FirstIsComplete, answers_ahead, answers_at}
use Rattle.dir_ldif.specs.Reader.{StopsFor, UsesUp, answers_to_come_with, in_hand, schema_of, source_of}
use Rattle.dir_ldif.specs.Records.{Answer, Found, all_found}
use Rattle.dir_tree.specs.Dir.{Dir}
use Rattle.dir_tools.specs.CopyOf.{LoadedCopy}
use Rattle.dir_tools.specs.CompleteRecords.{AreComplete, CompleteRecordsAreAccepted, CompleteRecordsLoad, GaveBytes, GaveBytesTo}

-- ---- lists of answers

abbrev pub found_one : Found → Answer
found_one f = Ok f

first_same : (f g : Found) (xs ys : List Answer) → Ok f ∷ xs ≡ Ok g ∷ ys → (f ≡ g) × (xs ≡ ys)
first_same f g xs ys same = (cc, cc)

-- no complete record comes after those that were given
pub are_given : (given settled : List Found) (tail : List ℕ → List Answer) → ((text : List ℕ) → (rest : List Answer) × (all_found given ++ tail text ≡ all_found settled ++ rest)) → (FirstIsComplete tail → ⊥)
    → (more : List Found) × (given ≡ settled ++ more)
are_given given [] tail same unsettled = (given, refl)
are_given [] (g ∷ settled) tail same unsettled = absurd (unsettled (g, λ text. (all_found settled ++ (same text).0, (same text).1)))
are_given (f ∷ given) (g ∷ settled) tail same unsettled =
    let head : f ≡ g = (first_same f g (all_found given ++ tail []) (all_found settled ++ (same []).0) (same []).1).0 in
    let later = are_given given settled tail (λ text. ((same text).0, (first_same f g (all_found given ++ tail text) (all_found settled ++ (same text).0) (same text).1).1)) unsettled in
    (later.0, ap (λ t. f ∷ t) later.1 ∙ ap (λ x. x ∷ (settled ++ later.0)) head)

-- ---- what a reader gave

-- the source failed, or no read call was left
abbrev pub IsReaders : StreamFault → Type 0
IsReaders stream.Read = Unit {0}
IsReaders stream.TooManyTurns = Unit {0}
IsReaders stream.LineTooLong = ⊥
IsReaders stream.Memory = ⊥
IsReaders stream.Ended = ⊥
IsReaders stream.BadVersion = ⊥
IsReaders stream.BadMark = ⊥

module _ {S : Type 0} (left : S → Option (List ℕ)) where
  -- these records were given, and the rest is to come
  abbrev pub ComesFrom : RecordReader S → RecordReader S → List Found → Type 0
  ComesFrom first now founds =
      (bytes : List ℕ) × (used : List ℕ) × Consumes (left (source_of first)) (left (source_of now)) bytes × (in_hand first ++ bytes ≡ used ++ in_hand now)
      × ((text : List ℕ) → answers_to_come_with first (used ++ text) ≡ all_found founds ++ answers_to_come_with now text)

  pub comes_begun : (r : RecordReader S) → ComesFrom r r []
  comes_begun r = ([], [], Consumes-nil (left (source_of r)), append-nil (in_hand r), λ text. refl)

  pub comes_further : (first old new : RecordReader S) (founds : List Found) (found : Found) → schema_of new ≡ schema_of old → UsesUp left found old new → ComesFrom first old founds → ComesFrom first new (founds ++ found ∷ [])
  comes_further first old new founds found same uses was =
      let hands : in_hand first ++ (was.0 ++ uses.0) ≡ (was.1 ++ uses.1) ++ in_hand new =
      sym (append_assoc (in_hand first) was.0 uses.0) ∙ ap (λ t. t ++ uses.0) was.3 ∙ append_assoc was.1 (in_hand old) uses.0 ∙ ap (λ t. was.1 ++ t) uses.3 ∙ sym (append_assoc was.1 uses.1 (in_hand new)) in (
        was.0 ++ uses.0,
        was.1 ++ uses.1,
        Consumes-trans (left (source_of first)) (left (source_of old)) (left (source_of new)) was.0 uses.0 was.2 uses.2,
        hands,
        λ text. ap (answers_to_come_with first) (append_assoc was.1 uses.1 text) ∙ was.4 (uses.1 ++ text)
            ∙ ap (λ t. all_found founds ++ t) (uses.4 text ∙ ap (λ rows. Ok found ∷ answers_ahead rows new.core text) (sym same))
            ∙ sym (append_assoc (all_found founds) (Ok found ∷ []) (answers_to_come_with new text))
            ∙ ap (λ t. t ++ answers_to_come_with new text) (sym (map-append found_one founds (found ∷ []))),
      )

  -- where reading failed, every complete record had been given
  abbrev pub GaveAll : List Found → (List ℕ → List Answer) → Type 0
  GaveAll founds answers = (settled : List Found) → AreComplete answers settled → (more : List Found) × (founds ≡ settled ++ more)

  stopped : (first old new : RecordReader S) (founds : List Found) (bytes : List ℕ) → Consumes (left (source_of old)) (left (source_of new)) bytes
      → (FirstIsComplete (λ text. answers_at Reading (schema_of old) old.core (bytes ++ text)) → ⊥) → ComesFrom first old founds → GaveBytesTo left first new (GaveAll founds)
  stopped first old new founds bytes gave unsettled was =
      let tail : List ℕ → List Answer = (λ text. answers_to_come_with old (in_hand old ++ (bytes ++ text))) in
      let whole : (text : List ℕ) → answers_to_come_with first (in_hand first ++ ((was.0 ++ bytes) ++ text)) ≡ all_found founds ++ tail text = (λ text.
      ap (answers_to_come_with first)
      (ap (λ t. in_hand first ++ t) (append_assoc was.0 bytes text) ∙ sym (append_assoc (in_hand first) was.0 (bytes ++ text)) ∙ ap (λ t. t ++ (bytes ++ text)) was.3 ∙ append_assoc was.1 (in_hand old) (bytes ++ text))
      ∙ was.4 (in_hand old ++ (bytes ++ text))) in (
        was.0 ++ bytes,
        Consumes-trans (left (source_of first)) (left (source_of old)) (left (source_of new)) was.0 bytes was.2 gave,
        λ settled settles. are_given founds settled tail (λ text. ((settles text).0, sym (whole text) ∙ (settles text).1)) unsettled,
      )

  pub gave_all : (failures : S → ℕ) (fault : StreamFault) (first old new : RecordReader S) (founds : List Found) → IsReaders fault → StopsFor left failures fault old new → ComesFrom first old founds
      → GaveBytesTo left first new (GaveAll founds)
  gave_all failures stream.Read first old new founds is stops was = stopped first old new founds stops.1.0 stops.1.1 stops.1.2 was
  gave_all failures stream.TooManyTurns first old new founds is stops was = stopped first old new founds stops.0 stops.1 stops.3 was
  gave_all failures stream.LineTooLong first old new founds is stops was = absurd (is)
  gave_all failures stream.Memory first old new founds is stops was = absurd (is)
  gave_all failures stream.Ended first old new founds is stops was = absurd (is)
  gave_all failures stream.BadVersion first old new founds is stops was = absurd (is)
  gave_all failures stream.BadMark first old new founds is stops was = absurd (is)

-- ---- a reader that has just begun

settles_so : (a b : List ℕ → List Answer) → ((text : List ℕ) → b text ≡ a text) → (founds : List Found) → AreComplete b founds → AreComplete a founds
settles_so a b same founds h = λ text. ((h text).0, sym (same text) ∙ (h text).1)

module _ {S : Type 0} (records : List ℕ → List Answer) (left : S → Option (List ℕ)) where
  -- what it gives is the records of the text
  pub from_start : (P : (List ℕ → List Answer) → Type 0) → ((a b : List ℕ → List Answer) → ((text : List ℕ) → b text ≡ a text) → P a → P b) → (first now : RecordReader S) (before behind : Option (List ℕ))
      → in_hand first ≡ [] → ((text : List ℕ) → answers_to_come_with first text ≡ records text) → left (source_of first) ≡ before → left (source_of now) ≡ behind
      → GaveBytesTo left first now P → GaveBytes before behind (λ bytes. P (λ text. records (bytes ++ text)))
  from_start P moves first now before behind empty reads starts ends gave = (
    gave.0,
    subst (λ o. Consumes before o gave.0) ends (subst (λ o. Consumes o (left (source_of now)) gave.0) starts gave.1),
    moves (λ text. answers_to_come_with first (in_hand first ++ (gave.0 ++ text))) (λ text. records (gave.0 ++ text))
        (λ text. sym (ap (λ t. answers_to_come_with first (t ++ (gave.0 ++ text))) empty ∙ reads (gave.0 ++ text))) gave.2,
  )

pub taken_so : (rows : List TypeRow) (start : LoadedCopy) (a b : List ℕ → List Answer) → ((text : List ℕ) → b text ≡ a text) → CompleteRecordsLoad rows start a → CompleteRecordsLoad rows start b
taken_so rows start a b same h = λ founds settles. h founds (settles_so a b same founds settles)

pub accepted_so : (rows : List TypeRow) (d : Dir) (a b : List ℕ → List Answer) → ((text : List ℕ) → b text ≡ a text) → CompleteRecordsAreAccepted rows d a → CompleteRecordsAreAccepted rows d b
accepted_so rows d a b same h = λ founds settles. h founds (settles_so a b same founds settles)
