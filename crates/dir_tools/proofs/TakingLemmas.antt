-- The records of a text, taken one after the other: what was given and taken so far, and why it ended.
use Rattle.std.proofs.Common.{◌≡◌, ℕ, Bool, true, List, [], ◌∷◌, ◌++◌, Option, None, Some, Result, Ok, Err, IfSome, refl, sym, ap, subst, ◌∙◌, append_assoc, append-nil}
use Rattle.std.proofs.lemmas.List.{map-append}
use Rattle.dir_names.specs.declared.schema.TypeRow.{TypeRow}
use Rattle.dir_ldif.specs.Device.{HasFailed}
use Rattle.dir_ldif.specs.declared.faults.StreamFault.{StreamFault}
use Rattle.dir_ldif.specs.declared.faults.StreamFault.TheVariants as stream
use Rattle.dir_ldif.specs.declared.reader.RecordReader.{RecordReader}
use Rattle.dir_ldif.specs.Reader.Answers.{GivesFirst, GivesNone, KeepsMarks}
use Rattle.dir_ldif.specs.Reader.{IsEnded, SpendsTurns, StopsFor, answers_to_come, source_of}
use Rattle.dir_ldif.specs.Records.{Answer, Found, all_found}
use Rattle.dir_ldif.specs.SoundRecords.{IsSoundFound}
use Rattle.dir_tools.specs.declared.fault.ToolFault.{ToolFault}
use Rattle.dir_tools.specs.Inside.Taking.{BreaksAfter, TakesAll, TakesComplete}
use Rattle.dir_tools.specs.CompleteRecords.{GaveBytesTo}
use Rattle.dir_tools.proofs.CompleteRecords.{ComesFrom, GaveAll, IsReaders, found_one, gave_all}
use Rattle.dir_tools.proofs.ReadCalls.{spends_all}

-- ---- the answers that were given

-- the first answers were these records, and these are still to come
abbrev pub HasGiven : List Found → Option (List Answer) → Option (List Answer) → Type 0
HasGiven founds None now = Unit {0}
HasGiven founds (Some answers) None = ⊥
HasGiven founds (Some answers) (Some rest) = answers ≡ all_found founds ++ rest

pub given_none : (answers : Option (List Answer)) → HasGiven [] answers answers
given_none None = tt
given_none (Some answers) = refl

pub found_then : (founds : List Found) (found : Found) (rest : List Answer) → all_found (founds ++ found ∷ []) ++ rest ≡ all_found founds ++ Ok found ∷ rest
found_then founds found rest = ap (λ t. t ++ rest) (map-append found_one founds (found ∷ [])) ∙ append_assoc (all_found founds) (Ok found ∷ []) rest

pub given_more : (founds : List Found) (found : Found) (first old new : Option (List Answer)) → GivesFirst (Ok found) old new → HasGiven founds first old → HasGiven (founds ++ found ∷ []) first new
given_more founds found None old new gives was = tt
given_more founds found (Some answers) None new gives was = absurd (was)
given_more founds found (Some answers) (Some now) None gives was = absurd (gives)
given_more founds found (Some answers) (Some now) (Some rest) gives was = was ∙ ap (λ t. all_found founds ++ t) gives ∙ sym (found_then founds found rest)

pub given_last : (founds : List Found) (found : Found) (first old new : Option (List Answer)) → GivesFirst (Ok found) old new → HasGiven founds first old
    → IfSome first (λ known. (rest : List Answer) × (known ≡ all_found founds ++ Ok found ∷ rest))
given_last founds found None old new gives was = tt
given_last founds found (Some answers) None new gives was = absurd (was)
given_last founds found (Some answers) (Some now) None gives was = absurd (gives)
given_last founds found (Some answers) (Some now) (Some rest) gives was = (rest, was ∙ ap (λ t. all_found founds ++ t) gives)

pub given_all : (founds : List Found) (first old : Option (List Answer)) → GivesNone old → HasGiven founds first old → IfSome first (λ known. known ≡ all_found founds)
given_all founds None old none was = tt
given_all founds (Some answers) None none was = absurd (was)
given_all founds (Some answers) (Some rest) none was = was ∙ ap (λ t. all_found founds ++ t) none ∙ append-nil (all_found founds)

given_fault : (founds : List Found) (fault : StreamFault) (first old : Option (List Answer)) → IfSome old (λ known. known ≡ Err fault ∷ []) → HasGiven founds first old
    → IfSome first (λ known. known ≡ all_found founds ++ Err fault ∷ [])
given_fault founds fault None old ends was = tt
given_fault founds fault (Some answers) None ends was = absurd (was)
given_fault founds fault (Some answers) (Some rest) ends was = was ∙ ap (λ t. all_found founds ++ t) ends

-- ---- the marks that were passed

pub keeps_refl : (marks : Option ℕ) → KeepsMarks marks marks
keeps_refl None = tt
keeps_refl (Some n) = refl

pub keeps_on : (first old new : Option ℕ) → KeepsMarks first old → KeepsMarks old new → KeepsMarks first new
keeps_on None old new was keeps = tt
keeps_on (Some n) old new was keeps = subst (λ (o : Option ℕ). KeepsMarks o new) was keeps

pub counted_so : (first old : Option ℕ) (passed : ℕ) → KeepsMarks first old → IfSome old (λ n. passed ≡ n) → IfSome first (λ n. passed ≡ n)
counted_so None old passed was counted = tt
counted_so (Some n) old passed was counted = subst (λ (o : Option ℕ). IfSome o (λ m. passed ≡ m)) was counted

-- ---- the records that were taken

module _ {T : Type 0} (rows : List TypeRow) (take_gives : Found → T → Result Bool ToolFault → T → Type 0) where
  pub takes_more : (founds : List Found) (found : Found) (old between new : T) → IsSoundFound rows found → take_gives found between (Ok true) new → TakesAll rows take_gives founds old between
      → TakesAll rows take_gives (founds ++ found ∷ []) old new
  takes_more [] found old between new sound gives was = (new, sound, subst (λ t. take_gives found t (Ok true) new) (sym was) gives, refl)
  takes_more (f ∷ founds) found old between new sound gives was = (was.0, was.1, was.2, takes_more founds found was.0 between new sound gives was.3)

  takes_first : (founds more : List Found) (old new : T) → TakesAll rows take_gives (founds ++ more) old new → (between : T) × TakesAll rows take_gives founds old between
  takes_first [] more old new was = (old, refl)
  takes_first (found ∷ founds) more old new was = let later = takes_first founds more was.0 new was.3 in (later.0, (was.0, was.1, was.2, later.1))

  -- what holds at first and after each record that is taken, holds after all
  pub takes_induct : (P : List Found → T → Type 0) → ((founds : List Found) (found : Found) (old new : T) → IsSoundFound rows found → take_gives found old (Ok true) new → P founds old → P (founds ++ found ∷ []) new)
      → (founds : List Found) (old new : T) → TakesAll rows take_gives founds old new → P [] old → P founds new
  takes_induct P step founds old new was start = by [] founds old was start
    where
      by : (before after : List Found) (now : T) → TakesAll rows take_gives after now new → P before now → P (before ++ after) new
      by before [] now takes holds = subst (λ t. P (before ++ []) t) takes (subst (λ fs. P fs now) (sym (append-nil before)) holds)
      by before (found ∷ after) now takes holds =
          subst (λ fs. P fs new) (append_assoc before (found ∷ []) after) (by (before ++ found ∷ []) after takes.0 takes.3 (step before found now takes.0 takes.1 takes.2 holds))

  -- ---- why a text ended

  module _ {S : Type 0} (left : S → Option (List ℕ)) (failures : S → ℕ) where
    complete : (founds : List Found) (old new : T) (first now : RecordReader S) → TakesAll rows take_gives founds old new → GaveBytesTo left first now (GaveAll left founds)
        → GaveBytesTo left first now (TakesComplete rows take_gives old)
    complete founds old new first now takes gave = (
      gave.0,
      gave.1,
      λ settled settles. let more = gave.2 settled settles in takes_first settled more.0 old new (subst (λ fs. TakesAll rows take_gives fs old new) more.1 takes),
    )

    pub breaks : (founds : List Found) (fault : StreamFault) (old new : T) (first now last : RecordReader S) → (IsEnded now → ⊥) → failures (source_of now) ≡ failures (source_of first)
        → StopsFor left failures fault now last → TakesAll rows take_gives founds old new → HasGiven founds (answers_to_come left first) (answers_to_come left now)
        → SpendsTurns left first now → ComesFrom left first now founds → BreaksAfter rows take_gives left failures founds fault old first last
    breaks founds stream.LineTooLong old new first now last going same stops takes given spends comes = given_fault founds stream.LineTooLong (answers_to_come left first) (answers_to_come left now) stops given
    breaks founds stream.BadVersion old new first now last going same stops takes given spends comes = given_fault founds stream.BadVersion (answers_to_come left first) (answers_to_come left now) stops given
    breaks founds stream.BadMark old new first now last going same stops takes given spends comes = given_fault founds stream.BadMark (answers_to_come left first) (answers_to_come left now) stops given
    breaks founds stream.Read old new first now last going same stops takes given spends comes = (
      subst (λ n. HasFailed n (failures (source_of last))) same stops.0,
      complete founds old new first last takes (gave_all left failures stream.Read first now last founds tt stops comes),
    )
    breaks founds stream.TooManyTurns old new first now last going same stops takes given spends comes = (
      spends_all left failures first now last spends stops,
      complete founds old new first last takes (gave_all left failures stream.TooManyTurns first now last founds tt stops comes),
    )
    breaks founds stream.Memory old new first now last going same stops takes given spends comes = tt
    breaks founds stream.Ended old new first now last going same stops takes given spends comes = absurd (going stops)

    pub gave_complete : (founds : List Found) (fault : StreamFault) (old : T) (first last : RecordReader S) → IsReaders fault → BreaksAfter rows take_gives left failures founds fault old first last
        → GaveBytesTo left first last (TakesComplete rows take_gives old)
    gave_complete founds stream.Read old first last is ends = ends.1
    gave_complete founds stream.TooManyTurns old first last is ends = ends.1
    gave_complete founds stream.LineTooLong old first last is ends = absurd (is)
    gave_complete founds stream.BadVersion old first last is ends = absurd (is)
    gave_complete founds stream.BadMark old first last is ends = absurd (is)
    gave_complete founds stream.Memory old first last is ends = absurd (is)
    gave_complete founds stream.Ended old first last is ends = absurd (is)
