-- The read calls that a reader spends.
use Rattle.std.proofs.Common.{◌≡◌, ℕ, List, [], ◌++◌, length, length-append, Option, None, Some, Result, Ok, Err, IfSome, refl, ap, ◌∙◌, arith}
use Rattle.std.proofs.KnownBytes.{Consumes-nil, Consumes-trans}
use Rattle.dir_ldif.specs.declared.faults.StreamFault.TheVariants as stream
use Rattle.dir_ldif.specs.declared.reader.Place.{Place}
use Rattle.dir_ldif.specs.declared.reader.Place.TheVariants as place
use Rattle.dir_ldif.specs.declared.reader.RecordReader.{RecordReader}
use Rattle.dir_ldif.specs.Limits.{most_read_calls}
use Rattle.dir_ldif.specs.Reader.{IsAtEnd, IsEnded, IsReading, SpendsTurns, StopsFor, source_of, turns_left}
use Rattle.dir_tools.specs.ReadCalls.{FillsReadCalls, GaveAtLeast}

module _ {S : Type 0} where
  pub reads_on : (r : RecordReader S) → (IsEnded r → ⊥) → (IsAtEnd r → ⊥) → IsReading r
  reads_on r ended at_end = by r.core.place refl
    where
      by : (p : Place) → r.core.place ≡ p → r.core.place ≡ place.Reading
      by place.Reading is = is
      by place.AtEnd is = absurd (at_end is)
      by place.Ended is = absurd (ended is)

  pub spends_none : (left : S → Option (List ℕ)) (r : RecordReader S) → SpendsTurns left r r
  spends_none left r = ([], Consumes-nil (left r.source), omega arith)

  pub spends_more : (left : S → Option (List ℕ)) (a b c : RecordReader S) → SpendsTurns left a b → SpendsTurns left b c → SpendsTurns left a c
  spends_more left a b c first later =
      let long = length-append first.0 later.0 in
      (first.0 ++ later.0, Consumes-trans (left a.source) (left b.source) (left c.source) first.0 later.0 first.1 later.1, omega (arith, long, first.2, later.2))

  -- a reader without read calls left had as many bytes
  pub spends_all : (left : S → Option (List ℕ)) (failures : S → ℕ) (a b c : RecordReader S) → SpendsTurns left a b → StopsFor left failures stream.TooManyTurns b c
      → GaveAtLeast (left (source_of a)) (left (source_of c)) (turns_left a)
  spends_all left failures a b c first stops =
      let long = length-append first.0 stops.0 in
      (first.0 ++ stops.0, Consumes-trans (left a.source) (left b.source) (left c.source) first.0 stops.0 first.1 stops.1, omega (arith, long, first.2, stops.2))

-- a reader that gives a record or a fault is not at its end
pub some_none : {A E : Type 0} (r : Result (Option A) E) (o : Option A) (x : A) → r ≡ Ok o → o ≡ Some x → r ≡ Ok None → ⊥
some_none r o x some is none = cc

pub fault_none : {A E : Type 0} (r : Result (Option A) E) (e : E) → r ≡ Err e → r ≡ Ok None → ⊥
fault_none r e fails none = cc

pub long_text : (left left' : Option (List ℕ)) (turns : ℕ) → turns ≡ most_read_calls → GaveAtLeast left left' turns → IfSome left FillsReadCalls
long_text None left' turns all gave = tt
long_text (Some text) None turns all gave = absurd (gave.1)
long_text (Some text) (Some rest) turns all gave =
    let long = ap length gave.1 ∙ length-append gave.0 rest in omega (arith, long, all, gave.2)
