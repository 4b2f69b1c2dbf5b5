-- Lemmas on why no block was found.
use Rattle.std.proofs.Common.{◌≡◌, ℕ, ◌+◌, ◌≤◌, List, [], ◌++◌, length, sym, ap, subst, ◌∙◌, append-nil, Option, None, Some, arith}
use Rattle.std.specs.Io.KnownBytes.{Consumes, IsAtEnd}
use Rattle.std.proofs.KnownBytes.{Consumes-trans}
use Rattle.dir_ldif.specs.Remainder.{FailsAtOnce, NoBlock}
use Rattle.dir_ldif.specs.declared.faults.StreamFault.{StreamFault}
use Rattle.dir_ldif.specs.declared.faults.StreamFault.TheVariants.{LineTooLong, Read, Memory, TooManyTurns, BadVersion, BadMark}
use Rattle.dir_ldif.specs.declared.faults.StreamFault.TheVariants.{Ended as AfterFault}
use Rattle.dir_ldif.specs.declared.reader.unfolder.Unfolder.{Unfolder}
use Rattle.dir_ldif.specs.declared.reader.Core.{Core}
use Rattle.dir_ldif.specs.Inside.Reader.{FailsToRead, Stops, MayFail}
use Rattle.dir_ldif.specs.Reader.Unfolding.{to_come}
use Rattle.dir_ldif.specs.Reader.Answers.{to_read, hand}
use Rattle.dir_ldif.proofs.IncompleteBlocks.{may_fail}

-- nothing was read beside
pub Consumes-none : (a b c : Option (List ℕ)) (bytes piece : List ℕ) → Consumes a b bytes → Consumes b c piece → piece ≡ [] → Consumes a c bytes
Consumes-none a b c bytes piece p q none =
    subst (Consumes a c) (ap (λ t. bytes ++ t) none ∙ append-nil bytes) (Consumes-trans a b c bytes piece p q)

-- the text in hand is at fault
pub hand_stops : (fault : StreamFault) (old mid new : Core) (bytes : List ℕ) (left : Option (List ℕ)) (failures failures' : ℕ) → ((text : List ℕ) → to_read old (bytes ++ text) ≡ to_read mid text)
    → ((text : List ℕ) → FailsAtOnce fault (to_read mid text)) → Stops fault old new bytes left failures failures'
hand_stops LineTooLong old mid new bytes None f f' same h = tt
hand_stops LineTooLong old mid new bytes (Some text) f f' same h = same text ∙ h text
hand_stops BadVersion old mid new bytes None f f' same h = tt
hand_stops BadMark old mid new bytes None f f' same h = tt
hand_stops BadVersion old mid new bytes (Some text) f f' same h = same text ∙ h text
hand_stops BadMark old mid new bytes (Some text) f f' same h = same text ∙ h text
hand_stops Memory old mid new bytes left f f' same h = tt
hand_stops Read old mid new bytes left f f' same h = absurd (h [])
hand_stops AfterFault old mid new bytes left f f' same h = absurd (h [])
hand_stops TooManyTurns old mid new bytes left f f' same h = absurd (h [])

-- the text ended, and its last line is at fault
pub end_stops : (fault : StreamFault) (old mid new : Core) (bytes : List ℕ) (left : Option (List ℕ)) (failures failures' : ℕ) → ((text : List ℕ) → to_read old (bytes ++ text) ≡ to_read mid text)
    → IsAtEnd left → FailsAtOnce fault (to_read mid []) → Stops fault old new bytes left failures failures'
end_stops LineTooLong old mid new bytes None f f' same end h = tt
end_stops LineTooLong old mid new bytes (Some text) f f' same end h = rw end (same [] ∙ h)
end_stops BadVersion old mid new bytes None f f' same end h = tt
end_stops BadMark old mid new bytes None f f' same end h = tt
end_stops BadVersion old mid new bytes (Some text) f f' same end h = rw end (same [] ∙ h)
end_stops BadMark old mid new bytes (Some text) f f' same end h = rw end (same [] ∙ h)
end_stops Memory old mid new bytes left f f' same end h = tt
end_stops Read old mid new bytes left f f' same end h = absurd h
end_stops AfterFault old mid new bytes left f f' same end h = absurd h
end_stops TooManyTurns old mid new bytes left f f' same end h = absurd h

may_fail_still : (old : Core) (j : Unfolder) (bytes : List ℕ) → ((text : List ℕ) → to_read old (bytes ++ text) ≡ to_come j text) → MayFail (λ text. to_read old (bytes ++ text))
may_fail_still old j bytes same none = may_fail j (λ text h. none text (subst NoBlock (sym (same text)) h))

-- no further bytes came
pub read_stops : (fault : StreamFault) (old new : Core) (bytes : List ℕ) (left : Option (List ℕ)) (turns failures failures' : ℕ) → ((text : List ℕ) → to_read old (bytes ++ text) ≡ to_come new.unfolder text)
    → hand new ≡ [] → old.turns ≤ turns + length bytes → FailsToRead fault turns failures failures' → Stops fault old new bytes left failures failures'
read_stops LineTooLong old new bytes left turns f f' same empty fits h = absurd h
read_stops BadVersion old new bytes left turns f f' same empty fits h = absurd h
read_stops BadMark old new bytes left turns f f' same empty fits h = absurd h
read_stops Memory old new bytes left turns f f' same empty fits h = absurd h
read_stops AfterFault old new bytes left turns f f' same empty fits h = absurd h
read_stops Read old new bytes left turns f f' same empty fits h =
    (h, λ text. same text ∙ ap (λ t. to_come new.unfolder (t ++ text)) (sym empty), may_fail_still old new.unfolder bytes same)
read_stops TooManyTurns old new bytes left turns f f' same empty fits h =
    (omega (arith, h.0), λ text. same text ∙ ap (λ t. to_come new.unfolder (t ++ text)) (sym empty), may_fail_still old new.unfolder bytes same)
