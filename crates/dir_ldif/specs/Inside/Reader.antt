-- What the private calls of a reader do to the blocks to come.
use Rattle.std.specs.Prelude.{◌≡◌, ℕ, ◌≤◌, List, ◌++◌, length, Option, IfSome}
use Rattle.std.specs.Io.KnownBytes.{Consumes}
use Rattle.dir_ldif.specs.declared.faults.StreamFault.{StreamFault}
use Rattle.dir_ldif.specs.declared.faults.StreamFault.TheVariants.{LineTooLong, Read, Memory, TooManyTurns, BadVersion, BadMark}
use Rattle.dir_ldif.specs.declared.faults.StreamFault.TheVariants.{Ended as AfterFault}
use Rattle.dir_ldif.specs.declared.reader.Core.{Core}
use Rattle.dir_ldif.specs.declared.reader.Place.{Place}
use Rattle.dir_ldif.specs.declared.reader.Place.TheVariants.{Reading, AtEnd, Ended}
use Rattle.dir_ldif.specs.Remainder.{FailsAtOnce, NoBlock, Remainder, done, fails, then_rest}
use Rattle.dir_ldif.specs.Device.{HasFailed}
use Rattle.dir_ldif.specs.LogicalLines.{Line}
use Rattle.dir_ldif.specs.Reader.Answers.{to_read, hand}
use Rattle.dir_ldif.specs.Reader.Unfolding.{to_come}

-- a block was found. Where the reader goes on, it is the first of those to come, whatever text follows; else no other block is to come of what
-- the source has left, and so many marks were passed
abbrev pub Finds : Place → (List ℕ → Remainder) → List Line → (List ℕ → Remainder) → ℕ → List ℕ → Option (List ℕ) → Type 0
Finds Reading old block new marks bytes left = (text : List ℕ) → old (bytes ++ text) ≡ then_rest block (new text)
Finds AtEnd old block new marks bytes left = IfSome left (λ text. old (bytes ++ text) ≡ then_rest block (done marks))
Finds Ended old block new marks bytes left = ⊥

-- a block was taken: of the bytes in hand and those that were read in the call a prefix was used up, and whatever text
-- follows that prefix, the block is the first of those to come
abbrev pub Uses : Core → Core → List Line → Option (List ℕ) → Option (List ℕ) → Type 0
Uses old new block left left' =
    (bytes : List ℕ) × (used : List ℕ) × Consumes left left' bytes × (hand old ++ bytes ≡ used ++ hand new)
    × ((text : List ℕ) → to_come old.unfolder (used ++ text) ≡ then_rest block (to_come new.unfolder text))

-- ---- a line that is too long

-- the bytes in hand and those that were read after them are a text in which no line is too long yet (if it ended there,
-- it would not end in that fault), and at most 8,192 bytes more
abbrev pub IsSoon : Core → List ℕ → Type 0
IsSoon c bytes =
    (text : List ℕ) × (excess : List ℕ) × (hand c ++ bytes ≡ text ++ excess) × (length excess ≤ 8192) × (to_come c.unfolder text ≡ fails LineTooLong → ⊥)

-- a line that is too long is found soon
abbrev pub StopsSoon : StreamFault → Core → Option (List ℕ) → Option (List ℕ) → Type 0
StopsSoon LineTooLong old left left' = (bytes : List ℕ) × Consumes left left' bytes × IsSoon old bytes
StopsSoon Read old left left' = Unit {0}
StopsSoon Memory old left left' = Unit {0}
StopsSoon AfterFault old left left' = Unit {0}
StopsSoon TooManyTurns old left left' = Unit {0}
StopsSoon BadVersion old left left' = Unit {0}
StopsSoon BadMark old left left' = Unit {0}

-- ---- faults

-- why a read call brought no bytes: the source failed, or no read call was left
abbrev pub FailsToRead : StreamFault → ℕ → ℕ → ℕ → Type 0
FailsToRead Read turns old new = HasFailed old new
FailsToRead TooManyTurns turns old new = (turns ≡ 0) × (new ≡ old)
FailsToRead LineTooLong turns old new = ⊥
FailsToRead Memory turns old new = ⊥
FailsToRead AfterFault turns old new = ⊥
FailsToRead BadVersion turns old new = ⊥
FailsToRead BadMark turns old new = ⊥

-- some text would bring no block
abbrev pub MayFail : (List ℕ → Remainder) → Type 0
MayFail left = ((text : List ℕ) → NoBlock (left text) → ⊥) → ⊥

-- why no block was found, where these bytes were read and this is left: the text is at fault; or the source failed, or
-- gave as many bytes as read calls were left, and some text would bring no block, so none was
-- complete. The blocks to come are still to come
abbrev pub Stops : StreamFault → Core → Core → List ℕ → Option (List ℕ) → ℕ → ℕ → Type 0
Stops LineTooLong old new bytes left failures failures' = IfSome left (λ text. FailsAtOnce LineTooLong (to_read old (bytes ++ text)))
Stops BadVersion old new bytes left failures failures' = IfSome left (λ text. FailsAtOnce BadVersion (to_read old (bytes ++ text)))
Stops BadMark old new bytes left failures failures' = IfSome left (λ text. FailsAtOnce BadMark (to_read old (bytes ++ text)))
Stops Read old new bytes left failures failures' =
    HasFailed failures failures' × ((text : List ℕ) → to_read old (bytes ++ text) ≡ to_read new text) × MayFail (λ text. to_read old (bytes ++ text))
Stops TooManyTurns old new bytes left failures failures' =
    (old.turns ≤ length bytes) × ((text : List ℕ) → to_read old (bytes ++ text) ≡ to_read new text) × MayFail (λ text. to_read old (bytes ++ text))
Stops Memory old new bytes left failures failures' = Unit {0}
Stops AfterFault old new bytes left failures failures' = ⊥
