-- The blocks of a text that is read whole, and of one that ends in a fault.
use Rattle.std.proofs.Common.{◌≡◌, ℕ, ◌≤◌, List, [], ◌∷◌, ◌++◌, length, Ok, Err, refl, ap, ◌∙◌, arith}
use Rattle.dir_names.specs.Results.{and_then}
use Rattle.dir_ldif.specs.declared.faults.StreamFault.{StreamFault}
use Rattle.dir_ldif.specs.declared.faults.StreamFault.TheVariants as stream
use Rattle.dir_ldif.specs.Blocks.{BlocksEndIn, all_blocks, blocks_of}
use Rattle.dir_ldif.specs.LogicalLines.{Line}
use Rattle.dir_conf.specs.declared.fault.ConfFault.TheVariants as fault
use Rattle.dir_conf.specs.CnConfig.{entries_of, entry_of, whole_text}
use Rattle.dir_conf.specs.CnConfig.Records.{gather}
use Rattle.dir_conf.specs.Inside.{ended}
use Rattle.dir_conf.specs.Outcome.{IsConfFaultOf}

all_read : (blocks : List (List Line)) → whole_text (all_blocks blocks) ≡ Ok blocks
all_read [] = refl
all_read (block ∷ more) = ap (λ r. and_then r (λ rest. Ok (block ∷ rest))) (all_read more)

pub entries_read : (text : List ℕ) (blocks : List (List Line)) → blocks_of text ≡ all_blocks blocks → entries_of text ≡ gather entry_of blocks
entries_read text blocks e = ap (λ found. and_then (whole_text found) (gather entry_of)) e ∙ ap (λ r. and_then r (gather entry_of)) (all_read blocks)

stopped : (blocks : List (List Line)) (why : StreamFault) → whole_text (all_blocks blocks ++ Err why ∷ []) ≡ Err (fault.Ended why)
stopped [] why = refl
stopped (block ∷ more) why = ap (λ r. and_then r (λ rest. Ok (block ∷ rest))) (stopped more why)

ends_in : (text : List ℕ) (blocks : List (List Line)) (why : StreamFault) → blocks_of text ≡ all_blocks blocks ++ Err why ∷ [] → entries_of text ≡ Err (fault.Ended why)
ends_in text blocks why e = ap (λ found. and_then (whole_text found) (gather entry_of)) e ∙ ap (λ r. and_then r (gather entry_of)) (stopped blocks why)

pub entries_end : (text : List ℕ) → length text ≤ 16777216 → (why : StreamFault) → BlocksEndIn why text → IsConfFaultOf (ended why) (entries_of text)
entries_end text short stream.LineTooLong (blocks, e) = ends_in text blocks stream.LineTooLong e
entries_end text short stream.BadVersion e = ends_in text [] stream.BadVersion e
entries_end text short stream.TooManyTurns long = absurd (omega (arith, short, long))
entries_end text short stream.Memory e = tt
entries_end text short stream.BadMark e = absurd e
entries_end text short stream.Read e = absurd e
entries_end text short stream.Ended e = absurd e
