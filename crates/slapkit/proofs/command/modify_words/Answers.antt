use Rattle.std.proofs.Common.{ℕ, List, Option, None, Some, Result, Ok, Err}
use Rattle.std.specs.Str.Parse.{ParsesUnsigned}
use Rattle.std.specs.contracts.prelude.U64FromStr.TheImpl.{ghosts}
use Rattle.clap.specs.Matches.{ReadsOne}
use Rattle.slapkit.specs.Words.{IsWritten}
use Rattle.slapkit.proofs.command.modify_words.Goals as goal

-- the number that is read of a text is the one that it writes
number_read : {E : Type 0} (Gives : List ℕ → Result ℕ E → Type 0) (text : List ℕ) (r : Option ℕ) → ReadsOne Gives text r → ((x : Result ℕ E) → Gives text x → ParsesUnsigned 64 10 text x) → IsWritten text r
number_read Gives text (Some n) reads parses = parses (Ok n) reads
number_read Gives text None reads parses = parses (Err reads.0) reads.1

pub returns-clause-last : goal.returns-clause-last
returns-clause-last c = record { missing = c.get_one.ensures.none; written = λ text is. number_read (ghosts.from_str_gives) text c.get_one.result (c.get_one.ensures.value text is) (λ x gives. gives.0) }
