-- What the values that are read of a file of questions say.
use Rattle.std.specs.Prelude.{◌≡◌, ⊤, map, option_map, Result, Err}
use Rattle.dir_names.specs.Results.{Meets}
use Rattle.dir_tools.specs.declared.fault.ToolFault.TheVariants.{Memory}
use Rattle.dir_tools.specs.Inside.Asking as asking
use Rattle.dir_questions.specs.declared.fault.QuestionsFault.{QuestionsFault}
use Rattle.dir_questions.specs.declared.fault.QuestionsFault.TheVariants as fault
use Rattle.dir_questions.specs.declared.reading.AskedWord as word
use Rattle.dir_questions.specs.declared.reading.Block as block
use Rattle.dir_questions.specs.declared.reading.GivenName as given
use Rattle.dir_questions.specs.Questions.{AskedWord, GivenName, QuestionBlock}

abbrev pub given_in : given.GivenName → GivenName
given_in g = record { text = g.text.items; name = (g.name, g.key) }

abbrev pub word_in : word.AskedWord → AskedWord
word_in w = record { line = w.line; text = w.text.now; word = asking.word_in w.word; expected = w.expected.items }

abbrev pub block_in : block.Block → QuestionBlock
block_in b = record { requester = option_map given_in b.requester; fake = b.fake; base = given_in b.base; words = map word_in b.words.items }

-- a fault of the text is the one that is wanted; that memory ran out says nothing
abbrev pub IsAskedFault : {A : Type 0} → QuestionsFault → Result A QuestionsFault → Type 0
IsAskedFault (fault.Tool Memory) wanted = ⊤
IsAskedFault (fault.Block line why) wanted = wanted ≡ Err (fault.Block line why)
IsAskedFault fault wanted = ⊥

abbrev pub GivesAsked : {A T : Type 0} → (T → A) → Result T QuestionsFault → Result A QuestionsFault → Type 0
GivesAsked view result wanted = Meets IsAskedFault view result wanted
