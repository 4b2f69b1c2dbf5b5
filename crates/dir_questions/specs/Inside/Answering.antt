-- The view of an answer. No public contract needs this file.
use Rattle.dir_questions.specs.declared.answering.Answer.{Answer}
use Rattle.dir_questions.specs.Questions.{AskedWord, no_such_entry}
use Rattle.dir_questions.specs.Answers.{Answered}
use Rattle.dir_questions.specs.Reading.{word_in}

abbrev pub answer_in : Answer → Answered
answer_in a = (word_in a.asked.now, a.text.items)

-- a word of an entry that is not there
abbrev pub missing : AskedWord → Answered
missing asked = (asked, no_such_entry)
