-- A file of questions about access (slapacl(8)), and what its blocks ask. `question_blocks`, at the end of this page, is the whole. The lines are those of
-- LDIF (RFC 2849): comments, continuations and base64 as there, blocks between empty lines.
use Rattle.std.specs.Prelude.{ℕ, Bool, true, false, cond, ◌||◌, nat_lt, List, [], ◌∷◌, length, codes, Option, Some, None, option_map, is_some, ok_or, Result, Ok, Err}
use Rattle.std.specs.Str.{bytes_eq}
use Rattle.dir_names.specs.declared.schema.TypeRow.{TypeRow}
use Rattle.dir_names.specs.Results.{and_then}
use Rattle.dir_ldif.specs.declared.faults.RecordFault.{RecordFault}
use Rattle.dir_ldif.specs.AttrVal.{attrval_of}
use Rattle.dir_ldif.specs.Blocks.{BlockResult, blocks_of}
use Rattle.dir_ldif.specs.LogicalLines.{Line}
use Rattle.dir_ldif.specs.RecordGrammar.{is_keyword}
use Rattle.dir_acl.specs.Config.Permissions.{set_with_text}
use Rattle.dir_tools.specs.AccessReport.{NamedKey, Word, named_key, verdict, word_of}
use Rattle.dir_questions.specs.declared.fault.QuestionCause.{QuestionCause}
use Rattle.dir_questions.specs.declared.fault.QuestionCause.TheVariants.{Line as BadLine, BadBlock, BadName, BadWord, BadAnswer}
use Rattle.dir_questions.specs.declared.fault.QuestionsFault.{QuestionsFault}
use Rattle.dir_questions.specs.declared.fault.QuestionsFault.TheVariants as fault

-- the values of a call on each element, or the first fault
abbrev pub collect : {A B E : Type 0} → (A → Result B E) → List A → Result (List B) E
collect f [] = Ok []
collect f (x ∷ xs) = and_then (f x) (λ y. and_then (collect f xs) (λ ys. Ok (y ∷ ys)))

-- ---- what a block asks

-- a legal name, as it is written in the file, and what it spells
pub record GivenName : Type 0 where
  pub text : List ℕ
  pub name : NamedKey

-- a word: its line, as it is written and as it is read, and the answer that is expected
pub record AskedWord : Type 0 where
  pub line : ℕ
  pub text : List ℕ
  pub word : Word
  pub expected : List ℕ

-- who asks, if somebody does; whether the entry is made up; its name; and the words
pub record QuestionBlock : Type 0 where
  pub requester : Option GivenName
  pub fake : Bool
  pub base : GivenName
  pub words : List AskedWord

-- ---- lines

abbrev pub at_line : {A : Type 0} → ℕ → Result A QuestionCause → Result A QuestionsFault
at_line n (Ok x) = Ok x
at_line n (Err why) = Err (fault.Block n why)

abbrev pub as_cause : {A : Type 0} → Result A RecordFault → Result A QuestionCause
as_cause (Ok x) = Ok x
as_cause (Err why) = Err (BadLine why)

-- the name and the value of a line
abbrev pub line_parts : Line → Result (List ℕ × List ℕ) QuestionsFault
line_parts line = at_line line.0 (as_cause (attrval_of line.1))

-- a value, with the number of its line
abbrev pub Numbered : Type 0
Numbered = ℕ × List ℕ

-- the value of the first of these lines, if it has this name, in any ASCII case; and the lines that are left
abbrev pub optional_line : List ℕ → List Line → Result (Option Numbered × List Line) QuestionsFault
optional_line name [] = Ok (None, [])
optional_line name (line ∷ lines) =
    and_then (line_parts line) (λ parts. cond (is_keyword parts.0 name) (Ok (Some (line.0, parts.1), lines)) (Ok (None, line ∷ lines)))

-- ---- `authcDN`, `fake` and `dn`

abbrev pub given_name : List TypeRow → Numbered → Result GivenName QuestionsFault
given_name rows value =
    at_line value.0 (ok_or (option_map (λ (name : NamedKey). record { text = value.1; name = name }) (named_key rows value.1)) BadName)

-- no name, or the word `anonymous`
abbrev pub is_nobody : List ℕ → Bool
is_nobody [] = true
is_nobody (b ∷ bs) = is_keyword (b ∷ bs) (codes "anonymous")

abbrev pub requester_in : List TypeRow → Option Numbered → Result (Option GivenName) QuestionsFault
requester_in rows None = Ok None
requester_in rows (Some value) = cond (is_nobody value.1) (Ok None) (and_then (given_name rows value) (λ given. Ok (Some given)))

-- `fake: true`
abbrev pub fake_in : Option Numbered → Result Bool QuestionsFault
fake_in None = Ok false
fake_in (Some value) = cond (is_keyword value.1 (codes "true")) (Ok true) (Err (fault.Block value.0 BadBlock))

-- the line that stands where another must stand; where there is none, the first of the block
abbrev pub line_of_first : ℕ → List Line → ℕ
line_of_first begin [] = begin
line_of_first begin (line ∷ lines) = line.0

abbrev pub base_in : List TypeRow → ℕ → Option Numbered × List Line → Result GivenName QuestionsFault
base_in rows begin (None, lines) = Err (fault.Block (line_of_first begin lines) BadBlock)
base_in rows begin (Some value, lines) = given_name rows value

-- ---- words and their answers

-- the answer where the copy has no such entry
abbrev pub no_such_entry : List ℕ
no_such_entry = codes "no such entry"

-- the answers to a word with a level: `ALLOWED` or `DENIED`; and to one without: the text of a set of privileges
abbrev pub is_answer : Bool → List ℕ → Bool
is_answer true text = bytes_eq text (verdict true) || bytes_eq text (verdict false)
is_answer false text = is_some (set_with_text text)

-- what may be expected of a word: nothing, that there is no such entry, or an answer that it can have
abbrev pub may_be_expected : Word → List ℕ → Bool
may_be_expected word [] = true
may_be_expected word (b ∷ bs) = bytes_eq (b ∷ bs) no_such_entry || is_answer (is_some word.access) (b ∷ bs)

-- the names of other lines are no words
abbrev pub is_reserved : List ℕ → Bool
is_reserved name = is_keyword name (codes "authcDN") || is_keyword name (codes "fake") || is_keyword name (codes "dn")

abbrev pub asked_word : List TypeRow → ℕ → List ℕ × List ℕ → Result AskedWord QuestionCause
asked_word rows line parts =
    cond (is_reserved parts.0) (Err BadBlock)
    (and_then (ok_or (word_of rows parts.0) BadWord) (λ word.
    cond (may_be_expected word parts.1) (Ok (record { line = line; text = parts.0; word = word; expected = parts.1 })) (Err BadAnswer)))

abbrev pub word_line : List TypeRow → Line → Result AskedWord QuestionsFault
word_line rows line = and_then (line_parts line) (λ parts. at_line line.0 (asked_word rows line.0 parts))

-- a block asks of one word at least
abbrev pub words_in : List TypeRow → ℕ → List Line → Result (List AskedWord) QuestionsFault
words_in rows begin [] = Err (fault.Block begin BadBlock)
words_in rows begin (line ∷ lines) = collect (word_line rows) (line ∷ lines)

-- ---- blocks

-- `authcDN`, if somebody asks; `fake`, if the entry is made up; `dn`; and one word or more, in this order. The first line that has a fault decides; one that is
-- missing is noticed where another stands in its place, or at the end of the block, which is told by its first line
abbrev pub block_of : List TypeRow → ℕ → List Line → Result QuestionBlock QuestionsFault
block_of rows begin lines =
    and_then (optional_line (codes "authcDN") lines) (λ who.
    and_then (requester_in rows who.0) (λ requester.
    and_then (optional_line (codes "fake") who.1) (λ made_up.
    and_then (fake_in made_up.0) (λ fake.
    and_then (optional_line (codes "dn") made_up.1) (λ target.
    and_then (base_in rows begin target) (λ base.
    and_then (words_in rows begin target.1) (λ words.
    Ok (record { requester = requester; fake = fake; base = base; words = words }))))))))

abbrev pub read_block : List TypeRow → List Line → Result QuestionBlock QuestionsFault
read_block rows lines = block_of rows (line_of_first 0 lines) lines

abbrev pub read_lines : List TypeRow → List (List Line) → Result (List QuestionBlock) QuestionsFault
read_lines rows blocks = collect (read_block rows) blocks

-- the blocks of a text, if it ends in no fault: one of which a part can't be read is no file of questions
abbrev pub whole_text : List BlockResult → Result (List (List Line)) QuestionsFault
whole_text [] = Ok []
whole_text (Err why ∷ blocks) = Err (fault.Stream why)
whole_text (Ok lines ∷ blocks) = and_then (whole_text blocks) (λ rest. Ok (lines ∷ rest))

-- what the blocks of a text of at most 16,777,216 bytes ask, or its first fault
abbrev pub question_blocks : List TypeRow → List ℕ → Result (List QuestionBlock) QuestionsFault
question_blocks rows text = cond (nat_lt 16777216 (length text)) (Err fault.TooLong) (and_then (whole_text (blocks_of text)) (read_lines rows))
