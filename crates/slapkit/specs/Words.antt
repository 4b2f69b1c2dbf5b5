-- What a command line asks for.
use Rattle.std.specs.Prelude.{◌≡◌, ◌<◌, ◌^◌, ℕ, Bool, true, false, List, [], codes, map, Option, None, Some, option_map}
use Rattle.std.specs.Option.{option_copied}
use Rattle.std.specs.Str.Parse.{IsNumeral, digits_value, without_leading_plus}
use Rattle.clap.specs.Matches.{first_value, matched_of, one_text, raw_values}
use Rattle.clap.specs.declared.parser.matches.Found.{Found}
use Rattle.dir_files.specs.declared.words.AccessWords.{AccessWords}
use Rattle.dir_files.specs.declared.words.ConfSource.{ConfSource}
use Rattle.dir_files.specs.declared.words.ConfSource.TheVariants.{SlapdConf, CnConfig}
use Rattle.dir_files.specs.declared.words.ConfWords.{ConfWords}
use Rattle.dir_files.specs.declared.words.ModifyWords.{ModifyWords}
use Rattle.dir_files.specs.declared.words.QuestionWords.{QuestionWords}

-- ---- the configuration of `slapconf`

-- where a configuration is, and in which form
pub data Source : Type 0 where
  slapd_conf : List ℕ → Source
  cn_config : List ℕ → Source

abbrev pub source_in : ConfSource → Source
source_in (SlapdConf path) = slapd_conf path.now
source_in (CnConfig path) = cn_config path.now

-- ---- the words of `slapmodify`

abbrev pub text_or_empty : Option (List ℕ) → List ℕ
text_or_empty None = []
text_or_empty (Some text) = text

-- a flag is set where its value is `true`, and not where it is `false` or missing
pub record IsFlag (found : Found) (id : List ℕ) (flag : Bool) : Type 0 where
  pub missing : one_text found id ≡ None → flag ≡ false
  pub set : one_text found id ≡ Some (codes "true") → flag ≡ true
  pub unset : one_text found id ≡ Some (codes "false") → flag ≡ false

-- decimal digits, with or without a `+` before them, that write a number of 64 bits
abbrev pub WritesNumber : List ℕ → Type 0
WritesNumber text = IsNumeral 10 (without_leading_plus text) × (digits_value 10 (without_leading_plus text) < 2 ^ 64)

-- the number that a text writes, if it does
abbrev pub IsWritten : List ℕ → Option ℕ → Type 0
IsWritten text (Some n) = WritesNumber text × (n ≡ digits_value 10 (without_leading_plus text))
IsWritten text None = WritesNumber text → ⊥

-- a number is the one that its text writes, and there is none where there is no text
pub record IsNumber (found : Found) (id : List ℕ) (number : Option ℕ) : Type 0 where
  pub missing : one_text found id ≡ None → number ≡ None
  pub written : (text : List ℕ) → one_text found id ≡ Some text → IsWritten text number

-- each word is the value of its own argument
pub record AreWordsOf (found : Found) (words : ModifyWords) : Type 0 where
  pub suffix : words.suffix.now ≡ text_or_empty (first_value found (codes "suffix"))
  pub copy : words.data.now ≡ text_or_empty (first_value found (codes "data"))
  pub out : option_copied words.out ≡ first_value found (codes "out")
  pub undo : option_copied words.undo ≡ first_value found (codes "undo")
  pub changes : option_copied words.changes ≡ first_value found (codes "changes")
  pub config : option_copied words.config ≡ first_value found (codes "config")
  pub go_on : IsFlag found (codes "go_on") words.options.go_on
  pub dry : IsFlag found (codes "dry") words.options.dry
  pub verbose : IsFlag found (codes "verbose") words.options.verbose

-- ---- the words of `slapacl`

abbrev pub words_or_none : Option (List (List ℕ)) → List (List ℕ)
words_or_none None = []
words_or_none (Some words) = words

-- each word is the value of its own argument
pub record AreAccessWordsOf (found : Found) (words : AccessWords) : Type 0 where
  pub base : words.base.now ≡ text_or_empty (first_value found (codes "base"))
  pub config : words.config.now ≡ text_or_empty (first_value found (codes "config"))
  pub copy : words.data.now ≡ text_or_empty (first_value found (codes "data"))
  pub authc : option_copied words.authc ≡ first_value found (codes "authc")
  pub asked : map (λ word. word.now) words.words.items ≡ words_or_none (option_map raw_values (matched_of found (codes "words")))
  pub fake : IsFlag found (codes "fake") words.fake
  pub verbose : IsFlag found (codes "verbose") words.verbose
  pub strict : IsFlag found (codes "strict") words.strict

-- ---- the words of `slapconf`

-- a slapd.conf where `-f` names one, and else the LDIF of cn=config that `--config` names
abbrev pub source_of : Option (List ℕ) → Option (List ℕ) → Source
source_of (Some path) ldif = slapd_conf path
source_of None ldif = cn_config (text_or_empty ldif)

-- each word is the value of its own argument
pub record AreConfWordsOf (found : Found) (words : ConfWords) : Type 0 where
  pub suffix : words.suffix.now ≡ text_or_empty (first_value found (codes "suffix"))
  pub source : source_in words.source ≡ source_of (first_value found (codes "slapd_conf")) (first_value found (codes "config"))
  pub out : words.out.now ≡ text_or_empty (first_value found (codes "out"))

-- ---- the words of `slapacl` with a file of questions

-- each word is the value of its own argument
pub record AreQuestionWordsOf (found : Found) (words : QuestionWords) : Type 0 where
  pub questions : words.questions.now ≡ text_or_empty (first_value found (codes "questions"))
  pub config : words.config.now ≡ text_or_empty (first_value found (codes "config"))
  pub copy : words.data.now ≡ text_or_empty (first_value found (codes "data"))
  pub answers : option_copied words.answers ≡ first_value found (codes "answers")
  pub verbose : IsFlag found (codes "verbose") words.verbose
  pub strict : IsFlag found (codes "strict") words.strict
