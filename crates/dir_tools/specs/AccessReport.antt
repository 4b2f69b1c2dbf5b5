-- What a requester may do, as slapacl reports it (slapacl(8)). `acl_report_of`, at the end of this page, is the whole: from the types of attributes, a
-- question, the text of a slapd.conf and the text of a copy to the report, or to the first fault.
use Rattle.std.specs.Prelude.{ℕ, ◌+◌, Bool, true, false, cond, ◌==◌, List, [], ◌∷◌, ◌++◌, codes, Option, Some, None, ok_or, option_map, option_and_then, Result, Ok, Err}
use Rattle.std.specs.List.{before_first, flat_map}
use Rattle.std.specs.Result.{result_ok}
use Rattle.std.specs.Str.{str_eq_ignore_ascii_case}
use Rattle.dir_names.specs.declared.schema.TypeRow.{TypeRow}
use Rattle.dir_names.specs.Ascii.{colon}
use Rattle.dir_names.specs.Below.{is_at_or_below}
use Rattle.dir_names.specs.Cut.{after_first_separator}
use Rattle.dir_names.specs.Descriptions.{description_of}
use Rattle.dir_names.specs.Keys.{DnKeys}
use Rattle.dir_names.specs.NameKeys.{name_key, name_value_key}
use Rattle.dir_names.specs.Names.{SpelledName}
use Rattle.dir_names.specs.Names.Printing.{printed_name}
use Rattle.dir_names.specs.Names.Reading.{name_within_limits}
use Rattle.dir_names.specs.Results.{and_then}
use Rattle.dir_tree.specs.Content.{Content}
use Rattle.dir_tree.specs.Dir.{Dir, entry_at}
use Rattle.dir_acl.specs.declared.access.Asked.{Asked}
use Rattle.dir_acl.specs.declared.access.Asked.TheVariants as asked
use Rattle.dir_acl.specs.declared.fault.ConfigFault.{ConfigFault}
use Rattle.dir_acl.specs.declared.privileges.Level.{Level}
use Rattle.dir_acl.specs.declared.privileges.Privilege.{Privilege}
use Rattle.dir_acl.specs.declared.privileges.Privilege.TheVariants.{Manage, Add, Delete, Read, Search, Compare, Auth, Disclose}
use Rattle.dir_acl.specs.declared.privileges.Privileges.{Privileges}
use Rattle.dir_conf_text.specs.declared.text.ConfigLine.{ConfigLine}
use Rattle.dir_acl.specs.Config.{bounded_lines, config_of_lines, types_after}
use Rattle.dir_acl.specs.Decision as decision
use Rattle.dir_acl.specs.Decision.{is_granted}
use Rattle.dir_acl.specs.Inside.Fakes.{attributes_of}
use Rattle.dir_acl.specs.Privileges.{is_allowed, level_of, privileges_text}
use Rattle.dir_acl.specs.Rules.{Configuration}
use Rattle.dir_tools.specs.declared.acl.Question.{Question}
use Rattle.dir_tools.specs.declared.fault.Item.TheVariants as item
use Rattle.dir_tools.specs.declared.fault.ToolFault.{ToolFault}
use Rattle.dir_tools.specs.declared.fault.ToolFault.TheVariants as tool
use Rattle.dir_tools.specs.CopyOf.{copy_of}
use Rattle.dir_tools.specs.Headline.{ok_or_bad_copy}

-- what slapacl is given beside its two texts: the types of attributes, and the question
pub record AccessTerms : Type 0 where
  pub rows : List TypeRow
  pub question : Question

abbrev pub access_terms : List TypeRow → Question → AccessTerms
access_terms rows question = record { rows = rows; question = question }

-- ---- the requester

-- a legal name: as it is spelled, and its key
abbrev pub NamedKey : Type 0
NamedKey = SpelledName × DnKeys

abbrev pub named_key : List TypeRow → List ℕ → Option NamedKey
named_key rows text = option_and_then (λ name. option_map (λ key. (name, key)) (name_key rows name)) (result_ok (name_within_limits text))

-- who asks: nobody, if no name is given
abbrev pub requester_of : List TypeRow → Option (List ℕ) → Option (Option NamedKey)
requester_of rows None = Some None
requester_of rows (Some text) = option_map Some (named_key rows text)

-- ---- the words `attr[/access][:value]`

abbrev pub slash : ℕ
slash = 47

-- a word: what is asked for, and the level of access that is asked about, if one is; both also as they are written
pub record Word : Type 0 where
  pub attr : List ℕ
  pub asked : Asked
  pub access : Option (List ℕ × Level)

-- `entry` and `children`, in any ASCII case, or a description
abbrev pub asked_of : List TypeRow → List ℕ → Option Asked
asked_of rows text =
    cond (str_eq_ignore_ascii_case text (codes "entry")) (Some asked.Entry)
    (cond (str_eq_ignore_ascii_case text (codes "children")) (Some asked.Children)
    (option_map (λ description. asked.Attribute description.key) (result_ok (description_of rows text))))

abbrev pub access_of : Option (List ℕ) → Option (Option (List ℕ × Level))
access_of None = Some None
access_of (Some text) = option_map (λ level. Some (text, level)) (level_of text)

abbrev pub word_at : List TypeRow → List ℕ → Option (List ℕ) → Option Word
word_at rows attr access =
    option_and_then (λ asked. option_map (λ level. record { attr = attr; asked = asked; access = level }) (access_of access)) (asked_of rows attr)

-- the part from the first `:` on is not used, and the rest is cut at its first `/`
abbrev pub without_value : List ℕ → List ℕ
without_value text = before_first (λ b. b == colon) text

abbrev pub word_of : List TypeRow → List ℕ → Option Word
word_of rows text = word_at rows (before_first (λ b. b == slash) (without_value text)) (after_first_separator slash (without_value text))

-- these words, the first of which has the number `n`; or the first that is faulty
abbrev pub words_from : List TypeRow → ℕ → List (List ℕ) → Result (List Word) ToolFault
words_from rows n [] = Ok []
words_from rows n (text ∷ texts) =
    and_then (ok_or (word_of rows text) (tool.BadQuestion (item.Word n))) (λ word. and_then (words_from rows (n + 1) texts) (λ words. Ok (word ∷ words)))

-- without any word, `entry` alone is asked for
abbrev pub entry_word : Word
entry_word = record { attr = codes "entry"; asked = asked.Entry; access = None }

abbrev pub words_of : List TypeRow → List (List ℕ) → Result (List Word) ToolFault
words_of rows [] = Ok (entry_word ∷ [])
words_of rows (text ∷ texts) = words_from rows 1 (text ∷ texts)

-- ---- the question

-- what the parts of a question say
pub record QuestionParts : Type 0 where
  pub base : DnKeys
  pub requester : Option NamedKey
  pub words : List Word

-- the base, then the requester, then each word; the first faulty one decides
abbrev pub parts_of : AccessTerms → Result QuestionParts ToolFault
parts_of t =
    and_then (ok_or (name_value_key t.rows t.question.base) (tool.BadQuestion item.Base)) (λ base.
    and_then (ok_or (requester_of t.rows t.question.authc) (tool.BadQuestion item.Authc)) (λ requester.
    and_then (words_of t.rows t.question.words) (λ words. Ok (record { base = base; requester = requester; words = words }))))

-- ---- the target

abbrev pub ok_or_no_entry : Option Content → Result (Option Content) ToolFault
ok_or_no_entry None = Err tool.NoEntry
ok_or_no_entry (Some entry) = Ok (Some entry)

-- the entry of the base, which is at or below the suffix; none if it is made up (`-u`), whether or not the copy has it
abbrev pub target_of : Bool → Dir → DnKeys → Result (Option Content) ToolFault
target_of fake d base = cond (is_at_or_below base d.suffix) (cond fake (Ok None) (ok_or_no_entry (entry_at d base))) (Err tool.NoEntry)

-- ---- the report

-- the set of the privileges that are granted
abbrev pub granted_set : (Privilege → Bool) → Privileges
granted_set granted = record {
  manage = granted Manage;
  add = granted Add;
  delete = granted Delete;
  read = granted Read;
  search = granted Search;
  compare = granted Compare;
  auth = granted Auth;
  disclose = granted Disclose;
}

-- who asks for what, in the words of decisions
abbrev pub request_for : QuestionParts → Option Content → Asked → decision.Question
request_for parts target asked = record {
  requester = option_map (λ requester. requester.1) parts.requester;
  target = parts.base;
  attributes = attributes_of target;
  asked = asked;
}

-- the privileges of the requester on what a word asks for
abbrev pub held_by : Configuration → Dir → decision.Question → Privileges
held_by c d request = granted_set (is_granted d c.root c.rules request)

abbrev pub verdict : Bool → List ℕ
verdict true = codes "ALLOWED"
verdict false = codes "DENIED"

-- the answer to a word: the privileges that are held, or whether the level of access is allowed
abbrev pub answer_text : Option (List ℕ × Level) → Privileges → List ℕ
answer_text None held = privileges_text held
answer_text (Some (access, level)) held = verdict (is_allowed held level)

-- the word as it is written, without its value
abbrev pub word_text : List ℕ → Option (List ℕ × Level) → List ℕ
word_text attr None = attr
word_text attr (Some (access, level)) = attr ++ codes "/" ++ access

-- `ATTR: PRIVILEGES`, or `ATTR/ACCESS: ALLOWED` or `ATTR/ACCESS: DENIED`
abbrev pub word_line : Word → Privileges → List ℕ
word_line word held = word_text word.attr word.access ++ codes ": " ++ answer_text word.access held ++ codes "\n"

-- a requester without a name, or with the one without RDNs, is anonymous
abbrev pub requester_text : Option NamedKey → List ℕ
requester_text None = codes "anonymous"
requester_text (Some ([], key)) = codes "anonymous"
requester_text (Some (rdn ∷ rdns, key)) = printed_name (rdn ∷ rdns)

-- the line of a verbose report (`-v`)
abbrev pub requester_line : Bool → Option NamedKey → List ℕ
requester_line false requester = []
requester_line true requester = codes "authcDN: " ++ requester_text requester ++ codes "\n"

-- the line of a word, of what the requester holds on the target
abbrev pub line_on : Configuration → Dir → QuestionParts → Option Content → Word → List ℕ
line_on c d parts target word = word_line word (held_by c d (request_for parts target word.asked))

-- the lines of the words, in their order
abbrev pub report_on : Bool → Configuration → Dir → QuestionParts → Option Content → List ℕ
report_on verbose c d parts target = requester_line verbose parts.requester ++ flat_map (line_on c d parts target) parts.words

-- ---- the whole

-- the types of attributes, with those that a slapd.conf defines, and what it says under them
pub record Configured : Type 0 where
  pub rows : List TypeRow
  pub configuration : Configuration

abbrev pub configured_by_lines : List TypeRow → List ConfigLine → Result Configured ConfigFault
configured_by_lines rows lines = and_then (types_after rows lines) (λ now. and_then (config_of_lines now lines) (λ c. Ok (record { rows = now; configuration = c })))

abbrev pub configured : List TypeRow → List ℕ → Result Configured ConfigFault
configured rows text = and_then (bounded_lines text) (configured_by_lines rows)

abbrev pub ok_or_bad_config : {A : Type 0} → Result A ConfigFault → Result A ToolFault
ok_or_bad_config (Ok found) = Ok found
ok_or_bad_config (Err fault) = Err (tool.Config fault)

-- the question, then the copy, then the target, under a configuration and its types
abbrev pub report_under : AccessTerms → Configuration → List ℕ → Result (List ℕ) ToolFault
report_under t c copy =
    and_then (parts_of t) (λ parts.
    and_then (ok_or_bad_copy (copy_of t.rows c.suffix copy)) (λ d.
    and_then (target_of t.question.fake d parts.base) (λ target.
    Ok (report_on t.question.verbose c d parts target))))

-- the types that the configuration defines, then the rest of it, and all else under them: the report, or the first fault
abbrev pub acl_report_of : AccessTerms → List ℕ → List ℕ → Result (List ℕ) ToolFault
acl_report_of t config copy =
    and_then (ok_or_bad_config (configured t.rows config)) (λ found. report_under (access_terms found.rows t.question) found.configuration copy)
