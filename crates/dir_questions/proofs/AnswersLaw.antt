-- The answers to a block are what slapacl reports for its question alone.
use Rattle.std.proofs.Common.{◌≡◌, ℕ, ◌+◌, ◌<◌, Bool, true, false, cond, List, [], ◌∷◌, ◌++◌, length, map, codes, Option, None, Some, Result, Ok, Err, refl, sym, ap, subst, ◌∙◌, get_or}
use Rattle.std.specs.Prelude.{◌==◌, nat_lt, IfSome, ok_or, option_map, option_and_then}
use Rattle.std.specs.Result.{result_ok}
use Rattle.std.specs.List.{All, after_first, before_first, flat_map, list_any, position_or_len}
use Rattle.std.proofs.lemmas.Bool.{eqb-true, ltb-false, ltb-true}
use Rattle.std.proofs.lemmas.List.{take_all}
use Rattle.std.proofs.lemmas.List.Elements.{All-head, All-tail, All-weaker}
use Rattle.std.proofs.lemmas.List.Folds.{list_any_at}
use Rattle.std.proofs.lemmas.List.Sums.{passes_at_first, split_at_first}
use Rattle.dir_names.specs.Ascii.{colon}
use Rattle.dir_names.specs.Cut.{after_first_separator}
use Rattle.dir_names.specs.Keys.{DnKeys}
use Rattle.dir_names.specs.NameKeys.{name_key, name_value_key}
use Rattle.dir_names.specs.Names.{SpelledName}
use Rattle.dir_names.specs.Names.Reading.{name_within_limits}
use Rattle.dir_names.specs.Results.{and_then}
use Rattle.dir_names.specs.declared.schema.TypeRow.{TypeRow}
use Rattle.dir_tree.specs.Content.{Content}
use Rattle.dir_tree.specs.Dir.{Dir}
use Rattle.dir_acl.specs.declared.access.Asked.{Asked}
use Rattle.dir_acl.specs.declared.fault.ConfigFault.{ConfigFault}
use Rattle.dir_acl.specs.declared.privileges.Level.{Level}
use Rattle.dir_acl.specs.Privileges.{level_of}
use Rattle.dir_acl.specs.Rules.{Configuration}
use Rattle.dir_tools.specs.declared.fault.Item.TheVariants as item
use Rattle.dir_tools.specs.declared.fault.ToolFault.{ToolFault}
use Rattle.dir_tools.specs.declared.fault.ToolFault.TheVariants as tool
use Rattle.dir_tools.specs.AccessReport.{AccessTerms, Configured, NamedKey, QuestionParts, Word, access_of, access_terms, acl_report_of, answer_text, asked_of, configured, held_by, line_on, ok_or_bad_config, parts_of, report_on, report_under, request_for, requester_of, slash, target_of, without_value, word_at, word_of, word_text, words_from, words_of}
use Rattle.dir_tools.specs.CopyOf.{copy_of}
use Rattle.dir_tools.specs.Headline.{ok_or_bad_copy}
use Rattle.dir_questions.specs.Answers.{Answered, answered_on, parts_of_block}
use Rattle.dir_questions.specs.Laws.{AnswersAreReports, IsReportOf, question_of, report_line}
use Rattle.dir_questions.specs.Questions.{AskedWord, GivenName, QuestionBlock}
use Rattle.dir_questions.proofs.ReadQuestions.{HasWord, IsNamed, IsRead, IsWord, blocks-ok}

-- ---- the text of a word

module _ (b : ℕ) (text : List ℕ) where
  abbrev at : ℕ
  at = position_or_len (λ x. x == b) text

  -- a text without the separator is what comes before it
  pub all_before : list_any (λ x. x == b) text ≡ false → before_first (λ x. x == b) text ≡ text
  all_before none = by (nat_lt at (length text)) refl
    where
      by : (lt : Bool) → nat_lt at (length text) ≡ lt → before_first (λ x. x == b) text ≡ text
      by true e =
          let inside : at < length text = ltb-true _ _ e in
          let hit : list_any (λ x. x == b) text ≡ true = list_any_at (λ x. x == b) text at 0 inside (passes_at_first (λ x. x == b) text 0 inside) in
          absurd (cc)
      by false e = take_all at text (ltb-false _ _ e)

  -- what comes before the separator and after it
  pub both_parts : at < length text → before_first (λ x. x == b) text ++ b ∷ after_first (λ x. x == b) text ≡ text
  both_parts inside =
      let same : get_or text at 0 ≡ b = eqb-true _ _ (passes_at_first (λ x. x == b) text 0 inside) in
      ap (λ c. before_first (λ x. x == b) text ++ c ∷ after_first (λ x. x == b) text) (sym same) ∙ sym (split_at_first (λ x. x == b) text 0 inside)

at_word : (rows : List TypeRow) (attr : List ℕ) (access : Option (List ℕ)) (word : Word) → word_at rows attr access ≡ Some word → (word.attr ≡ attr) × (access_of access ≡ Some word.access)
at_word rows attr access word e = by (asked_of rows attr) e
  where
    by : (asked : Option Asked) → option_and_then (λ asked. option_map (λ level. record { attr = attr; asked = asked; access = level }) (access_of access)) asked ≡ Some word → (word.attr ≡ attr) × (access_of access ≡ Some word.access)
    by None e = absurd (cc)
    by (Some asked) e = by_access (access_of access) e
      where
        by_access : (found : Option (Option (List ℕ × Level))) → option_map (λ level. record { attr = attr; asked = asked; access = level }) found ≡ Some word → (word.attr ≡ attr) × (found ≡ Some word.access)
        by_access None e = absurd (cc)
        by_access (Some level) e =
            let same : record { attr = attr; asked = asked; access = level } ≡ word = cc e in
            (ap (λ (w : Word). w.attr) (sym same), ap (λ (w : Word). Some w.access) same)

-- the access of a word, as it is written
access_spelled : (attr text : List ℕ) (access : Option (List ℕ × Level)) → access_of (Some text) ≡ Some access → word_text attr access ≡ attr ++ codes "/" ++ text
access_spelled attr text access e = by (level_of text) e
  where
    by : (level : Option Level) → option_map (λ level. Some (text, level)) level ≡ Some access → word_text attr access ≡ attr ++ codes "/" ++ text
    by None e = absurd (cc)
    by (Some level) e =
        let same : Some (text, level) ≡ access = cc e in
        subst (λ (a : Option (List ℕ × Level)). word_text attr a ≡ attr ++ codes "/" ++ text) same refl

no_access : (attr : List ℕ) (access : Option (List ℕ × Level)) → access_of None ≡ Some access → word_text attr access ≡ attr
no_access attr access e =
    let same : None ≡ access = cc e in
    subst (λ (a : Option (List ℕ × Level)). word_text attr a ≡ attr) same refl

slash_joined : (attr text : List ℕ) → attr ++ codes "/" ++ text ≡ attr ++ slash ∷ text
slash_joined [] text = refl
slash_joined (b ∷ attr) text = ap (λ t. b ∷ t) (slash_joined attr text)

cut_spelled : (rows : List TypeRow) (text : List ℕ) (word : Word) → word_at rows (before_first (λ b. b == slash) text) (after_first_separator slash text) ≡ Some word → word_text word.attr word.access ≡ text
cut_spelled rows text word e = by (nat_lt (position_or_len (λ b. b == slash) text) (length text)) refl e
  where
    by : (lt : Bool) → nat_lt (position_or_len (λ b. b == slash) text) (length text) ≡ lt → word_at rows (before_first (λ b. b == slash) text) (cond lt (Some (after_first (λ b. b == slash) text)) None) ≡ Some word → word_text word.attr word.access ≡ text
    by true lt e =
        let parts = at_word rows (before_first (λ b. b == slash) text) (Some (after_first (λ b. b == slash) text)) word e in
        ap (λ a. word_text a word.access) parts.0 ∙ access_spelled (before_first (λ b. b == slash) text) (after_first (λ b. b == slash) text) word.access parts.1
        ∙ slash_joined (before_first (λ b. b == slash) text) (after_first (λ b. b == slash) text) ∙ both_parts slash text (ltb-true _ _ lt)
    by false lt e =
        let parts = at_word rows (before_first (λ b. b == slash) text) None word e in
        ap (λ a. word_text a word.access) parts.0 ∙ no_access (before_first (λ b. b == slash) text) word.access parts.1 ∙ take_all (position_or_len (λ b. b == slash) text) text (ltb-false _ _ lt)

-- a word is reported as it is written in the file
pub word_spelled : (rows : List TypeRow) (text : List ℕ) (word : Word) → list_any (λ b. b == colon) text ≡ false → word_of rows text ≡ Some word → word_text word.attr word.access ≡ text
word_spelled rows text word none e =
    let whole : without_value text ≡ text = all_before colon text none in
    cut_spelled rows text word (sym (ap (λ t. word_at rows (before_first (λ b. b == slash) t) (after_first_separator slash t)) whole) ∙ e)

-- ---- the parts of the question

keyed : (rows : List TypeRow) (name : Option SpelledName) (found : NamedKey) → option_and_then (λ name. option_map (λ key. (name, key)) (name_key rows name)) name ≡ Some found → option_and_then (name_key rows) name ≡ Some found.1
keyed rows None found e = absurd (cc)
keyed rows (Some name) found e = by (name_key rows name) e
  where
    by : (key : Option DnKeys) → option_map (λ key. (name, key)) key ≡ Some found → key ≡ Some found.1
    by None e = absurd (cc)
    by (Some key) e =
        let same : (name, key) ≡ found = cc e in
        ap (λ (f : NamedKey). Some f.1) same

base_read : (rows : List TypeRow) (given : GivenName) → IsNamed rows given → name_value_key rows given.text ≡ Some given.name.1
base_read rows given h = keyed rows (result_ok (name_within_limits given.text)) given.name h

requester_read : (rows : List TypeRow) (requester : Option GivenName) → IfSome requester (IsNamed rows)
    → requester_of rows (option_map (λ (given : GivenName). given.text) requester) ≡ Some (option_map (λ (given : GivenName). given.name) requester)
requester_read rows None h = refl
requester_read rows (Some given) h = ap (option_map Some) h

words_read : (rows : List TypeRow) (n : ℕ) (words : List AskedWord) → All (IsWord rows) words
    → words_from rows n (map (λ (asked : AskedWord). asked.text) words) ≡ Ok (map (λ (asked : AskedWord). asked.word) words)
words_read rows n [] h = refl
words_read rows n (asked ∷ words) h =
    let texts : List (List ℕ) = map (λ (asked : AskedWord). asked.text) words in
    let here : word_of rows asked.text ≡ Some asked.word = (All-head (IsWord rows) asked words h).word in
    ap (λ (word : Option Word). and_then (ok_or word (tool.BadQuestion (item.Word n))) (λ word. and_then (words_from rows (n + 1) texts) (λ words. Ok (word ∷ words)))) here
    ∙ ap (λ (later : Result (List Word) ToolFault). and_then later (λ words. Ok (asked.word ∷ words))) (words_read rows (n + 1) words (All-tail (IsWord rows) asked words h))

all_words_read : (rows : List TypeRow) (words : List AskedWord) → HasWord words → All (IsWord rows) words
    → words_of rows (map (λ (asked : AskedWord). asked.text) words) ≡ Ok (map (λ (asked : AskedWord). asked.word) words)
all_words_read rows [] some h = absurd some
all_words_read rows (asked ∷ words) some h = words_read rows 1 (asked ∷ words) h

module _ (rows : List TypeRow) (b : QuestionBlock) (h : IsRead rows b) where
  abbrev t : AccessTerms
  t = access_terms rows (question_of b)

  abbrev with_base : Option DnKeys → Result QuestionParts ToolFault
  with_base base =
      and_then (ok_or base (tool.BadQuestion item.Base)) (λ base.
      and_then (ok_or (requester_of t.rows t.question.authc) (tool.BadQuestion item.Authc)) (λ requester.
      and_then (words_of t.rows t.question.words) (λ words. Ok (record { base = base; requester = requester; words = words }))))

  abbrev with_requester : Option (Option NamedKey) → Result QuestionParts ToolFault
  with_requester requester =
      and_then (ok_or requester (tool.BadQuestion item.Authc)) (λ requester.
      and_then (words_of t.rows t.question.words) (λ words. Ok (record { base = b.base.name.1; requester = requester; words = words })))

  abbrev with_words : Result (List Word) ToolFault → Result QuestionParts ToolFault
  with_words words = and_then words (λ words. Ok (record { base = b.base.name.1; requester = option_map (λ (given : GivenName). given.name) b.requester; words = words }))

  pub parts_read : parts_of (access_terms rows (question_of b)) ≡ Ok (parts_of_block b)
  parts_read = ap with_base (base_read rows b.base h.base) ∙ ap with_requester (requester_read rows b.requester h.requester) ∙ ap with_words (all_words_read rows b.words h.some h.words)

-- ---- the report

module _ (rows : List TypeRow) (c : Configuration) (d : Dir) (b : QuestionBlock) (target : Option Content) where
  abbrev on : AskedWord → Answered
  on = answered_on c d b (Ok target)

  abbrev reported : Word → List ℕ
  reported = line_on c d (parts_of_block b) target

  same_line : (asked : AskedWord) → IsWord rows asked → reported asked.word ≡ report_line (on asked)
  same_line asked h =
      ap (λ t. t ++ codes ": " ++ answer_text asked.word.access (held_by c d (request_for (parts_of_block b) target asked.word.asked)) ++ codes "\n") (word_spelled rows asked.text asked.word h.name h.word)

  pub same_lines : (words : List AskedWord) → All (IsWord rows) words → flat_map (line_on c d (parts_of_block b) target) (map (λ (asked : AskedWord). asked.word) words) ≡ flat_map report_line (map (answered_on c d b (Ok target)) words)
  same_lines [] h = refl
  same_lines (asked ∷ words) h =
      ap (λ t. t ++ flat_map reported (map (λ (asked : AskedWord). asked.word) words)) (same_line asked (All-head (IsWord rows) asked words h))
      ∙ ap (λ t. report_line (on asked) ++ t) (same_lines words (All-tail (IsWord rows) asked words h))

module _ (rows : List TypeRow) (config copy : List ℕ) (found : Configured) (d : Dir) (b : QuestionBlock) (reads : configured rows config ≡ Ok found)
    (is : ok_or_bad_copy (copy_of found.rows found.configuration.suffix copy) ≡ Ok d) (h : IsRead found.rows b) where
  abbrev under_config : Result Configured ConfigFault → Result (List ℕ) ToolFault
  under_config found = and_then (ok_or_bad_config found) (λ found. report_under (access_terms found.rows (question_of b)) found.configuration copy)

  abbrev under_target : Result (Option Content) ToolFault → Result (List ℕ) ToolFault
  under_target target = and_then target (λ target. Ok (report_on false found.configuration d (parts_of_block b) target))

  abbrev under_copy : Result Dir ToolFault → Result (List ℕ) ToolFault
  under_copy copy = and_then copy (λ d. and_then (target_of b.fake d b.base.name.1) (λ target. Ok (report_on false found.configuration d (parts_of_block b) target)))

  abbrev under_parts : Result QuestionParts ToolFault → Result (List ℕ) ToolFault
  under_parts parts =
      and_then parts (λ parts.
      and_then (ok_or_bad_copy (copy_of found.rows found.configuration.suffix copy)) (λ d.
      and_then (target_of b.fake d parts.base) (λ target.
      Ok (report_on false found.configuration d parts target))))

  answered : (target : Result (Option Content) ToolFault) → under_target target ≡ and_then target (λ _. Ok (flat_map report_line (map (answered_on found.configuration d b target) b.words)))
  answered (Err why) = refl
  answered (Ok target) = ap Ok (same_lines found.rows found.configuration d b target b.words h.words)

  pub block_reported : IsReportOf found d b (acl_report_of (access_terms rows (question_of b)) config copy)
  block_reported = ap under_config reads ∙ ap under_parts (parts_read found.rows b h) ∙ ap under_copy is ∙ answered (target_of b.fake d b.base.name.1)

pub answers_are_reports : AnswersAreReports
answers_are_reports rows config copy text found d blocks reads is asked =
    All-weaker (IsRead found.rows) (λ b. IsReportOf found d b (acl_report_of (access_terms rows (question_of b)) config copy)) (λ b h. block_reported rows config copy found d b reads is h) blocks (blocks-ok found.rows text blocks asked)
