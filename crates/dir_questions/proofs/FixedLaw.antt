-- A file of questions that is written with its answers is read as one that expects them.
use Rattle.std.proofs.Common.{◌≡◌, ℕ, ◌≤◌, Bool, true, false, not, cond, ◌&&◌, List, [], ◌∷◌, ◌++◌, length, map, codes, Option, None, Some, Result, Ok, Err, refl, sym, ap, subst, ◌∙◌, append_assoc, arith}
use Rattle.std.specs.Prelude.{◌==◌, IfSome, ok_or, option_map, option_and_then}
use Rattle.std.specs.Char.{to_ascii_lowercase}
use Rattle.std.specs.Result.{result_ok}
use Rattle.std.specs.List.{All, flat_map, join_with_byte, list_any, onto_first}
use Rattle.std.specs.Str.{str_eq_ignore_ascii_case, str_to_ascii_lowercase}
use Rattle.std.proofs.lemmas.Bool.Decides.{nat_tests}
use Rattle.std.proofs.lemmas.List.{length-append}
use Rattle.std.proofs.lemmas.List.Elements.{All-cons, All-head, All-nil, All-tail}
use Rattle.std.proofs.lemmas.List.Folds.{flat_map-map, list_any-append}
use Rattle.dir_names.specs.Keys.{DnKeys}
use Rattle.dir_names.specs.NameKeys.{name_key}
use Rattle.dir_names.specs.Names.{SpelledName, SpelledPair, SpelledRdn}
use Rattle.dir_names.specs.Names.Printing.{printed_name, printed_pair, printed_rdn, printed_value}
use Rattle.dir_names.specs.Names.Limits.{is_within_limits, ok_if_within}
use Rattle.dir_names.specs.Names.Reading.{name_of, name_within_limits, pieces, rdn_of}
use Rattle.dir_names.specs.Orders.{bytes_eq_decides}
use Rattle.dir_names.specs.declared.fault.NameFault.{NameFault}
use Rattle.dir_names.specs.declared.fault.NameFault.TheVariants.{NameLimit}
use Rattle.dir_names.specs.Names.Sound.{is_sound_name, is_sound_rdn}
use Rattle.dir_names.specs.Results.{and_then, option_collect, option_cons}
use Rattle.dir_names.specs.declared.schema.TypeRow.{TypeRow}
use Rattle.dir_ldif.specs.AttrVal.{attrval_of}
use Rattle.dir_ldif.specs.Bytes.{is_empty}
use Rattle.dir_ldif.specs.RecordGrammar.{is_keyword}
use Rattle.dir_ldif.specs.declared.faults.RecordFault.{RecordFault}
use Rattle.dir_ldif.proofs.Spellings.{or_right}
use Rattle.dir_ldif.proofs.WrittenLines.{and_first}
use Rattle.dir_ldif.specs.Blocks.{BlockResult, all_blocks, blocks_of}
use Rattle.dir_ldif.specs.LineText.{line_of, value_spec, written_line}
use Rattle.dir_ldif.specs.LogicalLines.{Line}
use Rattle.dir_ldif.specs.SoundRecords.{IsSoundName}
use Rattle.dir_ldif.specs.WrittenBlocks.{IsWritable, IsWritableBlock, Parts, begins_with_version, is_line_name, parts_of, written_block, written_blocks}
use Rattle.dir_ldif.proofs.BlocksReadBack.{written_blocks-read}
use Rattle.dir_ldif.proofs.RoundTrip.{length-value_spec}
use Rattle.dir_ldif.proofs.SoundNames.{ascii_bytes, name_back, name_bytes, name_short}
use Rattle.dir_tree.specs.Content.{Content}
use Rattle.dir_tree.specs.Dir.{Dir}
use Rattle.dir_acl.specs.Rules.{Configuration}
use Rattle.dir_tools.specs.declared.fault.ToolFault.{ToolFault}
use Rattle.dir_acl.specs.Inside.Fakes.{attributes_of}
use Rattle.dir_tools.specs.AccessReport.{NamedKey, QuestionParts, Word, answer_text, held_by, request_for, named_key, target_of, word_of}
use Rattle.dir_questions.specs.declared.fault.QuestionCause.TheVariants.{BadAnswer, BadBlock, BadName, BadWord}
use Rattle.dir_questions.specs.declared.fault.QuestionsFault.{QuestionsFault}
use Rattle.dir_questions.specs.Answers.{Answered, answer_on, answered_line, answered_on, answers_to, block_text, fake_line, named_line, parts_of_block, requester_line, written_questions}
use Rattle.dir_questions.specs.Laws.{AnswersAreFixed, answered_in, expected_in}
use Rattle.dir_questions.specs.Questions.{AskedWord, GivenName, Numbered, QuestionBlock, as_cause, asked_word, at_line, base_in, block_of, fake_in, collect, given_name, is_nobody, is_reserved, line_of_first, line_parts, may_be_expected, no_such_entry, optional_line, read_block, requester_in, word_line, words_in}
use Rattle.dir_questions.proofs.AnsweredWords.{answer_is, word_named}
use Rattle.dir_questions.proofs.QuestionBytes.{IsSoundBlock, blocks-sound, named_within}
use Rattle.dir_questions.proofs.ReadQuestions.{HasWord, IsNamed, IsRead, IsWord, blocks-ok}
use Rattle.dir_questions.proofs.Sources.{are_lines}

-- ---- what is written, as blocks of names and values

abbrev requester_parts : Option GivenName → List Parts
requester_parts None = []
requester_parts (Some given) = (codes "authcDN", printed_name given.name.0) ∷ []

abbrev fake_parts : Bool → List Parts
fake_parts false = []
fake_parts true = (codes "fake", codes "true") ∷ []

abbrev answer_parts : Answered → Parts
answer_parts a = (a.0.text, a.1)

abbrev rest_parts : QuestionBlock → List Answered → List Parts
rest_parts b answers = (codes "dn", printed_name b.base.name.0) ∷ map answer_parts answers

abbrev block_parts : QuestionBlock → List Answered → List Parts
block_parts b answers = requester_parts b.requester ++ (fake_parts b.fake ++ rest_parts b answers)

abbrev line_text : Parts → List ℕ
line_text line = written_line line.0 line.1

rest_text : (b : QuestionBlock) (answers : List Answered) → flat_map line_text (rest_parts b answers) ≡ named_line (codes "dn") b.base.name ++ flat_map answered_line answers
rest_text b answers = ap (λ t. named_line (codes "dn") b.base.name ++ t) (flat_map-map line_text answer_parts answers)

-- a requester's line or none, and then `fake` or not
joined : (r f d w : List ℕ) → r ++ (f ++ (d ++ w)) ≡ ((r ++ f) ++ d) ++ w
joined r f d w = sym (append_assoc (r ++ f) d w ∙ append_assoc r f (d ++ w))

flat_requester : (requester : Option GivenName) (rest : List Parts) → flat_map line_text (requester_parts requester ++ rest) ≡ requester_line requester ++ flat_map line_text rest
flat_requester None rest = refl
flat_requester (Some given) rest = refl

flat_fake : (fake : Bool) (rest : List Parts) → flat_map line_text (fake_parts fake ++ rest) ≡ fake_line fake ++ flat_map line_text rest
flat_fake false rest = refl
flat_fake true rest = refl

one_block : (b : QuestionBlock) (answers : List Answered) → written_block (block_parts b answers) ≡ block_text b answers
one_block b answers =
    let named = named_line (codes "dn") b.base.name in
    let words = flat_map answered_line answers in
    ap (λ t. t ++ codes "\n")
    (flat_requester b.requester (fake_parts b.fake ++ rest_parts b answers)
    ∙ ap (λ t. requester_line b.requester ++ t) (flat_fake b.fake (rest_parts b answers) ∙ ap (λ t. fake_line b.fake ++ t) (rest_text b answers))
    ∙ joined (requester_line b.requester) (fake_line b.fake) named words)

module _ (c : Configuration) (d : Dir) where
  abbrev all_parts : List QuestionBlock → List (List Parts)
  all_parts blocks = map (λ (b : QuestionBlock). block_parts b (answers_to c d b)) blocks

  as_blocks : (blocks : List QuestionBlock) → written_blocks (all_parts blocks) ≡ written_questions c d blocks
  as_blocks [] = refl
  as_blocks (b ∷ blocks) =
      ap (λ t. t ++ written_blocks (all_parts blocks)) (one_block b (answers_to c d b)) ∙ ap (λ t. block_text b (answers_to c d b) ++ t) (as_blocks blocks)

  no_version : (blocks : List QuestionBlock) → begins_with_version (all_parts blocks) ≡ false
  no_version [] = refl
  no_version (b ∷ blocks) = by b.requester b.fake
    where
      by : (requester : Option GivenName) (fake : Bool) → begins_with_version ((requester_parts requester ++ (fake_parts fake ++ rest_parts b (answers_to c d b))) ∷ all_parts blocks) ≡ false
      by (Some given) fake = refl
      by None true = refl
      by None false = refl

-- ---- lines that can be written

whole : (name value : List ℕ) → length name ≤ 1025 → length value ≤ 1048576 → length (line_of name value) ≤ 2097152
whole name value h k = omega (arith, length-append name (value_spec value), length-value_spec value k, h)

name_line : (word : List ℕ) (name : SpelledName) → is_line_name word ≡ true → length word ≤ 1025 → IsSoundName name → IsWritable (word, printed_name name)
name_line word name h short sound = record { name = h; bytes = name_bytes name sound; value = name_short name sound; whole = whole word (printed_name name) short (name_short name sound) }

fake_writable : IsWritable (codes "fake", codes "true")
fake_writable = record { name = refl; bytes = ascii_bytes (codes "true") refl; value = omega arith; whole = whole (codes "fake") (codes "true") (omega arith) (omega arith) }

module _ (rows : List TypeRow) (c : Configuration) (d : Dir) where
  abbrev answer_in : QuestionBlock → AskedWord → Answered
  answer_in b = answered_on c d b (target_of b.fake d b.base.name.1)

  answer_writable : (b : QuestionBlock) (asked : AskedWord) → IsWord rows asked → IsWritable (answer_parts (answer_in b asked))
  answer_writable b asked h =
      let named = word_named rows asked.text asked.word h.name h.word in
      let is = answer_is c d b (target_of b.fake d b.base.name.1) asked in
      let short : length (answer_in b asked).1 ≤ 1048576 = omega (arith, is.short) in
      record { name = named.name; bytes = ascii_bytes _ is.ascii; value = short; whole = whole asked.text (answer_in b asked).1 named.short short }

  answers_writable : (b : QuestionBlock) (words : List AskedWord) → All (IsWord rows) words → All IsWritable (map answer_parts (map (answer_in b) words))
  answers_writable b [] h = All-nil IsWritable
  answers_writable b (asked ∷ words) h =
      All-cons IsWritable (answer_parts (answer_in b asked)) (map answer_parts (map (answer_in b) words)) (answer_writable b asked (All-head (IsWord rows) asked words h)) (answers_writable b words (All-tail (IsWord rows) asked words h))

  rest_writable : (b : QuestionBlock) → IsRead rows b → IsSoundBlock b → All IsWritable (rest_parts b (answers_to c d b))
  rest_writable b h s =
      All-cons IsWritable (codes "dn", printed_name b.base.name.0) (map answer_parts (answers_to c d b)) (name_line (codes "dn") b.base.name.0 refl (omega arith) s.base) (answers_writable b b.words h.words)

  fake_then : (fake : Bool) (rest : List Parts) → All IsWritable rest → All IsWritable (fake_parts fake ++ rest)
  fake_then false rest h = h
  fake_then true rest h = All-cons IsWritable (codes "fake", codes "true") rest fake_writable h

  requester_then : (requester : Option GivenName) (rest : List Parts) → IfSome requester (λ given. IsSoundName given.name.0 × (is_nobody given.text ≡ false)) → All IsWritable rest → All IsWritable (requester_parts requester ++ rest)
  requester_then None rest s h = h
  requester_then (Some given) rest s h = All-cons IsWritable (codes "authcDN", printed_name given.name.0) rest (name_line (codes "authcDN") given.name.0 refl (omega arith) s.0) h

  some_parts : (requester : Option GivenName) (fake : Bool) (first : Parts) (rest : List Parts) → is_empty (requester_parts requester ++ (fake_parts fake ++ first ∷ rest)) ≡ false
  some_parts (Some given) fake first rest = refl
  some_parts None true first rest = refl
  some_parts None false first rest = refl

  block_writable : (b : QuestionBlock) → IsRead rows b → IsSoundBlock b → IsWritableBlock (block_parts b (answers_to c d b))
  block_writable b h s = (some_parts b.requester b.fake _ _, requester_then b.requester _ s.requester (fake_then b.fake _ (rest_writable b h s)))

  blocks_writable : (blocks : List QuestionBlock) → All (IsRead rows) blocks → All IsSoundBlock blocks → All IsWritableBlock (all_parts c d blocks)
  blocks_writable [] h s = All-nil IsWritableBlock
  blocks_writable (b ∷ blocks) h s =
      All-cons IsWritableBlock (block_parts b (answers_to c d b)) (all_parts c d blocks) (block_writable b (All-head (IsRead rows) b blocks h) (All-head IsSoundBlock b blocks s))
      (blocks_writable blocks (All-tail (IsRead rows) b blocks h) (All-tail IsSoundBlock b blocks s))

-- ---- names, as they are printed

lower_equals : (b : ℕ) → (to_ascii_lowercase b == 61) ≡ (b == 61)
lower_equals b = grind (arith, nat_tests)

lower_has : (xs : List ℕ) → list_any (λ b. b == 61) (str_to_ascii_lowercase xs) ≡ list_any (λ b. b == 61) xs
lower_has [] = refl
lower_has (x ∷ xs) = rw (lower_equals x, lower_has xs) refl

joined_has : (separator : ℕ) (x : List ℕ) (xs : List (List ℕ)) → list_any (λ b. b == 61) x ≡ true → list_any (λ b. b == 61) (join_with_byte separator (x ∷ xs)) ≡ true
joined_has separator x [] h = h
joined_has separator x (y ∷ ys) h = list_any-append (λ b. b == 61) x (separator ∷ join_with_byte separator (y ∷ ys)) ∙ rw h refl

pair_has : (p : SpelledPair) → list_any (λ b. b == 61) (printed_pair p) ≡ true
pair_has p = list_any-append (λ b. b == 61) p.0 (61 ∷ printed_value p.1) ∙ or_right (list_any (λ b. b == 61) p.0) true refl

rdn_has : (rdn : SpelledRdn) → is_sound_rdn rdn ≡ true → list_any (λ b. b == 61) (printed_rdn rdn) ≡ true
rdn_has [] h = absurd (cc)
rdn_has (p ∷ ps) h = joined_has 43 (printed_pair p) (map printed_pair ps) (pair_has p)

name_has : (rdn : SpelledRdn) (rdns : SpelledName) → is_sound_name (rdn ∷ rdns) ≡ true → list_any (λ b. b == 61) (printed_name (rdn ∷ rdns)) ≡ true
name_has rdn rdns h = joined_has 44 (printed_rdn rdn) (map printed_rdn rdns) (rdn_has rdn (and_first (is_sound_rdn rdn) (is_sound_name rdns) h))

-- a text with `=` names somebody
somebody : (text : List ℕ) → list_any (λ b. b == 61) text ≡ true → is_nobody text ≡ false
somebody [] h = absurd (cc)
somebody (b ∷ bs) h = by (str_eq_ignore_ascii_case (b ∷ bs) (codes "anonymous")) refl
  where
    by : (same : Bool) → str_eq_ignore_ascii_case (b ∷ bs) (codes "anonymous") ≡ same → str_eq_ignore_ascii_case (b ∷ bs) (codes "anonymous") ≡ false
    by false same = same
    by true same =
        let lower : str_to_ascii_lowercase (b ∷ bs) ≡ str_to_ascii_lowercase (codes "anonymous") = (bytes_eq_decides (str_to_ascii_lowercase (b ∷ bs)) (str_to_ascii_lowercase (codes "anonymous"))).0 same in
        let none : list_any (λ b. b == 61) (b ∷ bs) ≡ false = sym (lower_has (b ∷ bs)) ∙ ap (list_any (λ b. b == 61)) lower in
        let never : true ≡ false = sym h ∙ none in
        absurd (cc)

-- only the empty text is the name without RDNs
pieces_some : (text : List ℕ) (escaped : Bool) → is_empty (pieces 44 escaped text) ≡ false
pieces_some [] escaped = refl
pieces_some (b ∷ bs) escaped = by (not escaped && b == 44) (pieces 44 (not escaped && b == 92) bs)
  where
    by : (cut : Bool) (rest : List (List ℕ)) → is_empty (cond cut ([] ∷ pieces 44 false bs) (onto_first b rest)) ≡ false
    by true rest = refl
    by false [] = refl
    by false (piece ∷ rest) = refl

collected_some : (texts : List (List ℕ)) → is_empty texts ≡ false → option_collect rdn_of texts ≡ Some [] → ⊥
collected_some [] h e = absurd (cc)
collected_some (text ∷ texts) h e = by (rdn_of text) (option_collect rdn_of texts) e
  where
    by : (rdn : Option SpelledRdn) (rdns : Option SpelledName) → option_cons rdn rdns ≡ Some [] → ⊥
    by None rdns e = cc
    by (Some rdn) None e = cc
    by (Some rdn) (Some rdns) e = cc

printed_somebody : (text : List ℕ) (name : SpelledName) → is_nobody text ≡ false → name_within_limits text ≡ Ok name → IsSoundName name → is_nobody (printed_name name) ≡ false
printed_somebody [] name n e s = absurd (cc)
printed_somebody (b ∷ bs) (rdn ∷ rdns) n e s = somebody (printed_name (rdn ∷ rdns)) (name_has rdn rdns s.0)
printed_somebody (b ∷ bs) [] n e s = absurd (collected_some (pieces 44 false (b ∷ bs)) (pieces_some (b ∷ bs) false) (within_some (name_of (b ∷ bs)) e))
  where
    within_some : (name : Option SpelledName) → ok_if_within is_within_limits name ≡ Ok [] → name ≡ Some []
    within_some None e = absurd (cc)
    within_some (Some name) e = by (is_within_limits name) e
      where
        by : (within : Bool) → cond within (Ok name) (Err NameLimit) ≡ Ok [] → Some name ≡ Some []
        by true e = ap Some (cc e)
        by false e = absurd (cc)

printed_named : (rows : List TypeRow) (given : GivenName) → IsNamed rows given → IsSoundName given.name.0 → named_key rows (printed_name given.name.0) ≡ Some given.name
printed_named rows given h s =
    let key = (named_within rows given.text given.name h).1 in
    ap (λ (r : Result SpelledName NameFault). option_and_then (λ name. option_map (λ key. (name, key)) (name_key rows name)) (result_ok r)) (name_back given.name.0 s) ∙ ap (option_map (λ key. (given.name.0, key))) key

-- ---- what is read again

abbrev AreReadAs : List Line → List Parts → Type 0
AreReadAs lines parts = map (λ (line : Line). attrval_of line.1) lines ≡ map (λ (p : Parts). Ok p) parts

parts_are : (line : Line) (p : Parts) → attrval_of line.1 ≡ Ok p → line_parts line ≡ Ok p
parts_are line p e = ap (λ (r : Result Parts RecordFault). at_line line.0 (as_cause r)) e

first_is : (name : List ℕ) (lines : List Line) (p : Parts) (parts : List Parts) → AreReadAs lines (p ∷ parts) → is_keyword p.0 name ≡ true
    → (n : ℕ) × (rest : List Line) × (optional_line name lines ≡ Ok (Some (n, p.1), rest)) × AreReadAs rest parts
first_is name [] p parts e is = absurd (cc)
first_is name (line ∷ lines) p parts e is =
    let here : attrval_of line.1 ≡ Ok p = cc e in
    let later : AreReadAs lines parts = cc e in (
      line.0,
      lines,
      ap (λ (r : Result Parts QuestionsFault). and_then r (λ parts. cond (is_keyword parts.0 name) (Ok (Some (line.0, parts.1), lines)) (Ok (None, line ∷ lines)))) (parts_are line p here) ∙ ap (λ b. cond b (Ok (Some (line.0, p.1), lines)) (Ok (None, line ∷ lines))) is,
      later,
    )

first_is_not : (name : List ℕ) (lines : List Line) (p : Parts) (parts : List Parts) → AreReadAs lines (p ∷ parts) → is_keyword p.0 name ≡ false → optional_line name lines ≡ Ok (None, lines)
first_is_not name [] p parts e is = absurd (cc)
first_is_not name (line ∷ lines) p parts e is =
    let here : attrval_of line.1 ≡ Ok p = cc e in
    ap (λ (r : Result Parts QuestionsFault). and_then r (λ parts. cond (is_keyword parts.0 name) (Ok (Some (line.0, parts.1), lines)) (Ok (None, line ∷ lines)))) (parts_are line p here) ∙ ap (λ b. cond b (Ok (Some (line.0, p.1), lines)) (Ok (None, line ∷ lines))) is

-- a word with its answer, read as one that expects it
abbrev asked_again : ℕ → Answered → AskedWord
asked_again n a = record { line = n; text = a.0.text; word = a.0.word; expected = a.1 }

-- the words of these lines: those that were answered, each with its answer expected
abbrev AreAskedAgain : List AskedWord → List Answered → Type 0
AreAskedAgain [] [] = Unit {0}
AreAskedAgain [] (a ∷ answers) = ⊥
AreAskedAgain (w ∷ words) [] = ⊥
AreAskedAgain (w ∷ words) (a ∷ answers) = (w.text ≡ a.0.text) × (w.word ≡ a.0.word) × (w.expected ≡ a.1) × AreAskedAgain words answers

pub record IsGoodAnswer (rows : List TypeRow) (a : Answered) : Type 0 where
  pub word : word_of rows a.0.text ≡ Some a.0.word
  pub free : is_reserved a.0.text ≡ false
  pub may : may_be_expected a.0.word a.1 ≡ true

word_back : (rows : List TypeRow) (line : Line) (a : Answered) → IsGoodAnswer rows a → attrval_of line.1 ≡ Ok (answer_parts a) → word_line rows line ≡ Ok (asked_again line.0 a)
word_back rows line a h e =
    ap (λ (r : Result Parts QuestionsFault). and_then r (λ parts. at_line line.0 (asked_word rows line.0 parts))) (parts_are line (answer_parts a) e)
    ∙ ap (λ b. at_line line.0 (cond b (Err BadBlock) (and_then (ok_or (word_of rows a.0.text) BadWord) (λ word. cond (may_be_expected word a.1) (Ok (record { line = line.0; text = a.0.text; word = word; expected = a.1 })) (Err BadAnswer))))) h.free
    ∙ ap (λ (w : Option Word). at_line line.0 (and_then (ok_or w BadWord) (λ word. cond (may_be_expected word a.1) (Ok (record { line = line.0; text = a.0.text; word = word; expected = a.1 })) (Err BadAnswer)))) h.word
    ∙ ap (λ b. at_line line.0 (cond b (Ok (asked_again line.0 a)) (Err BadAnswer))) h.may

words_back : (rows : List TypeRow) (lines : List Line) (answers : List Answered) → All (IsGoodAnswer rows) answers → AreReadAs lines (map answer_parts answers)
    → (words : List AskedWord) × (collect (word_line rows) lines ≡ Ok words) × AreAskedAgain words answers
words_back rows [] [] h e = ([], refl, tt)
words_back rows [] (a ∷ answers) h e = absurd (cc)
words_back rows (line ∷ lines) [] h e = absurd (cc)
words_back rows (line ∷ lines) (a ∷ answers) h e =
    let here : attrval_of line.1 ≡ Ok (answer_parts a) = cc e in
    let later : AreReadAs lines (map answer_parts answers) = cc e in
    let rest = words_back rows lines answers (All-tail (IsGoodAnswer rows) a answers h) later in (
      asked_again line.0 a ∷ rest.0,
      ap (λ (r : Result AskedWord QuestionsFault). and_then r (λ y. and_then (collect (word_line rows) lines) (λ ys. Ok (y ∷ ys)))) (word_back rows line a (All-head (IsGoodAnswer rows) a answers h) here)
          ∙ ap (λ (r : Result (List AskedWord) QuestionsFault). and_then r (λ ys. Ok (asked_again line.0 a ∷ ys))) rest.1,
      (refl, refl, refl, rest.2),
    )

-- ---- blocks

-- the name that is printed
abbrev printed : GivenName → GivenName
printed given = record { text = printed_name given.name.0; name = given.name }

given_back : (rows : List TypeRow) (n : ℕ) (given : GivenName) → IsNamed rows given → IsSoundName given.name.0 → given_name rows (n, printed_name given.name.0) ≡ Ok (printed given)
given_back rows n given h s =
    ap (λ (key : Option NamedKey). at_line n (ok_or (option_map (λ (name : NamedKey). record { text = printed_name given.name.0; name = name }) key) BadName)) (printed_named rows given h s)

requester_back : (rows : List TypeRow) (n : ℕ) (given : GivenName) → IsNamed rows given → IsSoundName given.name.0 → is_nobody given.text ≡ false → requester_in rows (Some (n, printed_name given.name.0)) ≡ Ok (Some (printed given))
requester_back rows n given h s other =
    ap (λ b. cond b (Ok None) (and_then (given_name rows (n, printed_name given.name.0)) (λ given. Ok (Some given)))) (printed_somebody given.text given.name.0 other (named_within rows given.text given.name h).0 s)
    ∙ ap (λ (r : Result GivenName QuestionsFault). and_then r (λ given. Ok (Some given))) (given_back rows n given h s)

module _ (rows : List TypeRow) (begin : ℕ) where
  -- the rest of a block, after its first lines
  abbrev with_words : Option GivenName → Bool → GivenName → List Line → Result QuestionBlock QuestionsFault
  with_words requester fake base lines = and_then (words_in rows begin lines) (λ words. Ok (record { requester = requester; fake = fake; base = base; words = words }))

  abbrev with_base : Option GivenName → Bool → List Line → Result QuestionBlock QuestionsFault
  with_base requester fake lines =
      and_then (optional_line (codes "dn") lines) (λ target.
      and_then (base_in rows begin target) (λ base.
      with_words requester fake base target.1))

  abbrev with_fake : Option GivenName → List Line → Result QuestionBlock QuestionsFault
  with_fake requester lines =
      and_then (optional_line (codes "fake") lines) (λ made_up.
      and_then (fake_in made_up.0) (λ fake.
      with_base requester fake made_up.1))

  words_in_back : (words : List AskedWord) (lines : List Line) → HasWord words → collect (word_line rows) lines ≡ Ok words → words_in rows begin lines ≡ Ok words
  words_in_back [] lines some e = absurd some
  words_in_back (w ∷ words) [] some e = absurd (cc)
  words_in_back (w ∷ words) (line ∷ lines) some e = e

  asked_some : (words : List AskedWord) (answers : List Answered) (asked : List AskedWord) → AreAskedAgain words answers → map (λ (a : Answered). a.0) answers ≡ asked → HasWord asked → HasWord words
  asked_some (w ∷ words) answers asked again e some = tt
  asked_some [] [] asked again e some = subst HasWord (sym e) some
  asked_some [] (a ∷ answers) asked again e some = absurd again

  -- a block that was read again
  abbrev IsAgain : QuestionBlock → List Answered → QuestionBlock → Type 0
  IsAgain b answers again =
      (option_map (λ (given : GivenName). given.name) again.requester ≡ option_map (λ (given : GivenName). given.name) b.requester) × (again.fake ≡ b.fake) × (again.base.name ≡ b.base.name) × AreAskedAgain again.words answers

  base_back : (b : QuestionBlock) (answers : List Answered) (requester : Option GivenName) (fake : Bool) (lines : List Line) → IsNamed rows b.base → IsSoundName b.base.name.0 → All (IsGoodAnswer rows) answers
      → map (λ (a : Answered). a.0) answers ≡ b.words → HasWord b.words → AreReadAs lines (rest_parts b answers)
      → (words : List AskedWord) × (with_base requester fake lines ≡ Ok (record { requester = requester; fake = fake; base = printed b.base; words = words })) × AreAskedAgain words answers
  base_back b answers requester fake lines h s good are some e =
      let first = first_is (codes "dn") lines (codes "dn", printed_name b.base.name.0) (map answer_parts answers) e refl in
      let words = words_back rows first.1 answers good first.3 in
      let all = words_in_back words.0 first.1 (asked_some words.0 answers b.words words.2 are some) words.1 in (
        words.0,
        ap (λ (r : Result (Option Numbered × List Line) QuestionsFault). and_then r (λ target. and_then (base_in rows begin target) (λ base. with_words requester fake base target.1))) first.2
            ∙ ap (λ (r : Result GivenName QuestionsFault). and_then r (λ base. with_words requester fake base first.1)) (given_back rows first.0 b.base h s)
            ∙ ap (λ (r : Result (List AskedWord) QuestionsFault). and_then r (λ words. Ok (record { requester = requester; fake = fake; base = printed b.base; words = words }))) all,
        words.2,
      )

  fake_back : (b : QuestionBlock) (answers : List Answered) (requester : Option GivenName) (fake : Bool) (lines : List Line) → IsNamed rows b.base → IsSoundName b.base.name.0 → All (IsGoodAnswer rows) answers
      → map (λ (a : Answered). a.0) answers ≡ b.words → HasWord b.words → AreReadAs lines (fake_parts fake ++ rest_parts b answers)
      → (words : List AskedWord) × (with_fake requester lines ≡ Ok (record { requester = requester; fake = fake; base = printed b.base; words = words })) × AreAskedAgain words answers
  fake_back b answers requester true lines h s good are some e =
      let first = first_is (codes "fake") lines (codes "fake", codes "true") (rest_parts b answers) e refl in
      let base = base_back b answers requester true first.1 h s good are some first.3 in (
        base.0,
        ap (λ (r : Result (Option Numbered × List Line) QuestionsFault). and_then r (λ made_up. and_then (fake_in made_up.0) (λ fake. with_base requester fake made_up.1))) first.2 ∙ base.1,
        base.2,
      )
  fake_back b answers requester false lines h s good are some e =
      let first = first_is_not (codes "fake") lines (codes "dn", printed_name b.base.name.0) (map answer_parts answers) e refl in
      let base = base_back b answers requester false lines h s good are some e in (
        base.0,
        ap (λ (r : Result (Option Numbered × List Line) QuestionsFault). and_then r (λ made_up. and_then (fake_in made_up.0) (λ fake. with_base requester fake made_up.1))) first ∙ base.1,
        base.2,
      )

  none_before : (fake : Bool) (b : QuestionBlock) (answers : List Answered) (lines : List Line) → AreReadAs lines (fake_parts fake ++ rest_parts b answers) → optional_line (codes "authcDN") lines ≡ Ok (None, lines)
  none_before true b answers lines e = first_is_not (codes "authcDN") lines (codes "fake", codes "true") (rest_parts b answers) e refl
  none_before false b answers lines e = first_is_not (codes "authcDN") lines (codes "dn", printed_name b.base.name.0) (map answer_parts answers) e refl

  block_back : (b : QuestionBlock) (answers : List Answered) (requester : Option GivenName) (lines : List Line) → IfSome requester (IsNamed rows) → IfSome requester (λ given. IsSoundName given.name.0 × (is_nobody given.text ≡ false))
      → IsNamed rows b.base → IsSoundName b.base.name.0 → All (IsGoodAnswer rows) answers → map (λ (a : Answered). a.0) answers ≡ b.words → HasWord b.words
      → AreReadAs lines (requester_parts requester ++ (fake_parts b.fake ++ rest_parts b answers))
      → (again : QuestionBlock) × (block_of rows begin lines ≡ Ok again) × (option_map (λ (given : GivenName). given.name) again.requester ≡ option_map (λ (given : GivenName). given.name) requester) × (again.fake ≡ b.fake) × (again.base.name ≡ b.base.name) × AreAskedAgain again.words answers
  block_back b answers None lines hr sr h s good are some e =
      let rest = fake_back b answers None b.fake lines h s good are some e in (
        record { requester = None; fake = b.fake; base = printed b.base; words = rest.0 },
        ap (λ (r : Result (Option Numbered × List Line) QuestionsFault). and_then r (λ who. and_then (requester_in rows who.0) (λ requester. with_fake requester who.1))) (none_before b.fake b answers lines e) ∙ rest.1,
        refl,
        refl,
        refl,
        rest.2,
      )
  block_back b answers (Some given) lines hr sr h s good are some e =
      let first = first_is (codes "authcDN") lines (codes "authcDN", printed_name given.name.0) (fake_parts b.fake ++ rest_parts b answers) e refl in
      let rest = fake_back b answers (Some (printed given)) b.fake first.1 h s good are some first.3 in (
        record { requester = Some (printed given); fake = b.fake; base = printed b.base; words = rest.0 },
        ap (λ (r : Result (Option Numbered × List Line) QuestionsFault). and_then r (λ who. and_then (requester_in rows who.0) (λ requester. with_fake requester who.1))) first.2
            ∙ ap (λ (r : Result (Option GivenName) QuestionsFault). and_then r (λ requester. with_fake requester first.1)) (requester_back rows first.0 given hr sr.0 sr.1) ∙ rest.1,
        refl,
        refl,
        refl,
        rest.2,
      )

-- ---- the same again

module _ (rows : List TypeRow) (c : Configuration) (d : Dir) where
  good_answer : (b : QuestionBlock) (asked : AskedWord) → IsWord rows asked → IsGoodAnswer rows (answer_in rows c d b asked)
  good_answer b asked h = record { word = h.word; free = h.free; may = (answer_is c d b (target_of b.fake d b.base.name.1) asked).may }

  good_answers : (b : QuestionBlock) (words : List AskedWord) → All (IsWord rows) words → All (IsGoodAnswer rows) (map (answer_in rows c d b) words)
  good_answers b [] h = All-nil (IsGoodAnswer rows)
  good_answers b (asked ∷ words) h =
      All-cons (IsGoodAnswer rows) (answer_in rows c d b asked) (map (answer_in rows c d b) words) (good_answer b asked (All-head (IsWord rows) asked words h)) (good_answers b words (All-tail (IsWord rows) asked words h))

  same_words : (b : QuestionBlock) (words : List AskedWord) → map (λ (a : Answered). a.0) (map (answer_in rows c d b) words) ≡ words
  same_words b [] = refl
  same_words b (asked ∷ words) = ap (λ ws. asked ∷ ws) (same_words b words)

  -- the words of a block that was read again have the answers that they expect
  answers_again : (b again : QuestionBlock) (words' words : List AskedWord)
      → ((asked : AskedWord) (w : AskedWord) → w.word ≡ asked.word → answer_on c d again (target_of again.fake d again.base.name.1) w ≡ answer_on c d b (target_of b.fake d b.base.name.1) asked)
      → AreAskedAgain words' (map (answer_in rows c d b) words)
      → (map (λ (w : AskedWord). w.expected) words' ≡ map (λ (a : Answered). a.1) (map (answer_in rows c d b) words))
      × (map (λ (a : Answered). a.1) (map (answer_in rows c d again) words') ≡ map (λ (a : Answered). a.1) (map (answer_in rows c d b) words))
      × (flat_map answered_line (map (answer_in rows c d again) words') ≡ flat_map answered_line (map (answer_in rows c d b) words))
  answers_again b again [] [] same h = (refl, refl, refl)
  answers_again b again [] (asked ∷ words) same h = absurd h
  answers_again b again (w ∷ words') [] same h = absurd h
  answers_again b again (w ∷ words') (asked ∷ words) same h =
      let rest = answers_again b again words' words same h.3 in
      let here = same asked w h.1 in
      let text : w.text ≡ asked.text = h.0 in
      let expects : w.expected ≡ (answer_in rows c d b asked).1 = h.2 in (
        ap (λ t. t ∷ map (λ (w : AskedWord). w.expected) words') expects ∙ ap (λ ts. (answer_in rows c d b asked).1 ∷ ts) rest.0,
        ap (λ t. t ∷ map (λ (a : Answered). a.1) (map (answer_in rows c d again) words')) here ∙ ap (λ ts. (answer_in rows c d b asked).1 ∷ ts) rest.1,
        ap (λ t. written_line w.text t ++ flat_map answered_line (map (answer_in rows c d again) words')) here
            ∙ ap (λ t. written_line t (answer_in rows c d b asked).1 ++ flat_map answered_line (map (answer_in rows c d again) words')) text
            ∙ ap (λ t. answered_line (answer_in rows c d b asked) ++ t) rest.2,
      )

  -- an answer depends on the names, and on whether the entry is made up
  abbrev answer_by : QuestionParts → Result (Option Content) ToolFault → Word → List ℕ
  answer_by parts (Ok target) word = answer_text word.access (held_by c d (request_for parts target word.asked))
  answer_by parts (Err why) word = no_such_entry

  by_parts : (b : QuestionBlock) (target : Result (Option Content) ToolFault) (asked : AskedWord) (parts : QuestionParts) → parts.base ≡ b.base.name.1 → parts.requester ≡ option_map (λ (given : GivenName). given.name) b.requester
      → answer_on c d b target asked ≡ answer_by parts target asked.word
  by_parts b (Err why) asked parts base requester = refl
  by_parts b (Ok target) asked parts base requester =
      ap (λ (key : DnKeys). answer_text asked.word.access (held_by c d (record { requester = option_map (λ (r : NamedKey). r.1) (option_map (λ (given : GivenName). given.name) b.requester); target = key; attributes = attributes_of target; asked = asked.word.asked }))) (sym base)
      ∙ ap (λ (r : Option NamedKey). answer_text asked.word.access (held_by c d (record { requester = option_map (λ (r : NamedKey). r.1) r; target = parts.base; attributes = attributes_of target; asked = asked.word.asked }))) (sym requester)

  same_answer : (b again : QuestionBlock) → option_map (λ (given : GivenName). given.name) again.requester ≡ option_map (λ (given : GivenName). given.name) b.requester → again.fake ≡ b.fake → again.base.name ≡ b.base.name
      → (asked : AskedWord) (w : AskedWord) → w.word ≡ asked.word → answer_on c d again (target_of again.fake d again.base.name.1) w ≡ answer_on c d b (target_of b.fake d b.base.name.1) asked
  same_answer b again requester fake base asked w word =
      let parts : QuestionParts = parts_of_block b in
      let key : again.base.name.1 ≡ b.base.name.1 = ap (λ (n : NamedKey). n.1) base in
      by_parts again (target_of again.fake d again.base.name.1) w parts (sym key) (sym requester)
      ∙ ap (λ (f : Bool). answer_by parts (target_of f d again.base.name.1) w.word) fake
      ∙ ap (λ (k : DnKeys). answer_by parts (target_of b.fake d k) w.word) key
      ∙ ap (λ (word : Word). answer_by parts (target_of b.fake d b.base.name.1) word) word
      ∙ sym (by_parts b (target_of b.fake d b.base.name.1) asked parts refl refl)

  same_requester : (r s : Option GivenName) → option_map (λ (given : GivenName). given.name) r ≡ option_map (λ (given : GivenName). given.name) s → requester_line r ≡ requester_line s
  same_requester None None e = refl
  same_requester None (Some given) e = absurd (cc)
  same_requester (Some given) None e = absurd (cc)
  same_requester (Some given) (Some other) e =
      let same : given.name ≡ other.name = cc e in
      ap (named_line (codes "authcDN")) same

  same_block : (b again : QuestionBlock) (answers answers' : List Answered) → option_map (λ (given : GivenName). given.name) again.requester ≡ option_map (λ (given : GivenName). given.name) b.requester → again.fake ≡ b.fake → again.base.name ≡ b.base.name
      → flat_map answered_line answers' ≡ flat_map answered_line answers → block_text again answers' ≡ block_text b answers
  same_block b again answers answers' requester fake base words =
      ap (λ t. t ++ fake_line again.fake ++ named_line (codes "dn") again.base.name ++ flat_map answered_line answers' ++ codes "\n") (same_requester again.requester b.requester requester)
      ∙ ap (λ f. requester_line b.requester ++ fake_line f ++ named_line (codes "dn") again.base.name ++ flat_map answered_line answers' ++ codes "\n") fake
      ∙ ap (λ n. requester_line b.requester ++ fake_line b.fake ++ named_line (codes "dn") n ++ flat_map answered_line answers' ++ codes "\n") base
      ∙ ap (λ w. requester_line b.requester ++ fake_line b.fake ++ named_line (codes "dn") b.base.name ++ w ++ codes "\n") words

  blocks_back : (blocks : List QuestionBlock) (found : List (List Line)) → All (IsRead rows) blocks → All IsSoundBlock blocks
      → map parts_of (all_blocks found) ≡ map (λ (block : List Parts). Ok (map (λ (line : Parts). Ok line) block)) (all_parts c d blocks)
      → (again : List QuestionBlock) × (collect (read_block rows) found ≡ Ok again) × (map expected_in again ≡ map (answered_in c d) blocks) × (map (answered_in c d) again ≡ map (answered_in c d) blocks)
      × (written_questions c d again ≡ written_questions c d blocks)
  blocks_back [] [] h s e = ([], refl, refl, refl, refl)
  blocks_back [] (lines ∷ found) h s e = absurd (cc)
  blocks_back (b ∷ blocks) [] h s e = absurd (cc)
  blocks_back (b ∷ blocks) (lines ∷ found) h s e =
      let read = All-head (IsRead rows) b blocks h in
      let sound = All-head IsSoundBlock b blocks s in
      let here : AreReadAs lines (block_parts b (answers_to c d b)) = cc e in
      let later : map parts_of (all_blocks found) ≡ map (λ (block : List Parts). Ok (map (λ (line : Parts). Ok line) block)) (all_parts c d blocks) = cc e in
      let rest = blocks_back blocks found (All-tail (IsRead rows) b blocks h) (All-tail IsSoundBlock b blocks s) later in
      let first = block_back rows (line_of_first 0 lines) b (answers_to c d b) b.requester lines read.requester sound.requester read.base sound.base (good_answers b b.words read.words) (same_words b b.words) read.some here in
      let answers = answers_again b first.0 first.0.words b.words (same_answer b first.0 first.2 first.3 first.4) first.5 in (
        first.0 ∷ rest.0,
        ap (λ (r : Result QuestionBlock QuestionsFault). and_then r (λ y. and_then (collect (read_block rows) found) (λ ys. Ok (y ∷ ys)))) first.1
            ∙ ap (λ (r : Result (List QuestionBlock) QuestionsFault). and_then r (λ ys. Ok (first.0 ∷ ys))) rest.1,
        ap (λ t. t ∷ map expected_in rest.0) answers.0 ∙ ap (λ ts. answered_in c d b ∷ ts) rest.2,
        ap (λ t. t ∷ map (answered_in c d) rest.0) answers.1 ∙ ap (λ ts. answered_in c d b ∷ ts) rest.3,
        ap (λ t. t ++ written_questions c d rest.0) (same_block b first.0 (answers_to c d b) (answers_to c d first.0) first.2 first.3 first.4 answers.2)
            ∙ ap (λ t. block_text b (answers_to c d b) ++ t) rest.4,
      )

-- blocks that read without a fault are blocks of lines
all_ok : (blocks : List BlockResult) (parts : List (List Parts)) → map parts_of blocks ≡ map (λ (block : List Parts). Ok (map (λ (line : Parts). Ok line) block)) parts → (found : List (List Line)) × (blocks ≡ all_blocks found)
all_ok [] parts e = ([], refl)
all_ok (Ok lines ∷ blocks) [] e = absurd (cc)
all_ok (Err why ∷ blocks) [] e = absurd (cc)
all_ok (Err why ∷ blocks) (p ∷ parts) e = absurd (cc)
all_ok (Ok lines ∷ blocks) (p ∷ parts) e =
    let later : map parts_of blocks ≡ map (λ (block : List Parts). Ok (map (λ (line : Parts). Ok line) block)) parts = cc e in
    let rest = all_ok blocks parts later in
    (lines ∷ rest.0, ap (λ bs. Ok lines ∷ bs) rest.1)

pub answers_are_fixed : AnswersAreFixed
answers_are_fixed rows c d text blocks bytes asked short =
    let read = blocks-ok rows text blocks asked in
    let sound = blocks-sound rows text blocks bytes asked in
    let written = written_questions c d blocks in
    let back = (written_blocks-read (all_parts c d blocks) (blocks_writable rows c d blocks read sound)).1 (no_version c d blocks) in
    let reads = subst (λ t. map parts_of (blocks_of t) ≡ map (λ (block : List Parts). Ok (map (λ (line : Parts). Ok line) block)) (all_parts c d blocks)) (as_blocks c d blocks) back in
    let found = all_ok (blocks_of written) (all_parts c d blocks) reads in
    let again = blocks_back rows c d blocks found.0 read sound (sym (ap (map parts_of) found.1) ∙ reads) in
    record { again = again.0; reads = are_lines rows written found.0 short found.1 ∙ again.1; expects = again.2; answered = again.3; same = again.4 }
