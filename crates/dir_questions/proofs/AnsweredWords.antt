-- The words of questions and their answers, as lines that can be written.
use Rattle.std.proofs.Common.{◌≡◌, ℕ, ◌+◌, ◌≤◌, Bool, true, false, not, cond, ◌&&◌, ◌||◌, List, [], ◌∷◌, ◌++◌, length, codes, Option, None, Some, Result, Ok, Err, refl, sym, ap, subst, ◌∙◌, arith, eqb}
use Rattle.std.specs.Prelude.{◌==◌, nat_lt, option_map, option_and_then, is_some}
use Rattle.std.specs.Char.{to_ascii_lowercase}
use Rattle.std.specs.Result.{result_ok}
use Rattle.std.specs.List.{after_first, before_first, list_all, list_any, position_or_len}
use Rattle.std.specs.Str.{str_eq_ignore_ascii_case, str_to_ascii_lowercase}
use Rattle.std.proofs.lemmas.Bool.{ltb-false, ltb-true}
use Rattle.std.proofs.lemmas.Bool.Decides.{nat_tests}
use Rattle.std.proofs.lemmas.List.{length-append, take_all}
use Rattle.std.proofs.lemmas.List.Folds.{list_any-append}
use Rattle.dir_names.specs.Ascii.{colon, sharp, space}
use Rattle.dir_names.specs.Cut.{after_first_separator}
use Rattle.dir_names.specs.Described.{Described}
use Rattle.dir_names.specs.Descriptions.{description_of}
use Rattle.dir_names.specs.Orders.{bytes_eq_decides}
use Rattle.dir_names.specs.ValueKeys.{is_ascii}
use Rattle.dir_names.specs.declared.fault.NameFault.{NameFault}
use Rattle.dir_names.specs.declared.schema.TypeRow.{TypeRow}
use Rattle.dir_ldif.specs.Bytes.{is_empty}
use Rattle.dir_ldif.specs.RoundTrip.{ends_name}
use Rattle.dir_ldif.specs.WrittenBlocks.{is_line_name}
use Rattle.dir_ldif.proofs.FoldedLines.{or_first, or_second}
use Rattle.dir_ldif.proofs.Spellings.{IsSpelling, is_spelled, or_right, spelled-allowed, spelling_of}
use Rattle.dir_ldif.proofs.WrittenLines.{and_first, and_second, both}
use Rattle.dir_acl.specs.declared.access.Asked.{Asked}
use Rattle.dir_acl.specs.declared.access.Asked.TheVariants as asked
use Rattle.dir_acl.specs.declared.privileges.Level.{Level}
use Rattle.dir_acl.specs.declared.privileges.Privileges.{Privileges}
use Rattle.dir_acl.specs.Privileges.{is_allowed, is_none, letter_if, level_of, privileges_text}
use Rattle.dir_acl.proofs.PrivilegeTexts.{text_reads_back}
use Rattle.dir_acl.specs.Rules.{Configuration}
use Rattle.dir_tree.specs.Content.{Content}
use Rattle.dir_tree.specs.Dir.{Dir}
use Rattle.dir_tools.specs.declared.fault.ToolFault.{ToolFault}
use Rattle.dir_tools.specs.AccessReport.{Word, access_of, answer_text, asked_of, held_by, request_for, slash, verdict, without_value, word_at, word_of}
use Rattle.dir_questions.specs.Answers.{answer_on, parts_of_block}
use Rattle.dir_questions.specs.Questions.{AskedWord, QuestionBlock, is_answer, may_be_expected}
use Rattle.dir_questions.proofs.AnswersLaw.{all_before, both_parts}

-- ---- clean texts

-- a byte that can't begin or be in a name of a line
abbrev pub is_bad : ℕ → Bool
is_bad b = (ends_name b || b == space) || b == sharp

pub record IsClean (text : List ℕ) : Type 0 where
  pub bytes : list_any is_bad text ≡ false
  pub some : is_empty text ≡ false
  pub short : length text ≤ 512

bad_first : (b : ℕ) → is_bad b ≡ false → (ends_name b ≡ false) × (eqb b 32 ≡ false) × (eqb b 35 ≡ false)
bad_first b e =
    let left = or_first (ends_name b || b == space) (b == sharp) e in
    (or_first (ends_name b) (b == space) left, or_second (ends_name b) (b == space) left, or_second (ends_name b || b == space) (b == sharp) e)

none_ends : (text : List ℕ) → list_any is_bad text ≡ false → list_any ends_name text ≡ false
none_ends [] e = refl
none_ends (b ∷ text) e =
    let here : ends_name b ≡ false = (bad_first b (or_first (is_bad b) (list_any is_bad text) e)).0 in
    rw (here, none_ends text (or_second (is_bad b) (list_any is_bad text) e)) refl

pub line_name : (text : List ℕ) → is_empty text ≡ false → list_any is_bad text ≡ false → is_line_name text ≡ true
line_name [] some e = cc
line_name (b ∷ text) some e =
    let first = bad_first b (or_first (is_bad b) (list_any is_bad text) e) in
    let ends : list_any ends_name (b ∷ text) ≡ false = none_ends (b ∷ text) e in
    both _ _ (both _ _ (ap not first.1) (ap not first.2)) (ap not ends)

-- ---- words in any case

lower_bad : (b : ℕ) → is_bad (to_ascii_lowercase b) ≡ is_bad b
lower_bad b = grind (arith, nat_tests)

lower_any : (xs : List ℕ) → list_any is_bad (str_to_ascii_lowercase xs) ≡ list_any is_bad xs
lower_any [] = refl
lower_any (x ∷ xs) = rw (lower_bad x, lower_any xs) refl

lower_length : (xs : List ℕ) → length (str_to_ascii_lowercase xs) ≡ length xs
lower_length [] = refl
lower_length (x ∷ xs) = rw (lower_length xs) refl

lower_empty : (xs : List ℕ) → is_empty (str_to_ascii_lowercase xs) ≡ is_empty xs
lower_empty [] = refl
lower_empty (x ∷ xs) = refl

keyword_clean : (text word : List ℕ) → IsClean word → str_eq_ignore_ascii_case text word ≡ true → IsClean text
keyword_clean text word h e =
    let same : str_to_ascii_lowercase text ≡ str_to_ascii_lowercase word = (bytes_eq_decides (str_to_ascii_lowercase text) (str_to_ascii_lowercase word)).0 e in
    let long : length text ≡ length word = sym (lower_length text) ∙ ap length same ∙ lower_length word in
    record {
      bytes = sym (lower_any text) ∙ ap (list_any is_bad) same ∙ lower_any word ∙ h.bytes;
      some = sym (lower_empty text) ∙ ap is_empty same ∙ lower_empty word ∙ h.some;
      short = subst (λ n. n ≤ 512) (sym long) h.short;
    }

-- one keyword of several
or_keyword : {A : Type 0} (text word : List ℕ) (x : A) (rest : Option A) (found : A) → IsClean word → (rest ≡ Some found → IsClean text)
    → cond (str_eq_ignore_ascii_case text word) (Some x) rest ≡ Some found → IsClean text
or_keyword text word x rest found h later e = by (str_eq_ignore_ascii_case text word) refl e
  where
    by : (same : Bool) → str_eq_ignore_ascii_case text word ≡ same → cond same (Some x) rest ≡ Some found → IsClean text
    by true same e = keyword_clean text word h same
    by false same e = later e

level_clean : (text : List ℕ) (level : Level) → level_of text ≡ Some level → IsClean text
level_clean text level e =
    or_keyword text (codes "none") _ _ level (record { bytes = refl; some = refl; short = omega arith })
    (or_keyword text (codes "disclose") _ _ level (record { bytes = refl; some = refl; short = omega arith })
    (or_keyword text (codes "auth") _ _ level (record { bytes = refl; some = refl; short = omega arith })
    (or_keyword text (codes "compare") _ _ level (record { bytes = refl; some = refl; short = omega arith })
    (or_keyword text (codes "search") _ _ level (record { bytes = refl; some = refl; short = omega arith })
    (or_keyword text (codes "read") _ _ level (record { bytes = refl; some = refl; short = omega arith })
    (or_keyword text (codes "write") _ _ level (record { bytes = refl; some = refl; short = omega arith })
    (or_keyword text (codes "add") _ _ level (record { bytes = refl; some = refl; short = omega arith })
    (or_keyword text (codes "delete") _ _ level (record { bytes = refl; some = refl; short = omega arith })
    (or_keyword text (codes "manage") _ _ level (record { bytes = refl; some = refl; short = omega arith })
    (λ none. absurd (cc)))))))))))
    e

-- ---- what is asked for

spelled_clean : (text : List ℕ) → IsSpelling text → IsClean text
spelled_clean text h = record { bytes = none text h.0; some = h.1; short = h.2 }
  where
    none : (text : List ℕ) → list_all is_spelled text ≡ true → list_any is_bad text ≡ false
    none [] e = refl
    none (x ∷ xs) e =
        let free = spelled-allowed x (and_first (is_spelled x) (list_all is_spelled xs) e) in
        rw (free.0, free.1, free.2, none xs (and_second (is_spelled x) (list_all is_spelled xs) e)) refl

asked_clean : (rows : List TypeRow) (text : List ℕ) (found : Asked) → asked_of rows text ≡ Some found → IsClean text
asked_clean rows text found e =
    or_keyword text (codes "entry") _ _ found (record { bytes = refl; some = refl; short = omega arith })
    (or_keyword text (codes "children") _ _ found (record { bytes = refl; some = refl; short = omega arith }) (by (description_of rows text) refl))
    e
  where
    by : (described : Result Described NameFault) → description_of rows text ≡ described → option_map (λ description. asked.Attribute description.key) (result_ok described) ≡ Some found → IsClean text
    by (Ok described) is e = spelled_clean text (spelling_of rows text described is)
    by (Err why) is e = absurd (cc)

-- ---- words

pub record IsLineName (text : List ℕ) : Type 0 where
  pub name : is_line_name text ≡ true
  pub short : length text ≤ 1025

alone : (text : List ℕ) → IsClean text → IsLineName text
alone text h = record { name = line_name text h.some h.bytes; short = omega (arith, h.short) }

joined_some : (a b : List ℕ) → is_empty a ≡ false → is_empty (a ++ b) ≡ false
joined_some [] b e = cc
joined_some (x ∷ a) b e = refl

with_access : (attr access : List ℕ) → IsClean attr → IsClean access → IsLineName (attr ++ slash ∷ access)
with_access attr access h k = record {
  name = line_name (attr ++ slash ∷ access) (joined_some attr (slash ∷ access) h.some) (list_any-append is_bad attr (slash ∷ access) ∙ rw (h.bytes, k.bytes) refl);
  short = omega (arith, length-append attr (slash ∷ access), h.short, k.short);
}

at_asked : (rows : List TypeRow) (attr : List ℕ) (access : Option (List ℕ)) (word : Word) → word_at rows attr access ≡ Some word → (found : Asked) × (level : Option (List ℕ × Level)) × (asked_of rows attr ≡ Some found) × (access_of access ≡ Some level)
at_asked rows attr access word e = by (asked_of rows attr) (access_of access) e
  where
    by : (asked : Option Asked) (level : Option (Option (List ℕ × Level))) → option_and_then (λ asked. option_map (λ level. record { attr = attr; asked = asked; access = level }) level) asked ≡ Some word
        → (found : Asked) × (access : Option (List ℕ × Level)) × (asked ≡ Some found) × (level ≡ Some access)
    by None level e = absurd (cc)
    by (Some asked) None e = absurd (cc)
    by (Some asked) (Some level) e = (asked, level, refl, refl)

access_clean : (text : List ℕ) (level : Option (List ℕ × Level)) → access_of (Some text) ≡ Some level → IsClean text
access_clean text level e = by (level_of text) refl e
  where
    by : (found : Option Level) → level_of text ≡ found → option_map (λ level. Some (text, level)) found ≡ Some level → IsClean text
    by None is e = absurd (cc)
    by (Some found) is e = level_clean text found is

pub word_named : (rows : List TypeRow) (text : List ℕ) (word : Word) → list_any (λ b. b == colon) text ≡ false → word_of rows text ≡ Some word → IsLineName text
word_named rows text word none e =
    let whole : without_value text ≡ text = all_before colon text none in
    cut (sym (ap (λ t. word_at rows (before_first (λ b. b == slash) t) (after_first_separator slash t)) whole) ∙ e)
  where
    cut : word_at rows (before_first (λ b. b == slash) text) (after_first_separator slash text) ≡ Some word → IsLineName text
    cut e = by (nat_lt (position_or_len (λ b. b == slash) text) (length text)) refl e
      where
        by : (lt : Bool) → nat_lt (position_or_len (λ b. b == slash) text) (length text) ≡ lt → word_at rows (before_first (λ b. b == slash) text) (cond lt (Some (after_first (λ b. b == slash) text)) None) ≡ Some word → IsLineName text
        by true lt e =
            let parts = at_asked rows (before_first (λ b. b == slash) text) (Some (after_first (λ b. b == slash) text)) word e in
            subst IsLineName (both_parts slash text (ltb-true _ _ lt))
            (with_access (before_first (λ b. b == slash) text) (after_first (λ b. b == slash) text) (asked_clean rows _ parts.0 parts.2) (access_clean _ parts.1 parts.3))
        by false lt e =
            let parts = at_asked rows (before_first (λ b. b == slash) text) None word e in
            subst IsLineName (take_all (position_or_len (λ b. b == slash) text) text (ltb-false _ _ lt)) (alone (before_first (λ b. b == slash) text) (asked_clean rows _ parts.0 parts.2))

-- ---- answers

pub record IsAnswer (word : Word) (text : List ℕ) : Type 0 where
  pub may : may_be_expected word text ≡ true
  pub ascii : is_ascii text ≡ true
  pub short : length text ≤ 1000

may : (word : Word) (text : List ℕ) → is_answer (is_some word.access) text ≡ true → may_be_expected word text ≡ true
may word [] h = refl
may word (b ∷ bs) h = or_right _ (is_answer (is_some word.access) (b ∷ bs)) h

ascii_joined : (a b : List ℕ) → is_ascii a ≡ true → is_ascii b ≡ true → is_ascii (a ++ b) ≡ true
ascii_joined [] b ha hb = hb
ascii_joined (x ∷ a) b ha hb = both _ _ (and_first (nat_lt x 128) (is_ascii a) ha) (ascii_joined a b (and_second (nat_lt x 128) (is_ascii a) ha) hb)

abbrev IsShort : ℕ → List ℕ → Type 0
IsShort n text = (is_ascii text ≡ true) × (length text ≤ n)

letter : (b : Bool) (l : ℕ) → nat_lt l 128 ≡ true → IsShort 1 (letter_if b l)
letter true l h = (both _ _ h refl, omega arith)
letter false l h = (refl, omega arith)

more : (n : ℕ) (text : List ℕ) (b : Bool) (l : ℕ) → nat_lt l 128 ≡ true → IsShort n text → IsShort (n + 1) (text ++ letter_if b l)
more n text b l h k =
    let here = letter b l h in
    (ascii_joined text (letter_if b l) k.0 here.0, omega (arith, length-append text (letter_if b l), k.1, here.1))

set_short : (set : Privileges) → IsShort 11 (privileges_text set)
set_short set =
    let t0 : List ℕ = 61 ∷ [] in
    let s0 : IsShort 1 t0 = (refl, omega arith) in
    let t1 : List ℕ = t0 ++ letter_if set.manage 109 in
    let s1 : IsShort 2 t1 = more 1 t0 set.manage 109 refl s0 in
    let t2 : List ℕ = t1 ++ letter_if (set.add && set.delete) 119 in
    let s2 : IsShort 3 t2 = more 2 t1 (set.add && set.delete) 119 refl s1 in
    let t3 : List ℕ = t2 ++ letter_if (set.add && not set.delete) 97 in
    let s3 : IsShort 4 t3 = more 3 t2 (set.add && not set.delete) 97 refl s2 in
    let t4 : List ℕ = t3 ++ letter_if (set.delete && not set.add) 122 in
    let s4 : IsShort 5 t4 = more 4 t3 (set.delete && not set.add) 122 refl s3 in
    let t5 : List ℕ = t4 ++ letter_if set.read 114 in
    let s5 : IsShort 6 t5 = more 5 t4 set.read 114 refl s4 in
    let t6 : List ℕ = t5 ++ letter_if set.search 115 in
    let s6 : IsShort 7 t6 = more 6 t5 set.search 115 refl s5 in
    let t7 : List ℕ = t6 ++ letter_if set.compare 99 in
    let s7 : IsShort 8 t7 = more 7 t6 set.compare 99 refl s6 in
    let t8 : List ℕ = t7 ++ letter_if set.auth 120 in
    let s8 : IsShort 9 t8 = more 8 t7 set.auth 120 refl s7 in
    let t9 : List ℕ = t8 ++ letter_if set.disclose 100 in
    let s9 : IsShort 10 t9 = more 9 t8 set.disclose 100 refl s8 in
    more 10 t9 (is_none set) 48 refl s9

verdict_is : (allowed : Bool) → (is_answer true (verdict allowed) ≡ true) × (is_ascii (verdict allowed) ≡ true) × (length (verdict allowed) ≤ 1000)
verdict_is true = (refl, refl, omega arith)
verdict_is false = (refl, refl, omega arith)

text_is : (access : Option (List ℕ × Level)) (held : Privileges) → (is_answer (is_some access) (answer_text access held) ≡ true) × (is_ascii (answer_text access held) ≡ true) × (length (answer_text access held) ≤ 1000)
text_is None held = (ap is_some (text_reads_back held), (set_short held).0, omega (arith, (set_short held).1))
text_is (Some (text, level)) held = verdict_is (is_allowed held level)

pub answer_is : (c : Configuration) (d : Dir) (b : QuestionBlock) (target : Result (Option Content) ToolFault) (asked : AskedWord) → IsAnswer asked.word (answer_on c d b target asked)
answer_is c d b (Err why) asked = record { may = refl; ascii = refl; short = omega arith }
answer_is c d b (Ok target) asked =
    let is = text_is asked.word.access (held_by c d (request_for (parts_of_block b) target asked.word.asked)) in
    record { may = may asked.word _ is.0; ascii = is.1; short = is.2 }
