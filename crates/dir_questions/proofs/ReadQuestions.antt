-- What holds of each block of questions that was read.
use Rattle.std.proofs.Common.{◌≡◌, ℕ, Bool, true, false, cond, List, [], ◌∷◌, length, codes, Option, None, Some, option_map, ok_or, IfSome, Result, Ok, Err, refl, sym, ap, subst, ◌∙◌}
use Rattle.std.specs.Prelude.{◌==◌, nat_lt}
use Rattle.std.specs.List.{All, list_any}
use Rattle.std.proofs.lemmas.List.Elements.{All-cons, All-nil}
use Rattle.dir_names.specs.Ascii.{colon}
use Rattle.dir_names.specs.Results.{and_then}
use Rattle.dir_names.specs.declared.schema.TypeRow.{TypeRow}
use Rattle.dir_ldif.specs.AttrVal.{attrval_from, attrval_of, value_of, within_limit}
use Rattle.dir_ldif.specs.Blocks.{blocks_of}
use Rattle.dir_ldif.specs.Bytes.{cut_at}
use Rattle.dir_ldif.specs.LogicalLines.{Line}
use Rattle.dir_ldif.specs.declared.faults.RecordFault.{RecordFault}
use Rattle.dir_ldif.specs.declared.faults.RecordFault.TheVariants as no_line
use Rattle.dir_ldif.proofs.AttrValLemmas.{attrval_of-cut, attrval_of-none}
use Rattle.dir_ldif.proofs.BytesLemmas.{cut_at-text}
use Rattle.dir_tools.specs.AccessReport.{NamedKey, Word, named_key, word_of}
use Rattle.dir_questions.specs.declared.fault.QuestionCause.{QuestionCause}
use Rattle.dir_questions.specs.declared.fault.QuestionCause.TheVariants.{BadBlock, BadName, BadWord, BadAnswer}
use Rattle.dir_questions.specs.declared.fault.QuestionsFault.TheVariants as fault
use Rattle.dir_questions.specs.Questions.{AskedWord, GivenName, Numbered, QuestionBlock, as_cause, asked_word, at_line, base_in, block_of, collect, fake_in, given_name, is_nobody, is_reserved, line_parts, may_be_expected, optional_line, question_blocks, read_block, read_lines, requester_in, whole_text, word_line, words_in}

-- ---- what is said of them

abbrev pub IsNamed : List TypeRow → GivenName → Type 0
IsNamed rows given = named_key rows given.text ≡ Some given.name

pub record IsWord (rows : List TypeRow) (asked : AskedWord) : Type 0 where
  pub word : word_of rows asked.text ≡ Some asked.word
  pub expected : may_be_expected asked.word asked.expected ≡ true
  pub free : is_reserved asked.text ≡ false
  pub name : list_any (λ b. b == colon) asked.text ≡ false

-- one word or more
abbrev pub HasWord : List AskedWord → Type 0
HasWord [] = ⊥
HasWord (word ∷ words) = Unit {0}

pub record IsRead (rows : List TypeRow) (b : QuestionBlock) : Type 0 where
  pub requester : IfSome b.requester (IsNamed rows)
  pub base : IsNamed rows b.base
  pub some : HasWord b.words
  pub words : All (IsWord rows) b.words

-- ---- steps

pub inverted : {A B E : Type 0} (r : Result A E) (f : A → Result B E) (y : B) → and_then r f ≡ Ok y → (x : A) × (r ≡ Ok x) × (f x ≡ Ok y)
inverted (Ok x) f y e = (x, refl, e)
inverted (Err why) f y e = absurd (cc)

pub collected : {A B E : Type 0} (f : A → Result B E) (P : B → Type 0) → ((x : A) (y : B) → f x ≡ Ok y → P y) → (xs : List A) (ys : List B) → collect f xs ≡ Ok ys → All P ys
collected f P p [] ys e =
    let is : [] ≡ ys = cc e in
    subst (All P) is (All-nil P)
collected f P p (x ∷ xs) ys e =
    let y = inverted (f x) (λ y. and_then (collect f xs) (λ ys. Ok (y ∷ ys))) ys e in
    let rest = inverted (collect f xs) (λ ys. Ok (y.0 ∷ ys)) ys y.2 in
    let is : y.0 ∷ rest.0 ≡ ys = cc rest.2 in
    subst (All P) is (All-cons P y.0 rest.0 (p x y.0 y.1) (collected f P p xs rest.0 rest.1))

pub at_line-ok : {A : Type 0} (n : ℕ) (r : Result A QuestionCause) (x : A) → at_line n r ≡ Ok x → r ≡ Ok x
at_line-ok n (Ok y) x e = ap Ok (cc e)
at_line-ok n (Err why) x e = absurd (cc)

pub as_cause-ok : {A : Type 0} (r : Result A RecordFault) (x : A) → as_cause r ≡ Ok x → r ≡ Ok x
as_cause-ok (Ok y) x e = ap Ok (cc e)
as_cause-ok (Err why) x e = absurd (cc)

-- ---- lines

-- the name of a line has no colon
name_from : (name rest : List ℕ) (parts : List ℕ × List ℕ) → attrval_from name rest ≡ Ok parts → name ≡ parts.0
name_from [] rest parts e = absurd (cc)
name_from (b ∷ name) rest parts e =
    let value = inverted (and_then (value_of rest) within_limit) (λ value. Ok (b ∷ name, value)) parts e in
    let is : (b ∷ name, value.0) ≡ parts = cc value.2 in
    ap (λ (p : List ℕ × List ℕ). p.0) is

pub name_ends : (line : List ℕ) (parts : List ℕ × List ℕ) → attrval_of line ≡ Ok parts → list_any (λ b. b == colon) parts.0 ≡ false
name_ends line parts e = by (cut_at colon line) refl
  where
    by : (cut : Option (List ℕ × List ℕ)) → cut ≡ cut_at colon line → list_any (λ b. b == colon) parts.0 ≡ false
    by None is = let never : attrval_of line ≡ Err no_line.BadLine = attrval_of-none line is in absurd (cc)
    by (Some (name, rest)) is =
        let same : name ≡ parts.0 = name_from name rest parts (sym (attrval_of-cut line name rest is) ∙ e) in
        subst (λ (t : List ℕ). list_any (λ b. b == colon) t ≡ false) same (cut_at-text colon line name rest is).1

-- ---- names

pub given_named : (rows : List TypeRow) (value : Numbered) (given : GivenName) → given_name rows value ≡ Ok given → IsNamed rows given
given_named rows value given e = by (named_key rows value.1) refl e
  where
    by : (key : Option NamedKey) → named_key rows value.1 ≡ key → at_line value.0 (ok_or (option_map (λ (name : NamedKey). record { text = value.1; name = name }) key) BadName) ≡ Ok given → IsNamed rows given
    by None is e = absurd (cc)
    by (Some name) is e =
        let same : record { text = value.1; name = name } ≡ given = cc e in
        subst (IsNamed rows) same is

requester_named : (rows : List TypeRow) (value : Option Numbered) (requester : Option GivenName) → requester_in rows value ≡ Ok requester → IfSome requester (IsNamed rows)
requester_named rows None requester e =
    let is : None ≡ requester = cc e in
    subst (λ (r : Option GivenName). IfSome r (IsNamed rows)) is tt
requester_named rows (Some value) requester e = by (is_nobody value.1) e
  where
    by : (nobody : Bool) → cond nobody (Ok None) (and_then (given_name rows value) (λ given. Ok (Some given))) ≡ Ok requester → IfSome requester (IsNamed rows)
    by true e =
        let is : None ≡ requester = cc e in
        subst (λ (r : Option GivenName). IfSome r (IsNamed rows)) is tt
    by false e =
        let given = inverted (given_name rows value) (λ given. Ok (Some given)) requester e in
        let is : Some given.0 ≡ requester = cc given.2 in
        subst (λ (r : Option GivenName). IfSome r (IsNamed rows)) is (given_named rows value given.0 given.1)

base_named : (rows : List TypeRow) (begin : ℕ) (target : Option Numbered × List Line) (base : GivenName) → base_in rows begin target ≡ Ok base → IsNamed rows base
base_named rows begin (None, lines) base e = absurd (cc)
base_named rows begin (Some value, lines) base e = given_named rows value base e

-- ---- words

asked-ok : (rows : List TypeRow) (line : ℕ) (parts : List ℕ × List ℕ) (asked : AskedWord) → list_any (λ b. b == colon) parts.0 ≡ false → asked_word rows line parts ≡ Ok asked → IsWord rows asked
asked-ok rows line parts asked name e = by (is_reserved parts.0) refl e
  where
    by_word : (word : Option Word) → word_of rows parts.0 ≡ word → is_reserved parts.0 ≡ false
        → and_then (ok_or word BadWord) (λ word. cond (may_be_expected word parts.1) (Ok (record { line = line; text = parts.0; word = word; expected = parts.1 })) (Err BadAnswer)) ≡ Ok asked → IsWord rows asked
    by_word None is free e = absurd (cc)
    by_word (Some word) is free e = by (may_be_expected word parts.1) refl e
      where
        by : (may : Bool) → may_be_expected word parts.1 ≡ may → cond may (Ok (record { line = line; text = parts.0; word = word; expected = parts.1 })) (Err BadAnswer) ≡ Ok asked → IsWord rows asked
        by false may e = absurd (cc)
        by true may e =
            let same : record { line = line; text = parts.0; word = word; expected = parts.1 } ≡ asked = cc e in
            subst (IsWord rows) same (record { word = is; expected = may; free = free; name = name })

    by : (reserved : Bool) → is_reserved parts.0 ≡ reserved
        → cond reserved (Err BadBlock) (and_then (ok_or (word_of rows parts.0) BadWord) (λ word. cond (may_be_expected word parts.1) (Ok (record { line = line; text = parts.0; word = word; expected = parts.1 })) (Err BadAnswer))) ≡ Ok asked → IsWord rows asked
    by true reserved e = absurd (cc)
    by false reserved e = by_word (word_of rows parts.0) refl reserved e

word-ok : (rows : List TypeRow) (line : Line) (asked : AskedWord) → word_line rows line ≡ Ok asked → IsWord rows asked
word-ok rows line asked e =
    let parts = inverted (line_parts line) (λ parts. at_line line.0 (asked_word rows line.0 parts)) asked e in
    let reads : attrval_of line.1 ≡ Ok parts.0 = as_cause-ok (attrval_of line.1) parts.0 (at_line-ok line.0 (as_cause (attrval_of line.1)) parts.0 parts.1) in
    asked-ok rows line.0 parts.0 asked (name_ends line.1 parts.0 reads) (at_line-ok line.0 (asked_word rows line.0 parts.0) asked parts.2)

words-ok : (rows : List TypeRow) (begin : ℕ) (lines : List Line) (words : List AskedWord) → words_in rows begin lines ≡ Ok words → HasWord words × All (IsWord rows) words
words-ok rows begin [] words e = absurd (cc)
words-ok rows begin (line ∷ lines) words e = (some, collected (word_line rows) (IsWord rows) (word-ok rows) (line ∷ lines) words e)
  where
    some : HasWord words
    some =
        let first = inverted (word_line rows line) (λ y. and_then (collect (word_line rows) lines) (λ ys. Ok (y ∷ ys))) words e in
        let rest = inverted (collect (word_line rows) lines) (λ ys. Ok (first.0 ∷ ys)) words first.2 in
        let is : first.0 ∷ rest.0 ≡ words = cc rest.2 in
        subst HasWord is tt

-- ---- blocks

block-ok : (rows : List TypeRow) (begin : ℕ) (lines : List Line) (b : QuestionBlock) → block_of rows begin lines ≡ Ok b → IsRead rows b
block-ok rows begin lines b e =
    let who = inverted (optional_line (codes "authcDN") lines) _ b e in
    let requester = inverted (requester_in rows who.0.0) _ b who.2 in
    let made_up = inverted (optional_line (codes "fake") who.0.1) _ b requester.2 in
    let fake = inverted (fake_in made_up.0.0) _ b made_up.2 in
    let target = inverted (optional_line (codes "dn") made_up.0.1) _ b fake.2 in
    let base = inverted (base_in rows begin target.0) _ b target.2 in
    let words = inverted (words_in rows begin target.0.1) _ b base.2 in
    let is : record { requester = requester.0; fake = fake.0; base = base.0; words = words.0 } ≡ b = cc words.2 in
    let asked = words-ok rows begin target.0.1 words.0 words.1 in
    subst (IsRead rows) is (record {
      requester = requester_named rows who.0.0 requester.0 requester.1;
      base = base_named rows begin target.0 base.0 base.1;
      some = asked.0;
      words = asked.1;
    })

pub blocks-ok : (rows : List TypeRow) (text : List ℕ) (blocks : List QuestionBlock) → question_blocks rows text ≡ Ok blocks → All (IsRead rows) blocks
blocks-ok rows text blocks e = by (nat_lt 16777216 (length text)) e
  where
    by : (long : Bool) → cond long (Err fault.TooLong) (and_then (whole_text (blocks_of text)) (read_lines rows)) ≡ Ok blocks → All (IsRead rows) blocks
    by true e = absurd (cc)
    by false e =
        let lines = inverted (whole_text (blocks_of text)) (read_lines rows) blocks e in
        collected (read_block rows) (IsRead rows) (λ lines b h. block-ok rows _ lines b h) lines.0 blocks lines.2
