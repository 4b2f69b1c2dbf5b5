-- The names that the questions of a text of bytes give are sound.
use Rattle.std.proofs.Common.{◌≡◌, ℕ, zero, suc, ◌+◌, ◌<◌, ◌==◌, nat_lt, Bool, true, false, cond, List, [], ◌∷◌, ◌++◌, length, drop, codes, refl, sym, ap, subst, ◌∙◌, Option, None, Some, Result, Ok, Err, IfOk, IfSome, arith}
use Rattle.std.specs.Prelude.{ok_or, option_and_then, option_map}
use Rattle.std.specs.List.{All, AllByRecursion, list_any, onto_first}
use Rattle.std.specs.Result.{result_ok}
use Rattle.std.specs.Str.{bytes_eq, str_eq_ignore_ascii_case}
use Rattle.dir_names.specs.Ascii.{colon, space}
use Rattle.std.proofs.lemmas.List.Elements.{All-cons, All-nil}
use Rattle.dir_names.specs.declared.fault.NameFault.{NameFault}
use Rattle.dir_names.specs.declared.schema.TypeRow.{TypeRow}
use Rattle.dir_names.specs.Keys.{DnKeys}
use Rattle.dir_names.specs.NameKeys.{name_key}
use Rattle.dir_names.specs.Names.{SpelledName}
use Rattle.dir_names.specs.Names.Reading.{name_within_limits}
use Rattle.dir_names.specs.Results.{and_then}
use Rattle.dir_ldif.specs.declared.faults.RecordFault.{RecordFault}
use Rattle.dir_ldif.specs.declared.faults.StreamFault.TheVariants.{LineTooLong, BadVersion}
use Rattle.dir_ldif.specs.AttrVal.{attrval_from, attrval_of, attrval_of_cut, base64_value, is_nul_or_cr, or_bad_base64, value_of, within_limit}
use Rattle.dir_ldif.specs.Blocks.{BlockResult, block_then, blocks_from, blocks_of, by_version, version_of_cut, version_word}
use Rattle.dir_ldif.specs.Bytes.{cut_at, is_empty, without_last, without_leading}
use Rattle.dir_ldif.specs.LogicalLines.{Line, continues, cut, is_comment, is_lf, is_long, lines_of, logical_lines, physical_lines, with_first_line}
use Rattle.dir_ldif.specs.RecordGrammar.{is_keyword}
use Rattle.dir_ldif.specs.SoundRecords.{IsBytes, IsSoundName}
use Rattle.dir_ldif.proofs.Base64Lemmas.{decoded_is_bytes, drop_bytes}
use Rattle.dir_ldif.proofs.ReadIsLegal.{after, chosen, known}
use Rattle.dir_ldif.proofs.ReadIsSound.{read_name_sound}
use Rattle.dir_tools.specs.AccessReport.{NamedKey, named_key}
use Rattle.dir_questions.specs.declared.fault.QuestionCause.TheVariants.{BadName}
use Rattle.dir_questions.specs.declared.fault.QuestionsFault.{QuestionsFault}
use Rattle.dir_questions.specs.declared.fault.QuestionsFault.TheVariants as fault
use Rattle.dir_questions.specs.Questions.{GivenName, Numbered, QuestionBlock, as_cause, at_line, base_in, block_of, collect, fake_in, given_name, is_nobody, line_parts, optional_line, question_blocks, read_block, read_lines, requester_in, whole_text, words_in}
use Rattle.dir_questions.proofs.ReadQuestions.{as_cause-ok, at_line-ok, given_named, inverted}

-- ---- bytes

no_bytes : IsBytes []
no_bytes i = omega arith

one_more_byte : (b : ℕ) (bs : List ℕ) → b < 256 → IsBytes bs → IsBytes (b ∷ bs)
one_more_byte b bs h hs zero = h
one_more_byte b bs h hs (suc i) = hs i

abbrev AreSmall : List ℕ → Type 0
AreSmall bs = AllByRecursion (λ b. b < 256) bs

each_is_small : (bs : List ℕ) → IsBytes bs → AreSmall bs
each_is_small [] h = tt
each_is_small (b ∷ bs) h = (h 0, each_is_small bs (λ i. h (suc i)))

small_are_bytes : (bs : List ℕ) → AreSmall bs → IsBytes bs
small_are_bytes [] h = no_bytes
small_are_bytes (b ∷ bs) h = one_more_byte b bs h.0 (small_are_bytes bs h.1)

joined_bytes : (a b : List ℕ) → IsBytes a → IsBytes b → IsBytes (a ++ b)
joined_bytes [] b ha hb = hb
joined_bytes (x ∷ a) b ha hb = one_more_byte x (a ++ b) (ha 0) (joined_bytes a b (λ i. ha (suc i)) hb)

leading_bytes : (b : ℕ) (cs : List ℕ) → IsBytes cs → IsBytes (without_leading b cs)
leading_bytes b [] h = h
leading_bytes b (c ∷ cs) h = by (leading_bytes b cs (λ i. h (suc i))) (c == b)
  where
    by : IsBytes (without_leading b cs) → (t : Bool) → IsBytes (cond t (without_leading b cs) (c ∷ cs))
    by rest true = rest
    by rest false = h

last_bytes : (b : ℕ) (cs : List ℕ) → IsBytes cs → IsBytes (without_last b cs)
last_bytes b [] h = h
last_bytes b (c ∷ []) h = by (c == b)
  where
    by : (t : Bool) → IsBytes (cond t [] (c ∷ []))
    by true = no_bytes
    by false = h
last_bytes b (c ∷ d ∷ ds) h = one_more_byte c (without_last b (d ∷ ds)) (h 0) (last_bytes b (d ∷ ds) (λ i. h (suc i)))

abbrev Pair : Type 0
Pair = List ℕ × List ℕ

abbrev HasBytes : Pair → Type 0
HasBytes p = IsBytes p.1

abbrev with_byte : ℕ → Pair → Pair
with_byte c p = (c ∷ p.0, p.1)

cut_bytes : (b : ℕ) (cs : List ℕ) → IsBytes cs → IfSome (cut_at b cs) HasBytes
cut_bytes b [] h = tt
cut_bytes b (c ∷ cs) h = by (cut_bytes b cs (λ i. h (suc i))) (c == b)
  where
    later : (o : Option Pair) → IfSome o HasBytes → IfSome (option_map (with_byte c) o) HasBytes
    later None k = tt
    later (Some p) k = k

    by : IfSome (cut_at b cs) HasBytes → (t : Bool) → IfSome (cond t (Some ([], cs)) (option_map (with_byte c) (cut_at b cs))) HasBytes
    by rest true = λ i. h (suc i)
    by rest false = later (cut_at b cs) rest

-- ---- a line

base64_ok : {E : Type 0} (r : Result (List ℕ) E) (w : List ℕ) → or_bad_base64 r ≡ Ok w → r ≡ Ok w
base64_ok (Ok v) w e = ap Ok (cc e)
base64_ok (Err f) w e = absurd (cc)

decoded_bytes : (text w : List ℕ) → IsBytes text → base64_value text ≡ Ok w → IsBytes w
unfolding base64_value
decoded_bytes text w h e = decoded_is_bytes text w h (base64_ok _ w e)

base64_bytes : (text : List ℕ) → IsBytes text → IfOk (base64_value text) IsBytes
base64_bytes text h = by (base64_value text) refl
  where
    by : (r : Result (List ℕ) RecordFault) → base64_value text ≡ r → IfOk r IsBytes
    by (Ok w) e = decoded_bytes text w h e
    by (Err f) e = tt

value_bytes : (rest : List ℕ) → IsBytes rest → IfOk (value_of rest) IsBytes
value_bytes [] h = no_bytes
value_bytes (b ∷ bs) h =
    chosen (b == 58) _ _ IsBytes (λ _. base64_bytes (without_leading 32 bs) (leading_bytes 32 bs (λ i. h (suc i))))
    (λ _. chosen (b == 60) _ _ IsBytes (λ _. tt)
    (λ _. chosen (list_any is_nul_or_cr (without_leading 32 (b ∷ bs))) _ _ IsBytes (λ _. tt) (λ _. leading_bytes 32 (b ∷ bs) h)))

limited_bytes : (value : List ℕ) → IsBytes value → IfOk (within_limit value) IsBytes
limited_bytes value h = chosen (nat_lt 1048576 (length value)) _ _ IsBytes (λ _. tt) (λ _. h)

parts_bytes : (name rest : List ℕ) → IsBytes rest → IfOk (attrval_from name rest) HasBytes
parts_bytes [] rest h = tt
parts_bytes (b ∷ name) rest h =
    after (and_then (value_of rest) within_limit) _ HasBytes
    (λ value e. known (and_then (value_of rest) within_limit) IsBytes value
    (after (value_of rest) within_limit IsBytes (λ v ev. limited_bytes v (known (value_of rest) IsBytes v (value_bytes rest h) ev))) e)

attrval_bytes : (line : List ℕ) → IsBytes line → IfOk (attrval_of line) HasBytes
unfolding attrval_of
attrval_bytes line h = by (cut_at 58 line) (cut_bytes 58 line h)
  where
    by : (o : Option Pair) → IfSome o HasBytes → IfOk (attrval_of_cut o) HasBytes
    by None k = tt
    by (Some p) k = parts_bytes p.0 p.1 k

abbrev AreLinesOfBytes : List Line → Type 0
AreLinesOfBytes lines = AllByRecursion (λ l. IsBytes l.1) lines

-- the value of a line
value_in : (line : Line) → IsBytes line.1 → (p : Pair) → line_parts line ≡ Ok p → IsBytes p.1
value_in line h p e =
    let reads : attrval_of line.1 ≡ Ok p = as_cause-ok (attrval_of line.1) p (at_line-ok line.0 (as_cause (attrval_of line.1)) p e) in
    known (attrval_of line.1) HasBytes p (attrval_bytes line.1 h) reads

-- ---- the lines of a text

piece_more : {A : Type 0} (P : A → Type 0) (x : A) (pieces : List (List A)) → P x → AllByRecursion (AllByRecursion P) pieces → AllByRecursion (AllByRecursion P) (onto_first x pieces)
piece_more P x [] h hs = ((h, tt), tt)
piece_more P x (piece ∷ pieces) h hs = ((h, hs.0), hs.1)

all_pieces : {A : Type 0} (P : A → Type 0) (test : A → Bool) (xs : List A) → AllByRecursion P xs → AllByRecursion (AllByRecursion P) (cut test xs)
all_pieces P test [] h = tt
all_pieces P test (x ∷ xs) h = by (all_pieces P test xs h.1) (test x)
  where
    by : AllByRecursion (AllByRecursion P) (cut test xs) → (t : Bool) → AllByRecursion (AllByRecursion P) (cond t ([] ∷ cut test xs) (onto_first x (cut test xs)))
    by rest true = (tt, rest)
    by rest false = piece_more P x (cut test xs) h.0 rest

physical_bytes : (n : ℕ) (texts : List (List ℕ)) → AllByRecursion AreSmall texts → AreLinesOfBytes (physical_lines n texts)
physical_bytes n [] h = tt
physical_bytes n (text ∷ texts) h = (last_bytes 13 text (small_are_bytes text h.0), physical_bytes (n + 1) texts h.1)

first_line-bytes : (line : Line) (lines : List Line) → IsBytes line.1 → AreLinesOfBytes lines → AreLinesOfBytes (with_first_line line lines)
first_line-bytes line [] h hs = (h, tt)
first_line-bytes line (next ∷ rest) h hs = by (continues line next)
  where
    by : (t : Bool) → AreLinesOfBytes (cond t ((line.0, line.1 ++ drop 1 next.1) ∷ rest) (line ∷ next ∷ rest))
    by true = (joined_bytes line.1 (drop 1 next.1) h (drop_bytes 1 next.1 hs.0), hs.1)
    by false = (h, hs)

logical_bytes : (lines : List Line) → AreLinesOfBytes lines → AreLinesOfBytes (logical_lines lines)
logical_bytes [] h = tt
logical_bytes (line ∷ rest) h = first_line-bytes line (logical_lines rest) h.0 (logical_bytes rest h.1)

lines_of-bytes : (text : List ℕ) → IsBytes text → AreLinesOfBytes (lines_of text)
lines_of-bytes text h = logical_bytes (physical_lines 1 (cut is_lf text)) (physical_bytes 1 (cut is_lf text) (all_pieces (λ b. b < 256) is_lf text (each_is_small text h)))

-- ---- the blocks of a text

abbrev AreBlocksOfBytes : List BlockResult → Type 0
AreBlocksOfBytes blocks = AllByRecursion (λ b. IfOk b AreLinesOfBytes) blocks

line_more : (lines : List Line) (line : Line) → AreLinesOfBytes lines → IsBytes line.1 → AreLinesOfBytes (lines ++ line ∷ [])
line_more [] line hs h = (h, tt)
line_more (l ∷ ls) line hs h = (hs.0, line_more ls line hs.1 h)

then-bytes : (block : List Line) (rest : List BlockResult) → AreLinesOfBytes block → AreBlocksOfBytes rest → AreBlocksOfBytes (block_then block rest)
then-bytes [] rest h hs = hs
then-bytes (line ∷ lines) rest h hs = (h, hs)

one_of : {V A : Type 0} (P : A → Type 0) (f : V → A) (k : Bool) (u v : V) → P (f u) → P (f v) → P (f (cond k u v))
one_of P f true u v h k = h
one_of P f false u v h k = k

versioned : {A : Type 0} (P : A → Type 0) (cut : Option Pair) (a o x : A) → P a → P o → P x → P (by_version (version_of_cut cut) a o x)
versioned P None a o x pa po px = pa
versioned P (Some p) a o x pa po px =
    one_of P (λ v. by_version v a o x) (str_eq_ignore_ascii_case p.0 version_word) _ _ (one_of P (λ v. by_version v a o x) (bytes_eq (without_leading space p.1) (49 ∷ [])) _ _ po px) pa

blocks-bytes : (begun : Bool) (block lines : List Line) → AreLinesOfBytes block → AreLinesOfBytes lines → AreBlocksOfBytes (blocks_from begun block lines)
blocks-bytes begun block [] hb h = then-bytes block [] hb tt
blocks-bytes begun block (line ∷ rest) hb h =
    by (λ b lines hl. blocks-bytes b lines rest hl h.1) (is_long line) (is_comment line) (is_empty line.1) begun _
    (versioned AreBlocksOfBytes (cut_at colon line.1) (blocks_from true (block ++ line ∷ []) rest) (blocks_from true block rest) (Err BadVersion ∷ [])
    (blocks-bytes true (block ++ line ∷ []) rest (line_more block line hb h.0) h.1) (blocks-bytes true block rest hb h.1) (tt, tt))
  where
    by : ((b : Bool) (lines : List Line) → AreLinesOfBytes lines → AreBlocksOfBytes (blocks_from b lines rest)) → (t u w r : Bool) (last : List BlockResult) → AreBlocksOfBytes last
        → AreBlocksOfBytes (cond t (Err LineTooLong ∷ [])
        (cond u (blocks_from begun block rest)
        (cond w (block_then block (blocks_from begun [] rest))
        (cond r (blocks_from true (block ++ line ∷ []) rest) last))))
    by later true u w r last k = (tt, tt)
    by later false true w r last k = later begun block hb
    by later false false true r last k = then-bytes block (blocks_from begun [] rest) hb (later begun [] tt)
    by later false false false true last k = later true (block ++ line ∷ []) (line_more block line hb h.0)
    by later false false false false last k = k

whole-bytes : (blocks : List BlockResult) (lines : List (List Line)) → AreBlocksOfBytes blocks → whole_text blocks ≡ Ok lines → AllByRecursion AreLinesOfBytes lines
whole-bytes [] lines h e =
    let is : [] ≡ lines = cc e in
    subst (AllByRecursion AreLinesOfBytes) is tt
whole-bytes (Err why ∷ blocks) lines h e = absurd (cc)
whole-bytes (Ok first ∷ blocks) lines h e =
    let rest = inverted (whole_text blocks) (λ rest. Ok (first ∷ rest)) lines e in
    let is : first ∷ rest.0 ≡ lines = cc rest.2 in
    subst (AllByRecursion AreLinesOfBytes) is (h.0, whole-bytes blocks rest.0 h.1 rest.1)

-- ---- names

-- a name that was read of a value of bytes
abbrev pub IsSound : GivenName → Type 0
IsSound given = IsSoundName given.name.0

pub named_within : (rows : List TypeRow) (text : List ℕ) (key : NamedKey) → named_key rows text ≡ Some key → (name_within_limits text ≡ Ok key.0) × (name_key rows key.0 ≡ Some key.1)
named_within rows text key e = by (name_within_limits text) e
  where
    by_key : (name : SpelledName) (found : Option DnKeys) → option_map (λ key. (name, key)) found ≡ Some key → (name ≡ key.0) × (found ≡ Some key.1)
    by_key name None e = absurd (cc)
    by_key name (Some found) e =
        let same : (name, found) ≡ key = cc e in
        (ap (λ (k : NamedKey). k.0) same, ap (λ (k : NamedKey). Some k.1) same)

    by : (name : Result SpelledName NameFault) → option_and_then (λ name. option_map (λ key. (name, key)) (name_key rows name)) (result_ok name) ≡ Some key → (name ≡ Ok key.0) × (name_key rows key.0 ≡ Some key.1)
    by (Err why) e = absurd (cc)
    by (Ok name) e =
        let both = by_key name (name_key rows name) e in
        (ap Ok both.0, ap (name_key rows) (sym both.0) ∙ both.1)

given_text : (rows : List TypeRow) (value : Numbered) (given : GivenName) → given_name rows value ≡ Ok given → given.text ≡ value.1
given_text rows value given e = by (named_key rows value.1) e
  where
    by : (key : Option NamedKey) → at_line value.0 (ok_or (option_map (λ (name : NamedKey). record { text = value.1; name = name }) key) BadName) ≡ Ok given → given.text ≡ value.1
    by None e = absurd (cc)
    by (Some name) e =
        let same : record { text = value.1; name = name } ≡ given = cc e in
        ap (λ (g : GivenName). g.text) (sym same)

given_sound : (rows : List TypeRow) (value : Numbered) (given : GivenName) → IsBytes value.1 → given_name rows value ≡ Ok given → IsSound given
given_sound rows value given h e =
    let small : IsBytes given.text = subst IsBytes (sym (given_text rows value given e)) h in
    read_name_sound given.text given.name.0 small (named_within rows given.text given.name (given_named rows value given e)).0

-- ---- the first lines of a block

abbrev IsOfBytes : Numbered → Type 0
IsOfBytes value = IsBytes value.1

optional-bytes : (name : List ℕ) (lines : List Line) (found : Option Numbered × List Line) → AreLinesOfBytes lines → optional_line name lines ≡ Ok found → IfSome found.0 IsOfBytes × AreLinesOfBytes found.1
optional-bytes name [] found h e =
    let is : (None, []) ≡ found = cc e in
    subst (λ (f : Option Numbered × List Line). IfSome f.0 IsOfBytes × AreLinesOfBytes f.1) is (tt, tt)
optional-bytes name (line ∷ lines) found h e =
    let parts = inverted (line_parts line) (λ parts. cond (is_keyword parts.0 name) (Ok (Some (line.0, parts.1), lines)) (Ok (None, line ∷ lines))) found e in
    by parts.0 (value_in line h.0 parts.0 parts.1) (is_keyword parts.0.0 name) parts.2
  where
    by : (parts : Pair) → IsBytes parts.1 → (is : Bool) → ◌≡◌ {A = Result (Option Numbered × List Line) QuestionsFault} (cond is (Ok (Some (line.0, parts.1), lines)) (Ok (None, line ∷ lines))) (Ok found) → IfSome found.0 IsOfBytes × AreLinesOfBytes found.1
    by parts b true e =
        let is : (Some (line.0, parts.1), lines) ≡ found = cc e in
        subst (λ (f : Option Numbered × List Line). IfSome f.0 IsOfBytes × AreLinesOfBytes f.1) is (b, h.1)
    by parts b false e =
        let is : (None, line ∷ lines) ≡ found = cc e in
        subst (λ (f : Option Numbered × List Line). IfSome f.0 IsOfBytes × AreLinesOfBytes f.1) is (tt, h)

-- a value that names somebody
abbrev IsSomebody : GivenName → Type 0
IsSomebody given = IsSound given × (is_nobody given.text ≡ false)

requester_sound : (rows : List TypeRow) (value : Option Numbered) (requester : Option GivenName) → IfSome value IsOfBytes → requester_in rows value ≡ Ok requester → IfSome requester IsSomebody
requester_sound rows None requester h e =
    let is : None ≡ requester = cc e in
    subst (λ (r : Option GivenName). IfSome r IsSomebody) is tt
requester_sound rows (Some value) requester h e = by (is_nobody value.1) refl e
  where
    by : (nobody : Bool) → is_nobody value.1 ≡ nobody → cond nobody (Ok None) (and_then (given_name rows value) (λ given. Ok (Some given))) ≡ Ok requester → IfSome requester IsSomebody
    by true n e =
        let is : None ≡ requester = cc e in
        subst (λ (r : Option GivenName). IfSome r IsSomebody) is tt
    by false n e =
        let given = inverted (given_name rows value) (λ given. Ok (Some given)) requester e in
        let is : Some given.0 ≡ requester = cc given.2 in
        subst (λ (r : Option GivenName). IfSome r IsSomebody) is (given_sound rows value given.0 h given.1, ap is_nobody (given_text rows value given.0 given.1) ∙ n)

base_sound : (rows : List TypeRow) (begin : ℕ) (target : Option Numbered × List Line) (base : GivenName) → IfSome target.0 IsOfBytes → base_in rows begin target ≡ Ok base → IsSound base
base_sound rows begin (None, lines) base h e = absurd (cc)
base_sound rows begin (Some value, lines) base h e = given_sound rows value base h e

pub record IsSoundBlock (b : QuestionBlock) : Type 0 where
  pub requester : IfSome b.requester (λ given. IsSoundName given.name.0 × (is_nobody given.text ≡ false))
  pub base : IsSoundName b.base.name.0

ok_same : {A E : Type 0} (x y : A) → ◌≡◌ {A = Result A E} (Ok x) (Ok y) → x ≡ y
ok_same x y e = cc

block-sound : (rows : List TypeRow) (begin : ℕ) (lines : List Line) (b : QuestionBlock) → AreLinesOfBytes lines → block_of rows begin lines ≡ Ok b → IsSoundBlock b
block-sound rows begin lines b h e =
    let who = inverted (optional_line (codes "authcDN") lines) _ b e in
    let requester = inverted (requester_in rows who.0.0) _ b who.2 in
    let made_up = inverted (optional_line (codes "fake") who.0.1) _ b requester.2 in
    let fake = inverted (fake_in made_up.0.0) _ b made_up.2 in
    let target = inverted (optional_line (codes "dn") made_up.0.1) _ b fake.2 in
    let base = inverted (base_in rows begin target.0) _ b target.2 in
    let words = inverted (words_in rows begin target.0.1) _ b base.2 in
    let is : record { requester = requester.0; fake = fake.0; base = base.0; words = words.0 } ≡ b = ok_same _ b words.2 in
    let first = optional-bytes (codes "authcDN") lines who.0 h who.1 in
    let second = optional-bytes (codes "fake") who.0.1 made_up.0 first.1 made_up.1 in
    let third = optional-bytes (codes "dn") made_up.0.1 target.0 second.1 target.1 in
    subst IsSoundBlock is (record {
      requester = requester_sound rows who.0.0 requester.0 first.0 requester.1;
      base = base_sound rows begin target.0 base.0 third.0 base.1;
    })

collected-of : {A B E : Type 0} (f : A → Result B E) (Q : A → Type 0) (P : B → Type 0) → ((x : A) (y : B) → Q x → f x ≡ Ok y → P y) → (xs : List A) (ys : List B) → AllByRecursion Q xs → collect f xs ≡ Ok ys → All P ys
collected-of f Q P p [] ys h e =
    let is : [] ≡ ys = cc e in
    subst (All P) is (All-nil P)
collected-of f Q P p (x ∷ xs) ys h e =
    let y = inverted (f x) (λ y. and_then (collect f xs) (λ ys. Ok (y ∷ ys))) ys e in
    let rest = inverted (collect f xs) (λ ys. Ok (y.0 ∷ ys)) ys y.2 in
    let is : y.0 ∷ rest.0 ≡ ys = cc rest.2 in
    subst (All P) is (All-cons P y.0 rest.0 (p x y.0 h.0 y.1) (collected-of f Q P p xs rest.0 h.1 rest.1))

pub blocks-sound : (rows : List TypeRow) (text : List ℕ) (blocks : List QuestionBlock) → IsBytes text → question_blocks rows text ≡ Ok blocks → All IsSoundBlock blocks
blocks-sound rows text blocks h e = by (nat_lt 16777216 (length text)) e
  where
    by : (long : Bool) → cond long (Err fault.TooLong) (and_then (whole_text (blocks_of text)) (read_lines rows)) ≡ Ok blocks → All IsSoundBlock blocks
    by true e = absurd (cc)
    by false e =
        let lines = inverted (whole_text (blocks_of text)) (read_lines rows) blocks e in
        let small = whole-bytes (blocks_of text) lines.0 (blocks-bytes false [] (lines_of text) tt (lines_of-bytes text h)) lines.1 in
        collected-of (read_block rows) AreLinesOfBytes IsSoundBlock (λ lines b h e. block-sound rows _ lines b h e) lines.0 blocks small lines.2
