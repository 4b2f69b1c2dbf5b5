-- Each record of a text of bytes is legal and sound.
use Rattle.std.proofs.Common.{◌≡◌, ℕ, zero, suc, ◌+◌, ◌<◌, ◌==◌, nat_lt, Bool, true, false, cond, List, [], ◌∷◌, ◌++◌, length, drop, codes, refl, subst, Option, None, Some, Result, Ok, Err, IfOk, IfSome, arith}
use Rattle.std.specs.Option.{option_map}
use Rattle.std.specs.List.{AllByRecursion, list_any, onto_first}
use Rattle.base64.specs.declared.decode.DecodeError.{DecodeError}
use Rattle.base64.specs.Engines.{standard}
use Rattle.base64.specs.GeneralPurpose.{IsBytes, decode_of}
use Rattle.dir_names.specs.declared.schema.TypeRow.{TypeRow}
use Rattle.dir_names.specs.Described.{Described}
use Rattle.dir_names.specs.Descriptions.{description_of}
use Rattle.dir_names.specs.Names.{SpelledName, SpelledRdn}
use Rattle.dir_names.specs.NameKeys.{name_key, rdn_key}
use Rattle.dir_names.specs.Names.Reading.{name_within_limits, rdn_within_limit}
use Rattle.dir_names.specs.Orders.{attr_eq}
use Rattle.dir_names.specs.Outcome.{ok_or_bad_dn}
use Rattle.dir_names.specs.Results.{and_then}
use Rattle.dir_ldif.specs.declared.faults.StreamFault.{StreamFault}
use Rattle.dir_ldif.specs.declared.faults.StreamFault.TheVariants.{LineTooLong, BadMark, BadVersion}
use Rattle.dir_ldif.specs.declared.reader.marks.Marks.{Marks}
use Rattle.dir_ldif.specs.declared.reader.version.Version.{Version}
use Rattle.dir_ldif.specs.declared.reader.version.Version.TheVariants.{Absent, One, Other}
use Rattle.dir_ldif.specs.declared.records.Mod.{Mod}
use Rattle.dir_ldif.specs.AttrVal.{attrval_from, attrval_of, attrval_of_cut, base64_value, is_nul_or_cr, or_bad_base64, value_of, within_limit}
use Rattle.dir_ldif.specs.Blocks.{BlockResult, blocks_of, by_version, version_of}
use Rattle.dir_ldif.specs.Bytes.{cut_at, is_empty, without_last, without_leading}
use Rattle.dir_ldif.specs.LegalRecords.{is_legal_record}
use Rattle.dir_ldif.specs.LogicalLines.{Line, continues, cut, is_comment, is_lf, is_long, lines_of, logical_lines, physical_lines, with_first_line}
use Rattle.dir_ldif.specs.RecordGrammar.{as_record_fault, body_of, change_of, content_of, deletion_of, dn_line, flag_of, is_dash, is_keyword, legal_dn, legal_rdn, mod_head, mod_of, mod_value, mods_of, only_superior, record_of, rename_after_rdn, rename_line, rename_of, superior_of, try_map, value_line, value_lines}
use Rattle.dir_ldif.specs.Marks.{after_comment, ignored, may_have_records, up_to}
use Rattle.dir_ldif.specs.Records.{answer_of, answers_on, read_up_to}
use Rattle.dir_ldif.specs.Remainder.{Remainder, after_marks, blocks_in, done, fails, remainder_from, then_rest}
use Rattle.dir_ldif.specs.SoundRecords.{AreBytes, AreSoundAnswers, FirstRecordsAreSound, IsSoundFound, IsSoundKind, IsSoundName, IsSoundRdn, IsSoundRecord, IsSoundSuperior, ModsAreBytes, RecordsAreSound, ValuesAreBytes}
use Rattle.dir_ldif.proofs.Base64Lemmas.{decoded_is_bytes, drop_bytes}
use Rattle.dir_ldif.proofs.ReadIsLegal.{after, as_record_fault-ok, chosen, known, record_of-legal}
use Rattle.dir_ldif.proofs.ReadIsSound.{read_name_sound, read_rdn_sound}
use Rattle.dir_ldif.proofs.RemainderLemmas.{remainder_is_blocks}

-- ---- bytes

no_bytes : IsBytes []
no_bytes i = omega arith

one_more_byte : (b : ℕ) (bs : List ℕ) → b < 256 → IsBytes bs → IsBytes (b ∷ bs)
one_more_byte b bs h hs zero = h
one_more_byte b bs h hs (suc i) = hs i

abbrev AreSmall : List ℕ → Type 0
AreSmall bs = AllByRecursion (λ b. b < 256) bs

each_is_small : (bs : List ℕ) → IsBytes bs → AreSmall bs
each_is_small [] h = tt
each_is_small (b ∷ bs) h = (h 0, each_is_small bs (λ i. h (suc i)))

small_are_bytes : (bs : List ℕ) → AreSmall bs → IsBytes bs
small_are_bytes [] h = no_bytes
small_are_bytes (b ∷ bs) h = one_more_byte b bs h.0 (small_are_bytes bs h.1)

joined_bytes : (a b : List ℕ) → IsBytes a → IsBytes b → IsBytes (a ++ b)
joined_bytes [] b ha hb = hb
joined_bytes (x ∷ a) b ha hb = one_more_byte x (a ++ b) (ha 0) (joined_bytes a b (λ i. ha (suc i)) hb)

leading_bytes : (b : ℕ) (cs : List ℕ) → IsBytes cs → IsBytes (without_leading b cs)
leading_bytes b [] h = h
leading_bytes b (c ∷ cs) h = by (leading_bytes b cs (λ i. h (suc i))) (c == b)
  where
    by : IsBytes (without_leading b cs) → (t : Bool) → IsBytes (cond t (without_leading b cs) (c ∷ cs))
    by rest true = rest
    by rest false = h

last_bytes : (b : ℕ) (cs : List ℕ) → IsBytes cs → IsBytes (without_last b cs)
last_bytes b [] h = h
last_bytes b (c ∷ []) h = by (c == b)
  where
    by : (t : Bool) → IsBytes (cond t [] (c ∷ []))
    by true = no_bytes
    by false = h
last_bytes b (c ∷ d ∷ ds) h = one_more_byte c (without_last b (d ∷ ds)) (h 0) (last_bytes b (d ∷ ds) (λ i. h (suc i)))

abbrev Pair : Type 0
Pair = List ℕ × List ℕ

-- a name and a value of bytes
abbrev HasBytes : Pair → Type 0
HasBytes p = IsBytes p.1

abbrev with_byte : ℕ → Pair → Pair
with_byte c p = (c ∷ p.0, p.1)

cut_bytes : (b : ℕ) (cs : List ℕ) → IsBytes cs → IfSome (cut_at b cs) HasBytes
cut_bytes b [] h = tt
cut_bytes b (c ∷ cs) h = by (cut_bytes b cs (λ i. h (suc i))) (c == b)
  where
    later : (o : Option Pair) → IfSome o HasBytes → IfSome (option_map (with_byte c) o) HasBytes
    later None k = tt
    later (Some p) k = k

    by : IfSome (cut_at b cs) HasBytes → (t : Bool) → IfSome (cond t (Some ([], cs)) (option_map (with_byte c) (cut_at b cs))) HasBytes
    by rest true = λ i. h (suc i)
    by rest false = later (cut_at b cs) rest

-- ---- a line

base64_bytes : (text : List ℕ) → IsBytes text → IfOk (base64_value text) IsBytes
unfolding base64_value
base64_bytes text h = by (decode_of standard text) refl
  where
    by : (r : Result (List ℕ) DecodeError) → decode_of standard text ≡ r → IfOk (or_bad_base64 r) IsBytes
    by (Ok w) e = decoded_is_bytes text w h e
    by (Err f) e = tt

value_bytes : (rest : List ℕ) → IsBytes rest → IfOk (value_of rest) IsBytes
value_bytes [] h = no_bytes
value_bytes (b ∷ bs) h =
    chosen (b == 58) _ _ IsBytes (λ _. base64_bytes (without_leading 32 bs) (leading_bytes 32 bs (λ i. h (suc i))))
    (λ _. chosen (b == 60) _ _ IsBytes (λ _. tt)
    (λ _. chosen (list_any is_nul_or_cr (without_leading 32 (b ∷ bs))) _ _ IsBytes (λ _. tt) (λ _. leading_bytes 32 (b ∷ bs) h)))

limited_bytes : (value : List ℕ) → IsBytes value → IfOk (within_limit value) IsBytes
limited_bytes value h = chosen (nat_lt 1048576 (length value)) _ _ IsBytes (λ _. tt) (λ _. h)

parts_bytes : (name rest : List ℕ) → IsBytes rest → IfOk (attrval_from name rest) HasBytes
parts_bytes [] rest h = tt
parts_bytes (b ∷ name) rest h =
    after (and_then (value_of rest) within_limit) _ HasBytes
    (λ value e. known (and_then (value_of rest) within_limit) IsBytes value
    (after (value_of rest) within_limit IsBytes (λ v ev. limited_bytes v (known (value_of rest) IsBytes v (value_bytes rest h) ev))) e)

attrval_bytes : (line : List ℕ) → IsBytes line → IfOk (attrval_of line) HasBytes
unfolding attrval_of
attrval_bytes line h = by (cut_at 58 line) (cut_bytes 58 line h)
  where
    by : (o : Option Pair) → IfSome o HasBytes → IfOk (attrval_of_cut o) HasBytes
    by None k = tt
    by (Some p) k = parts_bytes p.0 p.1 k

-- the value of a line
value_in : (line : Line) → IsBytes line.1 → (p : Pair) → attrval_of line.1 ≡ Ok p → IsBytes p.1
value_in line h p e = known (attrval_of line.1) HasBytes p (attrval_bytes line.1 h) e

-- ---- lines of values

abbrev AreLinesOfBytes : List Line → Type 0
AreLinesOfBytes lines = AllByRecursion (λ l. IsBytes l.1) lines

abbrev HasValueBytes : Described × List ℕ → Type 0
HasValueBytes l = IsBytes l.1

value_line-bytes : (rows : List TypeRow) (line : Line) → IsBytes line.1 → IfOk (value_line rows line) HasValueBytes
value_line-bytes rows line h =
    after (attrval_of line.1) _ HasValueBytes (λ p e. after (as_record_fault (description_of rows p.0)) _ HasValueBytes (λ d _. value_in line h p e))

value_lines-bytes : (rows : List TypeRow) (lines : List Line) → AreLinesOfBytes lines → IfOk (value_lines rows lines) ValuesAreBytes
value_lines-bytes rows [] h = tt
value_lines-bytes rows (line ∷ lines) h =
    after (value_line rows line) _ ValuesAreBytes
    (λ l e. after (value_lines rows lines) _ ValuesAreBytes
    (λ ls es. (known (value_line rows line) HasValueBytes l (value_line-bytes rows line h.0) e, known (value_lines rows lines) ValuesAreBytes ls (value_lines-bytes rows lines h.1) es)))

-- ---- modifications

mod_value-bytes : (rows : List TypeRow) (head : Described) (line : Line) → IsBytes line.1 → IfOk (mod_value rows head line) IsBytes
mod_value-bytes rows head line h =
    after (value_line rows line) _ IsBytes
    (λ p e. chosen (attr_eq p.0.key head.key) _ _ IsBytes (λ _. known (value_line rows line) HasValueBytes p (value_line-bytes rows line h) e) (λ _. tt))

mod_values-bytes : (rows : List TypeRow) (head : Described) (lines : List Line) → AreLinesOfBytes lines → IfOk (try_map (mod_value rows head) lines) AreBytes
mod_values-bytes rows head [] h = tt
mod_values-bytes rows head (line ∷ lines) h =
    after (mod_value rows head line) _ AreBytes
    (λ v e. after (try_map (mod_value rows head) lines) _ AreBytes
    (λ vs es. (known (mod_value rows head line) IsBytes v (mod_value-bytes rows head line h.0) e, known (try_map (mod_value rows head) lines) AreBytes vs (mod_values-bytes rows head lines h.1) es)))

abbrev HasModBytes : Mod → Type 0
HasModBytes m = AreBytes m.values

mod_of-bytes : (rows : List TypeRow) (lines : List Line) → AreLinesOfBytes lines → IfOk (mod_of rows lines) HasModBytes
mod_of-bytes rows [] h = tt
mod_of-bytes rows (head ∷ lines) h =
    after (mod_head rows head) _ HasModBytes
    (λ m _. after (try_map (mod_value rows m.1) lines) _ HasModBytes (λ vs es. known (try_map (mod_value rows m.1) lines) AreBytes vs (mod_values-bytes rows m.1 lines h.1) es))

-- the pieces of a list have what all its elements have
piece_more : {A : Type 0} (P : A → Type 0) (x : A) (pieces : List (List A)) → P x → AllByRecursion (AllByRecursion P) pieces → AllByRecursion (AllByRecursion P) (onto_first x pieces)
piece_more P x [] h hs = ((h, tt), tt)
piece_more P x (piece ∷ pieces) h hs = ((h, hs.0), hs.1)

all_pieces : {A : Type 0} (P : A → Type 0) (test : A → Bool) (xs : List A) → AllByRecursion P xs → AllByRecursion (AllByRecursion P) (cut test xs)
all_pieces P test [] h = tt
all_pieces P test (x ∷ xs) h = by (all_pieces P test xs h.1) (test x)
  where
    by : AllByRecursion (AllByRecursion P) (cut test xs) → (t : Bool) → AllByRecursion (AllByRecursion P) (cond t ([] ∷ cut test xs) (onto_first x (cut test xs)))
    by rest true = (tt, rest)
    by rest false = piece_more P x (cut test xs) h.0 rest

mods-bytes : (rows : List TypeRow) (groups : List (List Line)) → AllByRecursion AreLinesOfBytes groups → IfOk (try_map (mod_of rows) groups) ModsAreBytes
mods-bytes rows [] h = tt
mods-bytes rows (group ∷ groups) h =
    after (mod_of rows group) _ ModsAreBytes
    (λ m e. after (try_map (mod_of rows) groups) _ ModsAreBytes
    (λ ms es. (known (mod_of rows group) HasModBytes m (mod_of-bytes rows group h.0) e, known (try_map (mod_of rows) groups) ModsAreBytes ms (mods-bytes rows groups h.1) es)))

mods_of-bytes : (rows : List TypeRow) (lines : List Line) → AreLinesOfBytes lines → IfOk (mods_of rows lines) ModsAreBytes
mods_of-bytes rows lines h = mods-bytes rows (cut is_dash lines) (all_pieces (λ l. IsBytes l.1) is_dash lines h)

-- ---- names

legal_dn-sound : (rows : List TypeRow) (text : List ℕ) → IsBytes text → IfOk (legal_dn rows text) IsSoundName
legal_dn-sound rows text h =
    after (as_record_fault (name_within_limits text)) _ IsSoundName
    (λ name e. after (as_record_fault (ok_or_bad_dn (name_key rows name))) _ IsSoundName (λ key _. read_name_sound text name h (as_record_fault-ok (name_within_limits text) name e)))

legal_rdn-sound : (rows : List TypeRow) (text : List ℕ) → IsBytes text → IfOk (legal_rdn rows text) IsSoundRdn
legal_rdn-sound rows text h =
    after (as_record_fault (rdn_within_limit text)) _ IsSoundRdn
    (λ rdn e. after (as_record_fault (ok_or_bad_dn (rdn_key rows rdn))) _ IsSoundRdn (λ key _. read_rdn_sound text rdn h (as_record_fault-ok (rdn_within_limit text) rdn e)))

-- ---- renames

rename_line-bytes : (word : List ℕ) (line : Line) → IsBytes line.1 → IfOk (rename_line word line) IsBytes
rename_line-bytes word line h = after (attrval_of line.1) _ IsBytes (λ p e. chosen (is_keyword p.0 word) _ _ IsBytes (λ _. value_in line h p e) (λ _. tt))

only_superior-sound : (name : SpelledName) (lines : List Line) → IsSoundName name → IfOk (only_superior name lines) IsSoundSuperior
only_superior-sound name [] h = h
only_superior-sound name (line ∷ lines) h = after (attrval_of line.1) _ IsSoundSuperior (λ p _. tt)

superior_of-sound : (rows : List TypeRow) (lines : List Line) → AreLinesOfBytes lines → IfOk (superior_of rows lines) IsSoundSuperior
superior_of-sound rows [] h = tt
superior_of-sound rows (line ∷ further) h =
    after (rename_line (codes "newsuperior") line) _ IsSoundSuperior
    (λ value ev. after (legal_dn rows value) _ IsSoundSuperior
    (λ name e. only_superior-sound name further
    (known (legal_dn rows value) IsSoundName name (legal_dn-sound rows value (known (rename_line (codes "newsuperior") line) IsBytes value (rename_line-bytes (codes "newsuperior") line h.0) ev)) e)))

after_rdn-sound : (rows : List TypeRow) (rdn : SpelledRdn) (lines : List Line) → IsSoundRdn rdn → AreLinesOfBytes lines → IfOk (rename_after_rdn rows rdn lines) IsSoundKind
after_rdn-sound rows rdn [] sound h = tt
after_rdn-sound rows rdn (line ∷ lines) sound h =
    after (rename_line (codes "deleteoldrdn") line) _ IsSoundKind
    (λ value _. after (flag_of value) _ IsSoundKind
    (λ flag _. after (superior_of rows lines) _ IsSoundKind (λ superior e. (sound, known (superior_of rows lines) IsSoundSuperior superior (superior_of-sound rows lines h.1) e))))

rename_of-sound : (rows : List TypeRow) (lines : List Line) → AreLinesOfBytes lines → IfOk (rename_of rows lines) IsSoundKind
rename_of-sound rows [] h = tt
rename_of-sound rows (line ∷ lines) h =
    after (rename_line (codes "newrdn") line) _ IsSoundKind
    (λ value ev. after (legal_rdn rows value) _ IsSoundKind
    (λ rdn e. after_rdn-sound rows rdn lines
    (known (legal_rdn rows value) IsSoundRdn rdn (legal_rdn-sound rows value (known (rename_line (codes "newrdn") line) IsBytes value (rename_line-bytes (codes "newrdn") line h.0) ev)) e) h.1))

-- ---- records

deletion_of-sound : (lines : List Line) → IfOk (deletion_of lines) IsSoundKind
deletion_of-sound [] = tt
deletion_of-sound (line ∷ lines) = after (attrval_of line.1) _ IsSoundKind (λ p _. tt)

change_of-sound : (rows : List TypeRow) (word : List ℕ) (lines : List Line) → AreLinesOfBytes lines → IfOk (change_of rows word lines) IsSoundKind
change_of-sound rows word lines h =
    chosen (is_keyword word (codes "add")) _ _ IsSoundKind
    (λ _. after (value_lines rows lines) _ IsSoundKind (λ ls e. known (value_lines rows lines) ValuesAreBytes ls (value_lines-bytes rows lines h) e))
    (λ _. chosen (is_keyword word (codes "delete")) _ _ IsSoundKind (λ _. deletion_of-sound lines)
    (λ _. chosen (is_keyword word (codes "modify")) _ _ IsSoundKind
    (λ _. after (mods_of rows lines) _ IsSoundKind (λ ms e. known (mods_of rows lines) ModsAreBytes ms (mods_of-bytes rows lines h) e))
    (λ _. chosen (is_keyword word (codes "modrdn")) _ _ IsSoundKind (λ _. rename_of-sound rows lines h)
    (λ _. chosen (is_keyword word (codes "moddn")) _ _ IsSoundKind (λ _. rename_of-sound rows lines h) (λ _. tt)))))

content_of-sound : (rows : List TypeRow) (name : SpelledName) (lines : List Line) → IsSoundName name → AreLinesOfBytes lines → IfOk (content_of rows name lines) IsSoundRecord
content_of-sound rows name lines sound h =
    after (value_lines rows lines) _ IsSoundRecord (λ ls e. (sound, known (value_lines rows lines) ValuesAreBytes ls (value_lines-bytes rows lines h) e))

body_of-sound : (rows : List TypeRow) (name : SpelledName) (lines : List Line) → IsSoundName name → AreLinesOfBytes lines → IfOk (body_of rows name lines) IsSoundRecord
body_of-sound rows name [] sound h = content_of-sound rows name [] sound h
body_of-sound rows name (second ∷ further) sound h =
    after (attrval_of second.1) _ IsSoundRecord
    (λ p _. chosen (is_keyword p.0 (codes "control")) _ _ IsSoundRecord (λ _. tt)
    (λ _. chosen (is_keyword p.0 (codes "changetype")) _ _ IsSoundRecord
    (λ _. after (change_of rows p.1 further) _ IsSoundRecord (λ k e. (sound, known (change_of rows p.1 further) IsSoundKind k (change_of-sound rows p.1 further h.1) e)))
    (λ _. content_of-sound rows name (second ∷ further) sound h)))

dn_line-sound : (rows : List TypeRow) (line : Line) → IsBytes line.1 → IfOk (dn_line rows line) IsSoundName
dn_line-sound rows line h =
    after (attrval_of line.1) _ IsSoundName (λ p e. chosen (is_keyword p.0 (codes "dn")) _ _ IsSoundName (λ _. legal_dn-sound rows p.1 (value_in line h p e)) (λ _. tt))

record_of-sound : (rows : List TypeRow) (block : List Line) → AreLinesOfBytes block → IfOk (record_of rows block) IsSoundRecord
unfolding record_of
record_of-sound rows [] h = tt
record_of-sound rows (first ∷ rest) h =
    after (dn_line rows first) _ IsSoundRecord (λ name e. body_of-sound rows name rest (known (dn_line rows first) IsSoundName name (dn_line-sound rows first h.0) e) h.1)

-- ---- the lines of a text

physical_bytes : (n : ℕ) (texts : List (List ℕ)) → AllByRecursion AreSmall texts → AreLinesOfBytes (physical_lines n texts)
physical_bytes n [] h = tt
physical_bytes n (text ∷ texts) h = (last_bytes 13 text (small_are_bytes text h.0), physical_bytes (n + 1) texts h.1)

first_line-bytes : (line : Line) (lines : List Line) → IsBytes line.1 → AreLinesOfBytes lines → AreLinesOfBytes (with_first_line line lines)
first_line-bytes line [] h hs = (h, tt)
first_line-bytes line (next ∷ rest) h hs = by (continues line next)
  where
    by : (t : Bool) → AreLinesOfBytes (cond t ((line.0, line.1 ++ drop 1 next.1) ∷ rest) (line ∷ next ∷ rest))
    by true = (joined_bytes line.1 (drop 1 next.1) h (drop_bytes 1 next.1 hs.0), hs.1)
    by false = (h, hs)

logical_bytes : (lines : List Line) → AreLinesOfBytes lines → AreLinesOfBytes (logical_lines lines)
logical_bytes [] h = tt
logical_bytes (line ∷ rest) h = first_line-bytes line (logical_lines rest) h.0 (logical_bytes rest h.1)

lines_of-bytes : (text : List ℕ) → IsBytes text → AreLinesOfBytes (lines_of text)
lines_of-bytes text h = logical_bytes (physical_lines 1 (cut is_lf text)) (physical_bytes 1 (cut is_lf text) (all_pieces (λ b. b < 256) is_lf text (each_is_small text h)))

-- ---- the blocks of a text

abbrev AreBlocksOfBytes : List BlockResult → Type 0
AreBlocksOfBytes blocks = AllByRecursion (λ b. IfOk b AreLinesOfBytes) blocks

line_more : (lines : List Line) (line : Line) → AreLinesOfBytes lines → IsBytes line.1 → AreLinesOfBytes (lines ++ line ∷ [])
line_more [] line hs h = (h, tt)
line_more (l ∷ ls) line hs h = (hs.0, line_more ls line hs.1 h)

then-bytes : (block : List Line) (left : Remainder) → AreLinesOfBytes block → AreBlocksOfBytes (blocks_in left) → AreBlocksOfBytes (blocks_in (then_rest block left))
then-bytes [] left h hs = hs
then-bytes (line ∷ lines) left h hs = (h, hs)

remainder-bytes : (m : Marks) (begun : Bool) (block lines : List Line) → AreLinesOfBytes block → AreLinesOfBytes lines → AreBlocksOfBytes (blocks_in (remainder_from m begun block lines))
remainder-bytes m begun block [] hb h = then-bytes block (done m.passed) hb tt
remainder-bytes m begun block (line ∷ rest) hb h =
    by (λ n b lines hl. remainder-bytes n b lines rest hl h.1) m.is_over (is_long line) (is_comment line) (is_empty block) (is_empty line.1) begun (may_have_records m) (version_of line.1) (after_comment m line.1)
  where
    by : ((n : Marks) (b : Bool) (lines : List Line) → AreLinesOfBytes lines → AreBlocksOfBytes (blocks_in (remainder_from n b lines rest)))
        → (o t u e v w r : Bool) (version : Version) (after : Result Marks StreamFault)
        → AreBlocksOfBytes (blocks_in (cond o (done m.passed)
        (cond t (fails LineTooLong)
        (cond u (cond e (after_marks (λ n. remainder_from n begun [] rest) after) (remainder_from m begun block rest))
        (cond v (then_rest block (remainder_from m begun [] rest))
        (cond w (cond r (remainder_from m true (block ++ line ∷ []) rest) (fails BadMark))
        (by_version version (cond r (remainder_from m true (block ++ line ∷ []) rest) (fails BadMark)) (remainder_from m true block rest) (fails BadVersion))))))))
    by later true t u e v w r version after = tt
    by later false true u e v w r version after = (tt, tt)
    by later false false true true v w r version (Ok n) = later n begun [] tt
    by later false false true true v w r version (Err fault) = (tt, tt)
    by later false false true false v w r version after = later m begun block hb
    by later false false false e true w r version after = then-bytes block (remainder_from m begun [] rest) hb (later m begun [] tt)
    by later false false false e false true true version after = later m true (block ++ line ∷ []) (line_more block line hb h.0)
    by later false false false e false true false version after = (tt, tt)
    by later false false false e false false true Absent after = later m true (block ++ line ∷ []) (line_more block line hb h.0)
    by later false false false e false false false Absent after = (tt, tt)
    by later false false false e false false r One after = later m true block hb
    by later false false false e false false r Other after = (tt, tt)

-- ---- the records of a text

both : {A E : Type 0} (r : Result A E) (P Q : A → Type 0) → IfOk r P → IfOk r Q → IfOk r (λ x. P x × Q x)
both (Ok x) P Q p q = (p, q)
both (Err e) P Q p q = tt

sound_answer : (rows : List TypeRow) (block : BlockResult) → IfOk block AreLinesOfBytes → IfOk (answer_of rows block) (IsSoundFound rows)
sound_answer rows (Ok block) h = both (record_of rows block) (λ r. is_legal_record rows r ≡ true) IsSoundRecord (record_of-legal rows block) (record_of-sound rows block h)
sound_answer rows (Err fault) h = tt

sound_answers : (rows : List TypeRow) (blocks : List BlockResult) → AreBlocksOfBytes blocks → AreSoundAnswers rows (answers_on rows blocks)
sound_answers rows [] h = tt
sound_answers rows (block ∷ blocks) h = (sound_answer rows block h.0, sound_answers rows blocks h.1)

pub records_sound : RecordsAreSound
records_sound rows text h =
    sound_answers rows (blocks_of text) (subst AreBlocksOfBytes (remainder_is_blocks false [] (lines_of text)) (remainder-bytes ignored false [] (lines_of text) tt (lines_of-bytes text h)))

pub first_records_sound : FirstRecordsAreSound
first_records_sound rows groups text h = sound_answers rows (blocks_in (read_up_to groups text)) (remainder-bytes (up_to groups) false [] (lines_of text) tt (lines_of-bytes text h))
