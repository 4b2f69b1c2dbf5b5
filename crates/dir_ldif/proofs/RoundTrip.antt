-- The texts of legal records read back as the records.
use Rattle.std.proofs.Common.{◌≡◌, ℕ, zero, suc, ◌+◌, ◌≤◌, Bool, true, false, eqb, List, [], ◌∷◌, ◌++◌, length, map, replicate, codes, refl, sym, ap, subst, ⊎_elim, ◌∙◌, append_assoc, append-nil, length-append, Option, None, Some, Ok, arith}
use Rattle.std.specs.Prelude.{if◌then◌else◌}
use Rattle.std.specs.List.{list_any, list_all, flat_map}
use Rattle.std.proofs.lemmas.Grind.{flat_map-append}
use Rattle.std.proofs.lemmas.List.Folds.{flat_map-map}
use Rattle.base64.specs.Engines.{standard}
use Rattle.base64.specs.Rfc4648.{encode_symbols, padding_len}
use Rattle.base64.proofs.RoundTrip.{length-encode_symbols}
use Rattle.dir_names.specs.declared.schema.TypeRow.{TypeRow}
use Rattle.dir_names.specs.Described.{Described}
use Rattle.dir_names.specs.Names.{SpelledName}
use Rattle.dir_names.specs.Names.Printing.{printed_name, printed_rdn}
use Rattle.dir_ldif.specs.declared.records.Record.{Record}
use Rattle.dir_ldif.specs.declared.records.Record.TheVariants as form
use Rattle.dir_ldif.specs.declared.records.ChangeKind.{ChangeKind}
use Rattle.dir_ldif.specs.declared.records.ChangeKind.TheVariants as kind
use Rattle.dir_ldif.specs.declared.records.Mod.{Mod}
use Rattle.dir_ldif.specs.declared.records.ModOp.{ModOp}
use Rattle.dir_ldif.specs.declared.records.ModOp.TheVariants as op
use Rattle.dir_ldif.specs.declared.reader.version.Version.TheVariants.{Absent}
use Rattle.dir_ldif.specs.Bytes.{is_empty, cut_at}
use Rattle.dir_ldif.specs.LegalRecords.{has_key, is_read_under, is_short, is_legal_line, is_legal_mod, is_legal_kind, is_legal_record}
use Rattle.dir_ldif.specs.LogicalLines.{Line, cut, is_lf, logical_lines, physical_lines, with_first_line}
use Rattle.dir_ldif.specs.Blocks.{blocks_from, blocks_of, version_of, version_of_cut}
use Rattle.dir_ldif.specs.Records.{answers_on, records_of}
use Rattle.dir_ldif.specs.RecordText.{op_word, mod_text, change_word, flag_text, superior_text, kind_text, record_text_of}
use Rattle.dir_ldif.specs.LineText.{base64_of, fold_from, folded_line, is_plain, line_of, value_spec, written_line}
use Rattle.dir_ldif.specs.RoundTrip.{ends_name, without_line, records_text, ReadsBackAs, RecordsReadBack}
use Rattle.dir_ldif.specs.SoundRecords.{AreLegalAndSound, IsSoundKind, IsSoundName, IsSoundRecord, IsSoundSuperior}
use Rattle.dir_ldif.proofs.BytesLemmas.{true_or_false}
use Rattle.dir_ldif.proofs.WrittenBlocks.{Good, AllGood, AllBlocks, texts, block_text, blocks_text, block_reads, blocks_read, first_parts, with_first_line-empty}
use Rattle.dir_ldif.proofs.WrittenRecords.{described_back, refused-none, within, value_line_of, mod_value_lines, mod_front, mod_lines, superior_lines, kind_lines, record_lines, record_of-back}
use Rattle.dir_ldif.proofs.SoundNames.{name_short, rdn_short}
use Rattle.dir_ldif.proofs.Spellings.{IsSpelling, is_spelled, spelled-allowed, spelling_of}
use Rattle.dir_ldif.proofs.WrittenLines.{and_first, and_second, name-end, line-clean, value_spec-tail}

-- ---- the text of a record is that of its lines

dash-text : flat_map folded_line (codes "-" ∷ []) ≡ codes "-\n"
unfolding fold_from
dash-text = refl

mod-text : (m : Mod) → mod_text m ≡ flat_map folded_line (mod_lines m)
mod-text m =
    let values : flat_map folded_line (mod_value_lines m.description m.values) ≡ flat_map (λ v. written_line m.description.spelling v) m.values =
    flat_map-map folded_line (λ v. line_of m.description.spelling v) m.values in
    sym (flat_map-append folded_line (mod_front m) (codes "-" ∷ []) ∙ ap (λ t. flat_map folded_line (mod_front m) ++ t) dash-text ∙ ap (λ t. (written_line (op_word m.op) m.description.spelling ++ t) ++ codes "-\n") values)

mods-text : (mods : List Mod) → flat_map mod_text mods ≡ flat_map folded_line (flat_map mod_lines mods)
mods-text [] = refl
mods-text (m ∷ mods) =
    ap (λ t. t ++ flat_map mod_text mods) (mod-text m) ∙ ap (λ t. flat_map folded_line (mod_lines m) ++ t) (mods-text mods) ∙ sym (flat_map-append folded_line (mod_lines m) (flat_map mod_lines mods))

superior-text : (superior : Option SpelledName) → superior_text superior ≡ flat_map folded_line (superior_lines superior)
superior-text None = refl
superior-text (Some name) = sym (append-nil (written_line (codes "newsuperior") (printed_name name)))

kind-text : (k : ChangeKind) → kind_text k ≡ flat_map folded_line (kind_lines k)
kind-text (kind.Add lines) = sym (flat_map-map folded_line value_line_of lines)
kind-text kind.Delete = refl
kind-text (kind.Modify mods) = mods-text mods
kind-text (kind.Rename rdn flag superior) =
    let a = written_line (codes "newrdn") (printed_rdn rdn) in
    let b = written_line (codes "deleteoldrdn") (flag_text flag) in
    append_assoc a b (superior_text superior) ∙ ap (λ t. a ++ (b ++ t)) (superior-text superior)

record-text : (r : Record) → record_text_of r ≡ block_text (record_lines r)
record-text (form.Content name lines) =
    ap (λ t. (written_line (codes "dn") (printed_name name) ++ t) ++ 10 ∷ []) (sym (flat_map-map folded_line value_line_of lines))
record-text (form.Change change) =
    let a = written_line (codes "dn") (printed_name change.dn) in
    let b = written_line (codes "changetype") (change_word change.kind) in
    ap (λ t. t ++ 10 ∷ []) (append_assoc a b (kind_text change.kind) ∙ ap (λ t. a ++ (b ++ t)) (kind-text change.kind))

pub records-text : (records : List Record) → records_text records ≡ blocks_text (map record_lines records)
records-text [] = refl
records-text (r ∷ rs) = ap (λ t. t ++ records_text rs) (record-text r) ∙ ap (λ t. block_text (record_lines r) ++ t) (records-text rs)

-- ---- the lines are lines of a record

abbrev paddings : ℕ → List ℕ
paddings n = replicate n 61

length-padding : (n : ℕ) → length (paddings n) ≡ n
length-padding zero = refl
length-padding (suc n) = let ih = length-padding n in omega arith

length-base64 : (value : List ℕ) → length value ≤ 1048576 → length (base64_of value) ≤ 1398200
unfolding base64_of
length-base64 value short =
    let symbols = encode_symbols standard.encode_table value in
    omega (arith, length-append symbols (replicate (padding_len (length value)) 61), length-encode_symbols standard.encode_table value, length-padding (padding_len (length value)))

pub length-value_spec : (value : List ℕ) → length value ≤ 1048576 → length (value_spec value) ≤ 1398210
length-value_spec [] short = omega arith
length-value_spec (b ∷ bs) short =
    ⊎_elim
    (λ (yes : is_plain (b ∷ bs) ≡ true). subst (λ v. length (if v then 58 ∷ 32 ∷ b ∷ bs else (58 ∷ 58 ∷ 32 ∷ base64_of (b ∷ bs))) ≤ 1398210) (sym yes) (omega arith))
    (λ (other : is_plain (b ∷ bs) ≡ false).
    subst (λ v. length (if v then 58 ∷ 32 ∷ b ∷ bs else (58 ∷ 58 ∷ 32 ∷ base64_of (b ∷ bs))) ≤ 1398210) (sym other) (omega (arith, length-base64 (b ∷ bs) short)))
    (true_or_false (is_plain (b ∷ bs)))

good_line : (b : ℕ) (name value : List ℕ) → list_any ends_name (b ∷ name) ≡ false → eqb b 32 ≡ false → eqb b 35 ≡ false → length (b ∷ name) ≤ 512 → length value ≤ 1048576
    → Good (line_of (b ∷ name) value)
good_line b name value allowed space hash short short' = (
  line-clean (b ∷ name) value (name-end (b ∷ name) allowed),
  space,
  hash,
  omega (arith, length-append (b ∷ name) (value_spec value), length-value_spec value short'),
)

good_spelled : (text value : List ℕ) → IsSpelling text → length value ≤ 1048576 → Good (line_of text value)
good_spelled [] value s short = cc
good_spelled (b ∷ name) value s short =
    let first = spelled-allowed b (and_first (is_spelled b) (list_all is_spelled name) s.0) in
    good_line b name value (refused-none (b ∷ name) s.0) first.1 first.2 s.2 short

good_op : (o : ModOp) (value : List ℕ) → length value ≤ 1048576 → Good (line_of (op_word o) value)
good_op op.Add value short = good_line 97 (100 ∷ 100 ∷ []) value refl refl refl (omega arith) short
good_op op.Delete value short = good_line 100 (101 ∷ 108 ∷ 101 ∷ 116 ∷ 101 ∷ []) value refl refl refl (omega arith) short
good_op op.Replace value short = good_line 114 (101 ∷ 112 ∷ 108 ∷ 97 ∷ 99 ∷ 101 ∷ []) value refl refl refl (omega arith) short
good_op op.Increment value short = good_line 105 (110 ∷ 99 ∷ 114 ∷ 101 ∷ 109 ∷ 101 ∷ 110 ∷ 116 ∷ []) value refl refl refl (omega arith) short

good_values : (rows : List TypeRow) (lines : List (Described × List ℕ)) → list_all (is_legal_line rows) lines ≡ true → AllGood (map value_line_of lines)
good_values rows [] e = tt
good_values rows (l ∷ ls) e =
    let here = and_first (is_legal_line rows l) (list_all (is_legal_line rows) ls) e in
    let s = spelling_of rows l.0.spelling l.0 (described_back rows l.0 (and_second (is_short l.1) (is_read_under rows l.0) here)) in (
      good_spelled l.0.spelling l.1 s (within l.1 (and_first (is_short l.1) (is_read_under rows l.0) here)),
      good_values rows ls (and_second (is_legal_line rows l) (list_all (is_legal_line rows) ls) e),
    )

good_texts : (d : Described) (values : List (List ℕ)) → IsSpelling d.spelling → list_all is_short values ≡ true → AllGood (mod_value_lines d values)
good_texts d [] s e = tt
good_texts d (v ∷ vs) s e =
    (good_spelled d.spelling v s (within v (and_first (is_short v) (list_all is_short vs) e)), good_texts d vs s (and_second (is_short v) (list_all is_short vs) e))

good-append : (a b : List (List ℕ)) → AllGood a → AllGood b → AllGood (a ++ b)
good-append [] b p q = q
good-append (x ∷ a) b p q = (p.0, good-append a b p.1 q)

good_mods : (rows : List TypeRow) (mods : List Mod) → list_all (is_legal_mod rows) mods ≡ true → AllGood (flat_map mod_lines mods)
good_mods rows [] e = tt
good_mods rows (m ∷ mods) e =
    let here = and_first (is_legal_mod rows m) (list_all (is_legal_mod rows) mods) e in
    let s = spelling_of rows m.description.spelling m.description (described_back rows m.description (and_first (is_read_under rows m.description) (list_all is_short m.values) here)) in
    let short : length m.description.spelling ≤ 1048576 = omega (arith, s.2) in
    let values = good_texts m.description m.values s (and_second (is_read_under rows m.description) (list_all is_short m.values) here) in
    let dash : Good (codes "-") = (refl, refl, refl, omega arith) in
    good-append (mod_lines m) (flat_map mod_lines mods) (good-append (mod_front m) (codes "-" ∷ []) (good_op m.op m.description.spelling short, values) (dash, tt))
    (good_mods rows mods (and_second (is_legal_mod rows m) (list_all (is_legal_mod rows) mods) e))

good_superior : (superior : Option SpelledName) → IsSoundSuperior superior → AllGood (superior_lines superior)
good_superior None back = tt
good_superior (Some name) back = (good_line 110 (101 ∷ 119 ∷ 115 ∷ 117 ∷ 112 ∷ 101 ∷ 114 ∷ 105 ∷ 111 ∷ 114 ∷ []) (printed_name name) refl refl refl (omega arith) (name_short name back), tt)

flag-short : (flag : Bool) → length (flag_text flag) ≤ 1048576
flag-short true = omega arith
flag-short false = omega arith

good_kind : (rows : List TypeRow) (k : ChangeKind) → is_legal_kind rows k ≡ true → IsSoundKind k → AllGood (kind_lines k)
good_kind rows (kind.Add lines) legal back = good_values rows lines legal
good_kind rows kind.Delete legal back = tt
good_kind rows (kind.Modify mods) legal back = good_mods rows mods legal
good_kind rows (kind.Rename rdn flag superior) legal back = (
  good_line 110 (101 ∷ 119 ∷ 114 ∷ 100 ∷ 110 ∷ []) (printed_rdn rdn) refl refl refl (omega arith) (rdn_short rdn back.0),
  (
    good_line 100 (101 ∷ 108 ∷ 101 ∷ 116 ∷ 101 ∷ 111 ∷ 108 ∷ 100 ∷ 114 ∷ 100 ∷ 110 ∷ []) (flag_text flag) refl refl refl (omega arith) (flag-short flag),
    good_superior superior back.1,
  ),
)

word-short : (k : ChangeKind) → length (change_word k) ≤ 1048576
word-short (kind.Add lines) = omega arith
word-short kind.Delete = omega arith
word-short (kind.Modify mods) = omega arith
word-short (kind.Rename rdn flag superior) = omega arith

good_dn : (name : SpelledName) → IsSoundName name → Good (line_of (codes "dn") (printed_name name))
good_dn name back = good_line 100 (110 ∷ []) (printed_name name) refl refl refl (omega arith) (name_short name back)

pub good_record : (rows : List TypeRow) (r : Record) → is_legal_record rows r ≡ true → IsSoundRecord r → AllGood (record_lines r)
good_record rows (form.Content name lines) legal back = (good_dn name back.0, good_values rows lines (and_second (has_key rows name) (list_all (is_legal_line rows) lines) legal))
good_record rows (form.Change change) legal back = (
  good_dn change.dn back.0,
  (
    good_line 99 (104 ∷ 97 ∷ 110 ∷ 103 ∷ 101 ∷ 116 ∷ 121 ∷ 112 ∷ 101 ∷ []) (change_word change.kind) refl refl refl (omega arith) (word-short change.kind),
    good_kind rows change.kind (and_second (has_key rows change.dn) (is_legal_kind rows change.kind) legal) back.1,
  ),
)

some_lines : (r : Record) → is_empty (record_lines r) ≡ false
some_lines (form.Content name lines) = refl
some_lines (form.Change change) = refl

pub good_all : (rows : List TypeRow) (records : List Record) → AreLegalAndSound rows records → AllBlocks (map record_lines records)
good_all rows [] back = tt
good_all rows (r ∷ rs) back = (good_record rows r back.0 back.1, some_lines r, good_all rows rs back.2)

-- ---- the blocks of the text

version-plain_value : (value : List ℕ) → version_of (line_of (codes "dn") value) ≡ Absent
version-plain_value value = ap (λ t. version_of_cut (cut_at 58 (codes "dn" ++ t))) (value_spec-tail value)

first_block : (r : Record) (block : List Line) (n : ℕ) (rest : List Line) → texts block ≡ record_lines r → AllGood (record_lines r)
    → blocks_from false [] (block ++ (n, []) ∷ rest) ≡ Ok block ∷ blocks_from true [] rest
first_block (form.Content name lines) [] n rest e g = cc
first_block (form.Content name lines) (x ∷ xs) n rest e g =
    let here : x.1 ≡ line_of (codes "dn") (printed_name name) = cc in
    first_parts x xs n rest (subst AllGood (sym e) g) (ap version_of here ∙ version-plain_value (printed_name name))
first_block (form.Change change) [] n rest e g = cc
first_block (form.Change change) (x ∷ xs) n rest e g =
    let here : x.1 ≡ line_of (codes "dn") (printed_name change.dn) = cc in
    first_parts x xs n rest (subst AllGood (sym e) g) (ap version_of here ∙ version-plain_value (printed_name change.dn))

pub answers-back : (rows : List TypeRow) (records : List Record) (blocks : List (List Line)) → map texts blocks ≡ map record_lines records → AreLegalAndSound rows records
    → map without_line (answers_on rows (map (λ (b : List Line). Ok b) blocks)) ≡ map (λ (r : Record). Ok (Ok r)) records
answers-back rows [] [] e back = refl
answers-back rows [] (b ∷ bs) e back = cc
answers-back rows (r ∷ rs) [] e back = cc
answers-back rows (r ∷ rs) (b ∷ bs) e back =
    let here : texts b ≡ record_lines r = cc in
    let rest : map texts bs ≡ map record_lines rs = cc in
    ap (λ t. Ok t ∷ map without_line (answers_on rows (map (λ (c : List Line). Ok c) bs))) (record_of-back rows r b here back.0 back.1) ∙ ap (λ t. Ok (Ok r) ∷ t) (answers-back rows rs bs rest back.2)

plain_read : (rows : List TypeRow) (records : List Record) → AreLegalAndSound rows records
    → map without_line (records_of rows (blocks_text (map record_lines records))) ≡ map (λ (r : Record). Ok (Ok r)) records
plain_read rows [] back = refl
plain_read rows (r ∷ rs) back =
    let others = map record_lines rs in
    let good = good_record rows r back.0 back.1 in
    let here = block_reads (record_lines r) (blocks_text others) 1 good in
    let later = blocks_read others (here.1 + 1) (good_all rows rs back.2) in
    let rest = logical_lines (physical_lines (here.1 + 1) (cut is_lf (blocks_text others))) in
    let parts : blocks_of (blocks_text (record_lines r ∷ others)) ≡ map (λ (b : List Line). Ok b) (here.0 ∷ later.0) =
    ap (blocks_from false []) here.3 ∙ first_block r here.0 here.1 rest here.2 good ∙ ap (λ t. Ok here.0 ∷ t) later.2 in
    ap (λ p. map without_line (answers_on rows p)) parts
    ∙ answers-back rows (r ∷ rs) (here.0 ∷ later.0) (ap (λ t. t ∷ map texts later.0) here.2 ∙ ap (λ t. record_lines r ∷ t) later.1) back

version_read : (rows : List TypeRow) (records : List Record) → AreLegalAndSound rows records
    → map without_line (records_of rows (codes "version: 1\n\n" ++ blocks_text (map record_lines records))) ≡ map (λ (r : Record). Ok (Ok r)) records
version_read rows records back =
    let all = map record_lines records in
    let later = blocks_read all 3 (good_all rows records back) in
    let rest = logical_lines (physical_lines 3 (cut is_lf (blocks_text all))) in
    let parts : blocks_of (codes "version: 1\n\n" ++ blocks_text all) ≡ map (λ (b : List Line). Ok b) later.0 =
    ap (λ t. blocks_from false [] (with_first_line (1, codes "version: 1") t)) (with_first_line-empty 2 rest) ∙ later.2 in
    ap (λ p. map without_line (answers_on rows p)) parts ∙ answers-back rows records later.0 later.1 back

pub records-read : RecordsReadBack
records-read rows records back = (
  ap (λ t. map without_line (records_of rows t)) (records-text records) ∙ plain_read rows records back,
  ap (λ t. map without_line (records_of rows (codes "version: 1\n\n" ++ t))) (records-text records) ∙ version_read rows records back,
)

-- one sound record reads back
pub record-read : (r : Record) → IsSoundRecord r → ReadsBackAs (record_text_of r) r
record-read r sound rows legal = ap (λ t. map without_line (records_of rows t)) (sym (append-nil (record_text_of r))) ∙ (records-read rows (r ∷ []) (legal, sound, tt)).0
