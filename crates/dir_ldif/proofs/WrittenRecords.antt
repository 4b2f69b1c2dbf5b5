-- The lines of a record read back as the record.
use Rattle.std.proofs.Common.{◌≡◌, ℕ, zero, suc, ◌<◌, ◌≤◌, Bool, true, false, ◌&&◌, eqb, List, [], ◌∷◌, ◌++◌, length, map, codes, refl, ap, ◌∙◌, append_assoc, Option, None, Some, is_some, Result, Ok, Err, arith}
use Rattle.std.specs.Prelude.{nat_lt, if◌then◌else◌}
use Rattle.std.specs.Str.{bytes_eq}
use Rattle.std.specs.List.{list_any, list_all, flat_map}
use Rattle.std.proofs.lemmas.Bool.Decides.{nat_tests}
use Rattle.base64.specs.GeneralPurpose.{IsBytes}
use Rattle.dir_names.specs.declared.fault.NameFault.{NameFault}
use Rattle.dir_names.specs.declared.schema.TypeRow.{TypeRow}
use Rattle.dir_names.specs.Described.{Described}
use Rattle.dir_names.specs.Descriptions.{description_of}
use Rattle.dir_names.specs.Names.{SpelledName, SpelledRdn}
use Rattle.dir_names.specs.NameKeys.{name_key, rdn_key}
use Rattle.dir_names.specs.Orders.{attr_eq, attr_eq_decides}
use Rattle.dir_names.specs.Names.Printing.{printed_name, printed_rdn}
use Rattle.dir_names.specs.Outcome.{ok_or_bad_dn}
use Rattle.dir_ldif.specs.declared.faults.RecordFault.TheVariants.{Control}
use Rattle.dir_ldif.specs.declared.records.Record.{Record}
use Rattle.dir_ldif.specs.declared.records.Record.TheVariants as form
use Rattle.dir_ldif.specs.declared.records.ChangeKind.{ChangeKind}
use Rattle.dir_ldif.specs.declared.records.ChangeKind.TheVariants as kind
use Rattle.dir_ldif.specs.declared.records.Mod.{Mod}
use Rattle.dir_ldif.specs.declared.records.ModOp.{ModOp}
use Rattle.dir_ldif.specs.declared.records.ModOp.TheVariants as op
use Rattle.dir_ldif.specs.Bytes.{is_empty}
use Rattle.dir_ldif.specs.LogicalLines.{Line, cut}
use Rattle.dir_names.specs.Results.{and_then}
use Rattle.dir_ldif.specs.AttrVal.{attrval_of}
use Rattle.dir_ldif.specs.RecordGrammar.{as_record_fault, body_of, change_of, content_of, dn_line, flag_of, is_dash, is_keyword, legal_dn, legal_rdn, mod_head, mod_of, mod_value, mods_of, op_of, record_of, rename_of, superior_of, try_map, value_line, value_lines}
use Rattle.dir_ldif.specs.LegalRecords.{has_key, rdn_has_key, has_this_key, is_read_under, is_short, is_legal_line, is_legal_mod, superior_has_key, is_legal_kind, is_legal_record}
use Rattle.dir_ldif.specs.RoundTrip.{ends_name}
use Rattle.dir_ldif.specs.SoundRecords.{AreBytes, IsSoundKind, IsSoundName, IsSoundRdn, IsSoundRecord, IsSoundSuperior, ModsAreBytes, ValuesAreBytes}
use Rattle.dir_ldif.specs.RecordText.{op_word, change_word, flag_text}
use Rattle.dir_ldif.specs.LineText.{line_of, value_spec}
use Rattle.dir_ldif.proofs.GrammarLemmas.{cut-piece}
use Rattle.dir_ldif.proofs.WrittenBlocks.{texts}
use Rattle.dir_ldif.proofs.ReadIsLegal.{known, description_of-spelling}
use Rattle.dir_ldif.proofs.SoundNames.{name_short, name_bytes, name_back, rdn_short, rdn_bytes, rdn_back}
use Rattle.dir_ldif.proofs.Spellings.{IsSpelling, is_spelled, spelled-allowed, spelling_of}
use Rattle.dir_ldif.proofs.WrittenLines.{and_first, and_second, both, attrval_of-line, name-colon, value_spec-tail}

-- ---- descriptions

same_described : (e d : Described) → e.spelling ≡ d.spelling → e.key ≡ d.key → e ≡ d
same_described e d p q = λ i. record { spelling = p i; key = q i }

same_read : (r : Result Described NameFault) (d : Described) → ((e : Described) → r ≡ Ok e → e.spelling ≡ d.spelling) → has_this_key d.key r ≡ true → r ≡ Ok d
same_read (Ok e) d s h = ap Ok (same_described e d (s e refl) ((attr_eq_decides e.key d.key).0 h))
same_read (Err f) d s h = cc

pub described_back : (rows : List TypeRow) (d : Described) → is_read_under rows d ≡ true → description_of rows d.spelling ≡ Ok d
described_back rows d h =
    same_read (description_of rows d.spelling) d (λ e r. known (description_of rows d.spelling) (λ (t : Described). t.spelling ≡ d.spelling) e (description_of-spelling rows d.spelling) r) h

-- ---- the names of lines

pub refused-none : (xs : List ℕ) → list_all is_spelled xs ≡ true → list_any ends_name xs ≡ false
refused-none [] e = refl
refused-none (x ∷ xs) e =
    let here : ends_name x ≡ false = (spelled-allowed x (and_first (is_spelled x) (list_all is_spelled xs) e)).0 in
    rw (here, refused-none xs (and_second (is_spelled x) (list_all is_spelled xs) e)) refl

pub within : (value : List ℕ) → is_short value ≡ true → length value ≤ 1048576
within value e = grind (arith, nat_tests)

pub attrval_of-spelled : (text value : List ℕ) → IsSpelling text → IsBytes value → length value ≤ 1048576 → attrval_of (line_of text value) ≡ Ok (text, value)
attrval_of-spelled [] value s bytes short = cc
attrval_of-spelled (b ∷ name) value s bytes short = attrval_of-line b name value (name-colon (b ∷ name) (refused-none (b ∷ name) s.0)) bytes short

value_line-back : (rows : List TypeRow) (l : Described × List ℕ) (line : Line) → line.1 ≡ line_of l.0.spelling l.1 → is_legal_line rows l ≡ true → IsBytes l.1 → value_line rows line ≡ Ok l
value_line-back rows l line e legal bytes =
    let d = described_back rows l.0 (and_second (is_short l.1) (is_read_under rows l.0) legal) in
    let part : attrval_of line.1 ≡ Ok (l.0.spelling, l.1) =
    ap attrval_of e ∙ attrval_of-spelled l.0.spelling l.1 (spelling_of rows l.0.spelling l.0 d) bytes (within l.1 (and_first (is_short l.1) (is_read_under rows l.0) legal)) in
    rw (part, d) refl

abbrev pub value_line_of : Described × List ℕ → List ℕ
value_line_of l = line_of l.0.spelling l.1

pub value_lines-back : (rows : List TypeRow) (ls : List (Described × List ℕ)) (block : List Line) → texts block ≡ map value_line_of ls → list_all (is_legal_line rows) ls ≡ true → ValuesAreBytes ls
    → value_lines rows block ≡ Ok ls
value_lines-back rows [] [] e legal bytes = refl
value_lines-back rows [] (x ∷ xs) e legal bytes = cc
value_lines-back rows (l ∷ ls) [] e legal bytes = cc
value_lines-back rows (l ∷ ls) (x ∷ xs) e legal bytes =
    let here : x.1 ≡ value_line_of l = cc in
    let rest : texts xs ≡ map value_line_of ls = cc in
    let first = value_line-back rows l x here (and_first (is_legal_line rows l) (list_all (is_legal_line rows) ls) legal) bytes.0 in
    let later = value_lines-back rows ls xs rest (and_second (is_legal_line rows l) (list_all (is_legal_line rows) ls) legal) bytes.1 in
    rw (first, later) refl

-- ---- names

key-known : {A : Type 0} (o : Option A) → is_some o ≡ true → (k : A) × (as_record_fault (ok_or_bad_dn o) ≡ Ok k)
key-known None e = cc
key-known (Some k) e = (k, refl)

legal_dn-back : (rows : List TypeRow) (name : SpelledName) → IsSoundName name → has_key rows name ≡ true → legal_dn rows (printed_name name) ≡ Ok name
legal_dn-back rows name back key = let k = key-known (name_key rows name) key in let read = name_back name back in rw (read, k.1) refl

legal_rdn-back : (rows : List TypeRow) (rdn : SpelledRdn) → IsSoundRdn rdn → rdn_has_key rows rdn ≡ true → legal_rdn rows (printed_rdn rdn) ≡ Ok rdn
legal_rdn-back rows rdn back key = let k = key-known (rdn_key rows rdn) key in let read = rdn_back rdn back in rw (read, k.1) refl

dn_line-back : (rows : List TypeRow) (name : SpelledName) (line : Line) → line.1 ≡ line_of (codes "dn") (printed_name name) → IsSoundName name → has_key rows name ≡ true → dn_line rows line ≡ Ok name
dn_line-back rows name line e back key =
    let part : attrval_of line.1 ≡ Ok (codes "dn", printed_name name) = ap attrval_of e ∙ attrval_of-line 100 (110 ∷ []) (printed_name name) refl (name_bytes name back) (name_short name back) in
    rw (part, legal_dn-back rows name back key) refl

-- ---- modifications

spelled-byte : (b : ℕ) → is_spelled b ≡ true → b < 256
spelled-byte b e = grind (arith, nat_tests)

all_bytes : (xs : List ℕ) → list_all is_spelled xs ≡ true → IsBytes xs
all_bytes [] e i = omega arith
all_bytes (x ∷ xs) e zero = let here = and_first (is_spelled x) (list_all is_spelled xs) e in spelled-byte x here
all_bytes (x ∷ xs) e (suc i) = all_bytes xs (and_second (is_spelled x) (list_all is_spelled xs) e) i

abbrev pub mod_value_lines : Described → List (List ℕ) → List (List ℕ)
mod_value_lines d values = map (λ v. line_of d.spelling v) values

mod_value-back : (rows : List TypeRow) (d : Described) (value : List ℕ) (line : Line) → line.1 ≡ line_of d.spelling value → is_read_under rows d ≡ true → is_short value ≡ true → IsBytes value
    → mod_value rows d line ≡ Ok value
mod_value-back rows d value line e read short bytes =
    let l : value_line rows line ≡ Ok (d, value) = value_line-back rows (d, value) line e (both (is_short value) (is_read_under rows d) short read) bytes in
    let same : attr_eq d.key d.key ≡ true = (attr_eq_decides d.key d.key).1 refl in
    rw (l, same) refl

mod_values-back : (rows : List TypeRow) (d : Described) (values : List (List ℕ)) (block : List Line) → texts block ≡ mod_value_lines d values → is_read_under rows d ≡ true → list_all is_short values ≡ true
    → AreBytes values → try_map (mod_value rows d) block ≡ Ok values
mod_values-back rows d [] [] e read short bytes = refl
mod_values-back rows d [] (x ∷ xs) e read short bytes = cc
mod_values-back rows d (v ∷ vs) [] e read short bytes = cc
mod_values-back rows d (v ∷ vs) (x ∷ xs) e read short bytes =
    let here : x.1 ≡ line_of d.spelling v = cc in
    let rest : texts xs ≡ mod_value_lines d vs = cc in
    let first = mod_value-back rows d v x here read (and_first (is_short v) (list_all is_short vs) short) bytes.0 in
    let later = mod_values-back rows d vs xs rest read (and_second (is_short v) (list_all is_short vs) short) bytes.1 in
    rw (first, later) refl

attrval_of-op : (o : ModOp) (value : List ℕ) → IsBytes value → length value ≤ 1048576 → attrval_of (line_of (op_word o) value) ≡ Ok (op_word o, value)
attrval_of-op op.Add value bytes short = attrval_of-line 97 (100 ∷ 100 ∷ []) value refl bytes short
attrval_of-op op.Delete value bytes short = attrval_of-line 100 (101 ∷ 108 ∷ 101 ∷ 116 ∷ 101 ∷ []) value refl bytes short
attrval_of-op op.Replace value bytes short = attrval_of-line 114 (101 ∷ 112 ∷ 108 ∷ 97 ∷ 99 ∷ 101 ∷ []) value refl bytes short
attrval_of-op op.Increment value bytes short = attrval_of-line 105 (110 ∷ 99 ∷ 114 ∷ 101 ∷ 109 ∷ 101 ∷ 110 ∷ 116 ∷ []) value refl bytes short

op_of-word : (o : ModOp) → op_of (op_word o) ≡ Some o
op_of-word op.Add = refl
op_of-word op.Delete = refl
op_of-word op.Replace = refl
op_of-word op.Increment = refl

mod_head-back : (rows : List TypeRow) (o : ModOp) (d : Described) (line : Line) → line.1 ≡ line_of (op_word o) d.spelling → is_read_under rows d ≡ true → mod_head rows line ≡ Ok (o, d)
mod_head-back rows o d line e read =
    let known_d = described_back rows d read in
    let s = spelling_of rows d.spelling d known_d in
    let short : length d.spelling ≤ 1048576 = omega (arith, s.2) in
    let part : attrval_of line.1 ≡ Ok (op_word o, d.spelling) = ap attrval_of e ∙ attrval_of-op o d.spelling (all_bytes d.spelling s.0) short in
    rw (part, op_of-word o, known_d) refl

abbrev pub mod_front : Mod → List (List ℕ)
mod_front m = line_of (op_word m.op) m.description.spelling ∷ mod_value_lines m.description m.values

mod_of-back : (rows : List TypeRow) (m : Mod) (block : List Line) → texts block ≡ mod_front m → is_legal_mod rows m ≡ true → AreBytes m.values → mod_of rows block ≡ Ok m
mod_of-back rows m [] e legal bytes = cc
mod_of-back rows m (x ∷ xs) e legal bytes =
    let here : x.1 ≡ line_of (op_word m.op) m.description.spelling = cc in
    let rest : texts xs ≡ mod_value_lines m.description m.values = cc in
    let read = and_first (is_read_under rows m.description) (list_all is_short m.values) legal in
    let head = mod_head-back rows m.op m.description x here read in
    let values = mod_values-back rows m.description m.values xs rest read (and_second (is_read_under rows m.description) (list_all is_short m.values) legal) bytes in
    rw (head, values) refl

-- some lines of a block
split_texts : (block : List Line) (a b : List (List ℕ)) → texts block ≡ a ++ b → (x : List Line) × (y : List Line) × (block ≡ x ++ y) × (texts x ≡ a) × (texts y ≡ b)
split_texts block [] b e = ([], block, refl, refl, e)
split_texts [] (t ∷ a) b e = cc
split_texts (l ∷ block) (t ∷ a) b e =
    let here : l.1 ≡ t = cc in
    let rest : texts block ≡ a ++ b = cc in
    let r = split_texts block a b rest in
    (l ∷ r.0, r.1, ap (λ q. l ∷ q) r.2, ap (λ q. q ∷ texts r.0) here ∙ ap (λ q. t ∷ q) r.3, r.4)

dash_tail : (name value : List ℕ) → bytes_eq (name ++ value_spec value) [] ≡ false
dash_tail [] value = ap (λ t. bytes_eq t []) (value_spec-tail value)
dash_tail (n ∷ name) value = refl

not_both : (v w : Bool) → w ≡ false → (v && w) ≡ false
not_both true w e = e
not_both false w e = refl

not_dash : (line : Line) (name value : List ℕ) → is_empty name ≡ false → line.1 ≡ line_of name value → is_dash line ≡ false
not_dash line [] value some e = cc
not_dash line (b ∷ name) value some e = ap (λ t. bytes_eq t (codes "-")) e ∙ not_both (eqb b 45) _ (dash_tail name value)

no_dashes : (d : Described) (values : List (List ℕ)) (block : List Line) → is_empty d.spelling ≡ false → texts block ≡ mod_value_lines d values → list_any is_dash block ≡ false
no_dashes d [] [] some e = refl
no_dashes d [] (x ∷ xs) some e = cc
no_dashes d (v ∷ vs) [] some e = cc
no_dashes d (v ∷ vs) (x ∷ xs) some e =
    let here : x.1 ≡ line_of d.spelling v = cc in
    let rest : texts xs ≡ mod_value_lines d vs = cc in
    rw (not_dash x d.spelling v some here, no_dashes d vs xs some rest) refl

pub op_some : (o : ModOp) → is_empty (op_word o) ≡ false
op_some op.Add = refl
op_some op.Delete = refl
op_some op.Replace = refl
op_some op.Increment = refl

front_no_dash : (m : Mod) (block : List Line) → is_empty m.description.spelling ≡ false → texts block ≡ mod_front m → list_any is_dash block ≡ false
front_no_dash m [] some e = cc
front_no_dash m (x ∷ xs) some e =
    let here : x.1 ≡ line_of (op_word m.op) m.description.spelling = cc in
    let rest : texts xs ≡ mod_value_lines m.description m.values = cc in
    rw (not_dash x (op_word m.op) m.description.spelling (op_some m.op) here, no_dashes m.description m.values xs some rest) refl

abbrev pub mod_lines : Mod → List (List ℕ)
mod_lines m = mod_front m ++ codes "-" ∷ []

-- the lines of one modification, its `-`, and the others
mods_more : (rows : List TypeRow) (m : Mod) (mods : List Mod) (block x : List Line) (dash : Line) (y : List Line) → block ≡ x ++ dash ∷ y → texts x ≡ mod_front m → dash.1 ≡ codes "-"
    → is_empty m.description.spelling ≡ false → is_legal_mod rows m ≡ true → AreBytes m.values → try_map (mod_of rows) (cut is_dash y) ≡ Ok mods → mods_of rows block ≡ Ok (m ∷ mods)
mods_more rows m mods block x dash y whole front back some legal bytes later =
    let piece : cut is_dash block ≡ x ∷ cut is_dash y = ap (cut is_dash) whole ∙ cut-piece is_dash x dash y (front_no_dash m x some front) (ap (λ t. bytes_eq t (codes "-")) back) in
    let first = mod_of-back rows m x front legal bytes in
    ap (try_map (mod_of rows)) piece ∙ rw (first, later) refl

-- a first line, if there is one
first_of_texts : (y : List Line) (t : List ℕ) (ts : List (List ℕ)) → texts y ≡ t ∷ ts → (l : Line) × (ls : List Line) × (y ≡ l ∷ ls) × (l.1 ≡ t) × (texts ls ≡ ts)
first_of_texts [] t ts e = cc
first_of_texts (l ∷ ls) t ts e = (l, ls, refl, cc, cc)

pub mods_of-back : (rows : List TypeRow) (mods : List Mod) (block : List Line) → texts block ≡ flat_map mod_lines mods → list_all (is_legal_mod rows) mods ≡ true → ModsAreBytes mods
    → mods_of rows block ≡ Ok mods
mods_of-back rows [] [] e legal bytes = refl
mods_of-back rows [] (x ∷ xs) e legal bytes = cc
mods_of-back rows (m ∷ mods) block e legal bytes =
    let legal_here = and_first (is_legal_mod rows m) (list_all (is_legal_mod rows) mods) legal in
    let read = and_first (is_read_under rows m.description) (list_all is_short m.values) legal_here in
    let some : is_empty m.description.spelling ≡ false = (spelling_of rows m.description.spelling m.description (described_back rows m.description read)).1 in
    let whole : texts block ≡ mod_front m ++ (codes "-" ∷ flat_map mod_lines mods) = e ∙ append_assoc (mod_front m) (codes "-" ∷ []) (flat_map mod_lines mods) in
    let s = split_texts block (mod_front m) (codes "-" ∷ flat_map mod_lines mods) whole in
    let d = first_of_texts s.1 (codes "-") (flat_map mod_lines mods) s.4 in
    let later = mods_of-back rows mods d.1 d.4 (and_second (is_legal_mod rows m) (list_all (is_legal_mod rows) mods) legal) bytes.1 in
    mods_more rows m mods block s.0 d.0 d.1 (s.2 ∙ ap (λ t. s.0 ++ t) d.2) s.3 d.3 some legal_here bytes.0 later

-- ---- renames

abbrev pub superior_lines : Option SpelledName → List (List ℕ)
superior_lines None = []
superior_lines (Some name) = line_of (codes "newsuperior") (printed_name name) ∷ []

superior-back : (rows : List TypeRow) (superior : Option SpelledName) (block : List Line) → texts block ≡ superior_lines superior → superior_has_key rows superior ≡ true → IsSoundSuperior superior
    → superior_of rows block ≡ Ok superior
superior-back rows None [] e key back = refl
superior-back rows None (x ∷ xs) e key back = cc
superior-back rows (Some name) [] e key back = cc
superior-back rows (Some name) (x ∷ y ∷ ys) e key back = cc
superior-back rows (Some name) (x ∷ []) e key back =
    let here : x.1 ≡ line_of (codes "newsuperior") (printed_name name) = cc in
    let part : attrval_of x.1 ≡ Ok (codes "newsuperior", printed_name name) =
    ap attrval_of here ∙ attrval_of-line 110 (101 ∷ 119 ∷ 115 ∷ 117 ∷ 112 ∷ 101 ∷ 114 ∷ 105 ∷ 111 ∷ 114 ∷ []) (printed_name name) refl (name_bytes name back) (name_short name back) in
    rw (part, legal_dn-back rows name back key) refl

few_bytes : (xs : List ℕ) → list_all (λ b. nat_lt b 256) xs ≡ true → IsBytes xs
few_bytes [] e i = omega arith
few_bytes (x ∷ xs) e zero = let here : nat_lt x 256 ≡ true = and_first (nat_lt x 256) (list_all (λ b. nat_lt b 256) xs) e in grind (arith, nat_tests)
few_bytes (x ∷ xs) e (suc i) = few_bytes xs (and_second (nat_lt x 256) (list_all (λ b. nat_lt b 256) xs) e) i

flag-bytes : (flag : Bool) → IsBytes (flag_text flag) × (length (flag_text flag) ≤ 1048576) × (flag_of (flag_text flag) ≡ Ok flag)
flag-bytes true = (few_bytes (codes "1") refl, omega arith, refl)
flag-bytes false = (few_bytes (codes "0") refl, omega arith, refl)

rename-back : (rows : List TypeRow) (rdn : SpelledRdn) (flag : Bool) (superior : Option SpelledName) (x y : Line) (ys : List Line) → x.1 ≡ line_of (codes "newrdn") (printed_rdn rdn)
    → y.1 ≡ line_of (codes "deleteoldrdn") (flag_text flag) → texts ys ≡ superior_lines superior → rdn_has_key rows rdn ≡ true → superior_has_key rows superior ≡ true → IsSoundRdn rdn
    → IsSoundSuperior superior → rename_of rows (x ∷ y ∷ ys) ≡ Ok (kind.Rename rdn flag superior)
rename-back rows rdn flag superior x y ys ex ey es key key' back back' =
    let f = flag-bytes flag in
    let first : attrval_of x.1 ≡ Ok (codes "newrdn", printed_rdn rdn) =
    ap attrval_of ex ∙ attrval_of-line 110 (101 ∷ 119 ∷ 114 ∷ 100 ∷ 110 ∷ []) (printed_rdn rdn) refl (rdn_bytes rdn back) (rdn_short rdn back) in
    let second : attrval_of y.1 ≡ Ok (codes "deleteoldrdn", flag_text flag) =
    ap attrval_of ey ∙ attrval_of-line 100 (101 ∷ 108 ∷ 101 ∷ 116 ∷ 101 ∷ 111 ∷ 108 ∷ 100 ∷ 114 ∷ 100 ∷ 110 ∷ []) (flag_text flag) refl f.0 f.1 in
    rw (first, legal_rdn-back rows rdn back key, second, f.2, superior-back rows superior ys es key' back') refl

-- ---- changes

abbrev pub kind_lines : ChangeKind → List (List ℕ)
kind_lines (kind.Add lines) = map value_line_of lines
kind_lines kind.Delete = []
kind_lines (kind.Modify mods) = flat_map mod_lines mods
kind_lines (kind.Rename rdn flag superior) =
    line_of (codes "newrdn") (printed_rdn rdn) ∷ line_of (codes "deleteoldrdn") (flag_text flag) ∷ superior_lines superior

two_lines : (block : List Line) (a b : List ℕ) (ts : List (List ℕ)) → texts block ≡ a ∷ b ∷ ts
    → (x : Line) × (y : Line) × (ys : List Line) × (block ≡ x ∷ y ∷ ys) × (x.1 ≡ a) × (y.1 ≡ b) × (texts ys ≡ ts)
two_lines [] a b ts e = cc
two_lines (x ∷ []) a b ts e = cc
two_lines (x ∷ y ∷ ys) a b ts e = (x, y, ys, refl, cc, cc, cc)

pub change_of-back : (rows : List TypeRow) (k : ChangeKind) (block : List Line) → texts block ≡ kind_lines k → is_legal_kind rows k ≡ true → IsSoundKind k → change_of rows (change_word k) block ≡ Ok k
change_of-back rows (kind.Add lines) block e legal back = let ls = value_lines-back rows lines block e legal back in rw ls refl
change_of-back rows kind.Delete [] e legal back = refl
change_of-back rows kind.Delete (x ∷ xs) e legal back = cc
change_of-back rows (kind.Modify mods) block e legal back = let ms = mods_of-back rows mods block e legal back in rw ms refl
change_of-back rows (kind.Rename rdn flag superior) block e legal back =
    let b = two_lines block (line_of (codes "newrdn") (printed_rdn rdn)) (line_of (codes "deleteoldrdn") (flag_text flag)) (superior_lines superior) e in
    ap (rename_of rows) b.3
    ∙ rename-back rows rdn flag superior b.0 b.1 b.2 b.4 b.5 b.6 (and_first (rdn_has_key rows rdn) (superior_has_key rows superior) legal)
    (and_second (rdn_has_key rows rdn) (superior_has_key rows superior) legal) back.0 back.1

-- ---- records

abbrev pub record_lines : Record → List (List ℕ)
record_lines (form.Content name lines) = line_of (codes "dn") (printed_name name) ∷ map value_line_of lines
record_lines (form.Change change) =
    line_of (codes "dn") (printed_name change.dn) ∷ line_of (codes "changetype") (change_word change.kind) ∷ kind_lines change.kind

word-bytes : (k : ChangeKind) → IsBytes (change_word k) × (length (change_word k) ≤ 1048576)
word-bytes (kind.Add lines) = (few_bytes (change_word (kind.Add lines)) refl, omega arith)
word-bytes kind.Delete = (few_bytes (change_word kind.Delete) refl, omega arith)
word-bytes (kind.Modify mods) = (few_bytes (change_word (kind.Modify mods)) refl, omega arith)
word-bytes (kind.Rename rdn flag superior) = (few_bytes (change_word (kind.Rename rdn flag superior)) refl, omega arith)

content_after : (rows : List TypeRow) (name : SpelledName) (lines : List (Described × List ℕ)) (x : Line) (xs : List Line) (p : List ℕ × List ℕ) → attrval_of x.1 ≡ Ok p
    → is_keyword p.0 (codes "control") ≡ false → is_keyword p.0 (codes "changetype") ≡ false → value_lines rows (x ∷ xs) ≡ Ok lines → body_of rows name (x ∷ xs) ≡ Ok (form.Content name lines)
content_after rows name lines x xs p part control change e =
    ap (λ r. and_then r (λ q. if is_keyword q.0 (codes "control") then Err Control else (if is_keyword q.0 (codes "changetype") then and_then (change_of rows q.1 xs) (λ k. Ok (form.Change (record { dn = name; kind = k }))) else content_of rows name (x ∷ xs)))) part
    ∙ (rw (control, change) (ap (λ r. and_then r (λ ls. Ok (form.Content name ls))) e))

-- the second line of a content record is no keyword's
content-back : (rows : List TypeRow) (name : SpelledName) (lines : List (Described × List ℕ)) (block : List Line) → texts block ≡ map value_line_of lines → list_all (is_legal_line rows) lines ≡ true
    → ValuesAreBytes lines → body_of rows name block ≡ Ok (form.Content name lines)
content-back rows name [] [] e legal bytes = refl
content-back rows name [] (x ∷ xs) e legal bytes = cc
content-back rows name (l ∷ ls) [] e legal bytes = cc
content-back rows name (l ∷ ls) (x ∷ xs) e legal bytes =
    let here : x.1 ≡ value_line_of l = cc in
    let legal_here = and_first (is_legal_line rows l) (list_all (is_legal_line rows) ls) legal in
    let d = described_back rows l.0 (and_second (is_short l.1) (is_read_under rows l.0) legal_here) in
    let s = spelling_of rows l.0.spelling l.0 d in
    let part : attrval_of x.1 ≡ Ok (l.0.spelling, l.1) = ap attrval_of here ∙ attrval_of-spelled l.0.spelling l.1 s bytes.0 (within l.1 (and_first (is_short l.1) (is_read_under rows l.0) legal_here)) in
    let whole = value_lines-back rows (l ∷ ls) (x ∷ xs) e legal bytes in
    content_after rows name (l ∷ ls) x xs (l.0.spelling, l.1) part s.3 s.4 whole

change-back : (rows : List TypeRow) (name : SpelledName) (k : ChangeKind) (block : List Line) → texts block ≡ line_of (codes "changetype") (change_word k) ∷ kind_lines k → is_legal_kind rows k ≡ true
    → IsSoundKind k → body_of rows name block ≡ Ok (form.Change (record { dn = name; kind = k }))
change-back rows name k [] e legal back = cc
change-back rows name k (x ∷ xs) e legal back =
    let here : x.1 ≡ line_of (codes "changetype") (change_word k) = cc in
    let rest : texts xs ≡ kind_lines k = cc in
    let w = word-bytes k in
    let part : attrval_of x.1 ≡ Ok (codes "changetype", change_word k) =
    ap attrval_of here ∙ attrval_of-line 99 (104 ∷ 97 ∷ 110 ∷ 103 ∷ 101 ∷ 116 ∷ 121 ∷ 112 ∷ 101 ∷ []) (change_word k) refl w.0 w.1 in
    let change = change_of-back rows k xs rest legal back in
    rw (part, change) refl

pub record_of-back : (rows : List TypeRow) (r : Record) (block : List Line) → texts block ≡ record_lines r → is_legal_record rows r ≡ true → IsSoundRecord r → record_of rows block ≡ Ok r
unfolding record_of
record_of-back rows (form.Content name lines) [] e legal back = cc
record_of-back rows (form.Content name lines) (x ∷ xs) e legal back =
    let here : x.1 ≡ line_of (codes "dn") (printed_name name) = cc in
    let rest : texts xs ≡ map value_line_of lines = cc in
    let dn = dn_line-back rows name x here back.0 (and_first (has_key rows name) (list_all (is_legal_line rows) lines) legal) in
    let body = content-back rows name lines xs rest (and_second (has_key rows name) (list_all (is_legal_line rows) lines) legal) back.1 in
    ap (λ r. and_then r (λ n. body_of rows n xs)) dn ∙ body
record_of-back rows (form.Change change) [] e legal back = cc
record_of-back rows (form.Change change) (x ∷ xs) e legal back =
    let here : x.1 ≡ line_of (codes "dn") (printed_name change.dn) = cc in
    let rest : texts xs ≡ line_of (codes "changetype") (change_word change.kind) ∷ kind_lines change.kind = cc in
    let dn = dn_line-back rows change.dn x here back.0 (and_first (has_key rows change.dn) (is_legal_kind rows change.kind) legal) in
    let body = change-back rows change.dn change.kind xs rest (and_second (has_key rows change.dn) (is_legal_kind rows change.kind) legal) back.1 in
    ap (λ r. and_then r (λ n. body_of rows n xs)) dn ∙ body
