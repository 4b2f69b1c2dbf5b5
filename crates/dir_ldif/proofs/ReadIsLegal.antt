-- The record of a block is legal.
use Rattle.std.proofs.Common.{◌≡◌, ℕ, Bool, true, false, cond, ◌&&◌, List, [], ◌∷◌, length, codes, refl, ap, subst, ◌∙◌, Option, None, Some, is_some, Result, Ok, Err, IfOk, arith, nat_le, nat_lt}
use Rattle.std.specs.List.{list_all}
use Rattle.std.proofs.lemmas.Bool.Decides.{nat_tests}
use Rattle.dir_names.specs.declared.fault.NameFault.{NameFault}
use Rattle.dir_names.specs.declared.schema.TypeRow.{TypeRow}
use Rattle.dir_names.specs.Cut.{parts_at}
use Rattle.dir_names.specs.Described.{Described}
use Rattle.dir_names.specs.Descriptions.{description_of, description_from, is_type, is_option, is_reserved}
use Rattle.dir_names.specs.Names.{SpelledName, SpelledRdn}
use Rattle.dir_names.specs.NameKeys.{name_key, rdn_key}
use Rattle.dir_names.specs.Orders.{attr_eq, attr_eq_decides}
use Rattle.dir_names.specs.Names.Reading.{name_within_limits, rdn_within_limit}
use Rattle.dir_names.specs.Outcome.{ok_or_bad_dn}
use Rattle.dir_ldif.specs.declared.faults.RecordFault.{RecordFault}
use Rattle.dir_ldif.specs.declared.records.Record.{Record}
use Rattle.dir_ldif.specs.declared.records.ChangeKind.{ChangeKind}
use Rattle.dir_ldif.specs.declared.records.ModOp.{ModOp}
use Rattle.dir_ldif.specs.Bytes.{cut_at}
use Rattle.dir_ldif.specs.LogicalLines.{Line, cut}
use Rattle.dir_names.specs.Results.{and_then}
use Rattle.dir_ldif.specs.AttrVal.{attrval_of, attrval_of_cut, attrval_from, value_of, within_limit}
use Rattle.dir_ldif.specs.RecordGrammar.{as_record_fault, body_of, change_of, content_of, deletion_of, dn_line, flag_of, head_of, is_dash, is_keyword, legal_dn, legal_rdn, mod_head, mod_of, mod_value, mods_of, only_superior, op_of, record_of, rename_after_rdn, rename_line, rename_of, superior_of, try_map, value_line, value_lines}
use Rattle.dir_ldif.specs.LegalRecords.{has_key, rdn_has_key, has_this_key, is_read_under, is_short, is_legal_line, is_legal_mod, superior_has_key, is_legal_kind, is_legal_record}

pub after : {A B E : Type 0} (r : Result A E) (next : A → Result B E) (P : B → Type 0) → ((x : A) → r ≡ Ok x → IfOk (next x) P) → IfOk (and_then r next) P
after (Ok x) next P h = h x refl
after (Err e) next P h = tt

-- a fact of the value, where there is one
pub known : {A E : Type 0} (r : Result A E) (P : A → Type 0) (x : A) → IfOk r P → r ≡ Ok x → P x
known (Ok y) P x h e = let same : y ≡ x = cc in subst P same h
known (Err f) P x h e = cc

pub chosen : {B E : Type 0} (v : Bool) (r q : Result B E) (P : B → Type 0) → (v ≡ true → IfOk r P) → (v ≡ false → IfOk q P) → IfOk (cond v r q) P
chosen true r q P g h = g refl
chosen false r q P g h = h refl

-- ---- values

within_limit-short : (value : List ℕ) → IfOk (within_limit value) (λ v. is_short v ≡ true)
within_limit-short value = chosen (nat_lt 1048576 (length value)) _ _ (λ v. is_short v ≡ true) (λ _. tt) (λ e. grind (arith, nat_tests))

parts-short : (name rest : List ℕ) → IfOk (attrval_from name rest) (λ p. is_short p.1 ≡ true)
parts-short [] rest = tt
parts-short (b ∷ name) rest =
    after (and_then (value_of rest) within_limit) _ (λ p. is_short p.1 ≡ true)
    (λ value e. known (and_then (value_of rest) within_limit) (λ v. is_short v ≡ true) value (after (value_of rest) within_limit (λ v. is_short v ≡ true) (λ v _. within_limit-short v)) e)

cut_short : (o : Option (List ℕ × List ℕ)) → IfOk (attrval_of_cut o) (λ p. is_short p.1 ≡ true)
cut_short None = tt
cut_short (Some p) = parts-short p.0 p.1

attrval_of-short : (line : List ℕ) → IfOk (attrval_of line) (λ p. is_short p.1 ≡ true)
unfolding attrval_of
attrval_of-short line = cut_short (cut_at 58 line)

-- ---- names

pub as_record_fault-ok : {A : Type 0} (r : Result A NameFault) (x : A) → as_record_fault r ≡ Ok x → r ≡ Ok x
as_record_fault-ok (Ok y) x e = cc
as_record_fault-ok (Err f) x e = cc

key-some : {A : Type 0} (o : Option A) (x : A) → as_record_fault (ok_or_bad_dn o) ≡ Ok x → is_some o ≡ true
key-some None x e = cc
key-some (Some y) x e = refl

legal_dn-key : (rows : List TypeRow) (text : List ℕ) → IfOk (legal_dn rows text) (λ name. has_key rows name ≡ true)
legal_dn-key rows text =
    after (as_record_fault (name_within_limits text)) _ (λ name. has_key rows name ≡ true)
    (λ name _. after (as_record_fault (ok_or_bad_dn (name_key rows name))) _ (λ name. has_key rows name ≡ true) (λ key e. key-some (name_key rows name) key e))

legal_rdn-key : (rows : List TypeRow) (text : List ℕ) → IfOk (legal_rdn rows text) (λ rdn. rdn_has_key rows rdn ≡ true)
legal_rdn-key rows text =
    after (as_record_fault (rdn_within_limit text)) _ (λ rdn. rdn_has_key rows rdn ≡ true)
    (λ rdn _. after (as_record_fault (ok_or_bad_dn (rdn_key rows rdn))) _ (λ rdn. rdn_has_key rows rdn ≡ true) (λ key e. key-some (rdn_key rows rdn) key e))

-- ---- descriptions

from-spelling : (rows : List TypeRow) (text : List ℕ) (parts : List (List ℕ)) → IfOk (description_from rows text parts) (λ d. d.spelling ≡ text)
from-spelling rows text [] = tt
from-spelling rows text (kind ∷ options) =
    chosen (is_type kind && list_all is_option options) _ _ (λ (d : Described). d.spelling ≡ text)
    (λ _. chosen (is_reserved kind) _ _ (λ (d : Described). d.spelling ≡ text) (λ _. tt) (λ _. refl)) (λ _. tt)

pub description_of-spelling : (rows : List TypeRow) (text : List ℕ) → IfOk (description_of rows text) (λ d. d.spelling ≡ text)
description_of-spelling rows text =
    chosen (nat_le (length text) 512) _ _ (λ (d : Described). d.spelling ≡ text) (λ _. from-spelling rows text (parts_at 59 text)) (λ _. tt)

pub read_under : (rows : List TypeRow) (text : List ℕ) (d : Described) → description_of rows text ≡ Ok d → is_read_under rows d ≡ true
read_under rows text d e =
    let same : d.spelling ≡ text = known (description_of rows text) (λ (t : Described). t.spelling ≡ text) d (description_of-spelling rows text) e in
    ap (λ t. has_this_key d.key (description_of rows t)) same ∙ ap (has_this_key d.key) e ∙ (attr_eq_decides d.key d.key).1 refl

-- ---- lists

both : (v w : Bool) → v ≡ true → w ≡ true → (v && w) ≡ true
both v w p q = rw (p, q) refl

try_map-all : {A B : Type 0} (f : A → Result B RecordFault) (p : B → Bool) → ((x : A) → IfOk (f x) (λ y. p y ≡ true)) → (xs : List A) → IfOk (try_map f xs) (λ ys. list_all p ys ≡ true)
try_map-all f p h [] = refl
try_map-all f p h (x ∷ xs) =
    after (f x) _ (λ ys. list_all p ys ≡ true)
    (λ y e. after (try_map f xs) _ (λ ys. list_all p ys ≡ true)
    (λ ys es. both (p y) (list_all p ys) (known (f x) (λ t. p t ≡ true) y (h x) e) (known (try_map f xs) (λ ts. list_all p ts ≡ true) ys (try_map-all f p h xs) es)))

value_line-legal : (rows : List TypeRow) (line : Line) → IfOk (value_line rows line) (λ l. is_legal_line rows l ≡ true)
value_line-legal rows line =
    after (attrval_of line.1) _ (λ l. is_legal_line rows l ≡ true)
    (λ p e. after (as_record_fault (description_of rows p.0)) _ (λ l. is_legal_line rows l ≡ true)
    (λ d ed. both (is_short p.1) (is_read_under rows d) (known (attrval_of line.1) (λ q. is_short q.1 ≡ true) p (attrval_of-short line.1) e) (read_under rows p.0 d (as_record_fault-ok (description_of rows p.0) d ed))))

value_lines-legal : (rows : List TypeRow) (lines : List Line) → IfOk (value_lines rows lines) (λ ls. list_all (is_legal_line rows) ls ≡ true)
value_lines-legal rows lines = try_map-all (value_line rows) (is_legal_line rows) (value_line-legal rows) lines

-- ---- modifications

first_so : (v w : Bool) → (v && w) ≡ true → v ≡ true
first_so true w e = refl
first_so false w e = cc

head_of-legal : (rows : List TypeRow) (o : Option ModOp) (value : List ℕ) → IfOk (head_of rows o value) (λ h. is_read_under rows h.1 ≡ true)
head_of-legal rows None value = tt
head_of-legal rows (Some op) value =
    after (as_record_fault (description_of rows value)) _ (λ h. is_read_under rows h.1 ≡ true) (λ d e. read_under rows value d (as_record_fault-ok (description_of rows value) d e))

mod_head-legal : (rows : List TypeRow) (line : Line) → IfOk (mod_head rows line) (λ h. is_read_under rows h.1 ≡ true)
mod_head-legal rows line = after (attrval_of line.1) _ (λ h. is_read_under rows h.1 ≡ true) (λ p _. head_of-legal rows (op_of p.0) p.1)

mod_value-short : (rows : List TypeRow) (head : Described) (line : Line) → IfOk (mod_value rows head line) (λ v. is_short v ≡ true)
mod_value-short rows head line =
    after (value_line rows line) _ (λ v. is_short v ≡ true)
    (λ p e. chosen (attr_eq p.0.key head.key) _ _ (λ v. is_short v ≡ true)
    (λ _. first_so (is_short p.1) (is_read_under rows p.0) (known (value_line rows line) (λ l. is_legal_line rows l ≡ true) p (value_line-legal rows line) e)) (λ _. tt))

mod_of-legal : (rows : List TypeRow) (lines : List Line) → IfOk (mod_of rows lines) (λ m. is_legal_mod rows m ≡ true)
mod_of-legal rows [] = tt
mod_of-legal rows (head ∷ lines) =
    after (mod_head rows head) _ (λ m. is_legal_mod rows m ≡ true)
    (λ h e. after (try_map (mod_value rows h.1) lines) _ (λ m. is_legal_mod rows m ≡ true)
    (λ vs es. both (is_read_under rows h.1) (list_all is_short vs) (known (mod_head rows head) (λ t. is_read_under rows t.1 ≡ true) h (mod_head-legal rows head) e)
    (known (try_map (mod_value rows h.1) lines) (λ ts. list_all is_short ts ≡ true) vs (try_map-all (mod_value rows h.1) is_short (mod_value-short rows h.1) lines) es)))

mods_of-legal : (rows : List TypeRow) (lines : List Line) → IfOk (mods_of rows lines) (λ ms. list_all (is_legal_mod rows) ms ≡ true)
mods_of-legal rows lines = try_map-all (mod_of rows) (is_legal_mod rows) (mod_of-legal rows) (cut is_dash lines)

-- ---- renames

only_superior-key : (rows : List TypeRow) (name : SpelledName) (lines : List Line) → has_key rows name ≡ true → IfOk (only_superior name lines) (λ s. superior_has_key rows s ≡ true)
only_superior-key rows name [] e = e
only_superior-key rows name (line ∷ lines) e = after (attrval_of line.1) _ (λ s. superior_has_key rows s ≡ true) (λ p _. tt)

superior_of-key : (rows : List TypeRow) (lines : List Line) → IfOk (superior_of rows lines) (λ s. superior_has_key rows s ≡ true)
superior_of-key rows [] = refl
superior_of-key rows (line ∷ further) =
    after (rename_line (codes "newsuperior") line) _ (λ s. superior_has_key rows s ≡ true)
    (λ value _. after (legal_dn rows value) _ (λ s. superior_has_key rows s ≡ true)
    (λ name e. only_superior-key rows name further (known (legal_dn rows value) (λ n. has_key rows n ≡ true) name (legal_dn-key rows value) e)))

after_rdn-legal : (rows : List TypeRow) (rdn : SpelledRdn) (lines : List Line) → rdn_has_key rows rdn ≡ true → IfOk (rename_after_rdn rows rdn lines) (λ k. is_legal_kind rows k ≡ true)
after_rdn-legal rows rdn [] e = tt
after_rdn-legal rows rdn (line ∷ lines) e =
    after (rename_line (codes "deleteoldrdn") line) _ (λ k. is_legal_kind rows k ≡ true)
    (λ value _. after (flag_of value) _ (λ k. is_legal_kind rows k ≡ true)
    (λ flag _. after (superior_of rows lines) _ (λ k. is_legal_kind rows k ≡ true)
    (λ superior es. both (rdn_has_key rows rdn) (superior_has_key rows superior) e (known (superior_of rows lines) (λ s. superior_has_key rows s ≡ true) superior (superior_of-key rows lines) es))))

rename_of-legal : (rows : List TypeRow) (lines : List Line) → IfOk (rename_of rows lines) (λ k. is_legal_kind rows k ≡ true)
rename_of-legal rows [] = tt
rename_of-legal rows (line ∷ lines) =
    after (rename_line (codes "newrdn") line) _ (λ k. is_legal_kind rows k ≡ true)
    (λ value _. after (legal_rdn rows value) _ (λ k. is_legal_kind rows k ≡ true)
    (λ rdn e. after_rdn-legal rows rdn lines (known (legal_rdn rows value) (λ r. rdn_has_key rows r ≡ true) rdn (legal_rdn-key rows value) e)))

-- ---- records

deletion_of-legal : (rows : List TypeRow) (lines : List Line) → IfOk (deletion_of lines) (λ k. is_legal_kind rows k ≡ true)
deletion_of-legal rows [] = refl
deletion_of-legal rows (line ∷ lines) = after (attrval_of line.1) _ (λ k. is_legal_kind rows k ≡ true) (λ p _. tt)

change_of-legal : (rows : List TypeRow) (word : List ℕ) (lines : List Line) → IfOk (change_of rows word lines) (λ k. is_legal_kind rows k ≡ true)
change_of-legal rows word lines =
    let P : ChangeKind → Type 0 = λ k. is_legal_kind rows k ≡ true in
    chosen (is_keyword word (codes "add")) _ _ P
    (λ _. after (value_lines rows lines) _ P (λ ls e. known (value_lines rows lines) (λ ts. list_all (is_legal_line rows) ts ≡ true) ls (value_lines-legal rows lines) e))
    (λ _. chosen (is_keyword word (codes "delete")) _ _ P (λ _. deletion_of-legal rows lines)
    (λ _. chosen (is_keyword word (codes "modify")) _ _ P
    (λ _. after (mods_of rows lines) _ P (λ ms e. known (mods_of rows lines) (λ ts. list_all (is_legal_mod rows) ts ≡ true) ms (mods_of-legal rows lines) e))
    (λ _. chosen (is_keyword word (codes "modrdn")) _ _ P (λ _. rename_of-legal rows lines)
    (λ _. chosen (is_keyword word (codes "moddn")) _ _ P (λ _. rename_of-legal rows lines) (λ _. tt)))))

content_of-legal : (rows : List TypeRow) (name : SpelledName) (lines : List Line) → has_key rows name ≡ true → IfOk (content_of rows name lines) (λ r. is_legal_record rows r ≡ true)
content_of-legal rows name lines e =
    after (value_lines rows lines) _ (λ r. is_legal_record rows r ≡ true)
    (λ ls es. both (has_key rows name) (list_all (is_legal_line rows) ls) e (known (value_lines rows lines) (λ ts. list_all (is_legal_line rows) ts ≡ true) ls (value_lines-legal rows lines) es))

body_of-legal : (rows : List TypeRow) (name : SpelledName) (lines : List Line) → has_key rows name ≡ true → IfOk (body_of rows name lines) (λ r. is_legal_record rows r ≡ true)
body_of-legal rows name [] e = content_of-legal rows name [] e
body_of-legal rows name (second ∷ further) e =
    let P : Record → Type 0 = λ r. is_legal_record rows r ≡ true in
    after (attrval_of second.1) _ P
    (λ p _. chosen (is_keyword p.0 (codes "control")) _ _ P (λ _. tt)
    (λ _. chosen (is_keyword p.0 (codes "changetype")) _ _ P
    (λ _. after (change_of rows p.1 further) _ P
    (λ k ek. both (has_key rows name) (is_legal_kind rows k) e (known (change_of rows p.1 further) (λ t. is_legal_kind rows t ≡ true) k (change_of-legal rows p.1 further) ek)))
    (λ _. content_of-legal rows name (second ∷ further) e)))

dn_line-key : (rows : List TypeRow) (line : Line) → IfOk (dn_line rows line) (λ name. has_key rows name ≡ true)
dn_line-key rows line =
    after (attrval_of line.1) _ (λ name. has_key rows name ≡ true) (λ p _. chosen (is_keyword p.0 (codes "dn")) _ _ (λ name. has_key rows name ≡ true) (λ _. legal_dn-key rows p.1) (λ _. tt))

pub record_of-legal : (rows : List TypeRow) (block : List Line) → IfOk (record_of rows block) (λ r. is_legal_record rows r ≡ true)
unfolding record_of
record_of-legal rows [] = tt
record_of-legal rows (first ∷ rest) =
    after (dn_line rows first) _ (λ r. is_legal_record rows r ≡ true)
    (λ name e. body_of-legal rows name rest (known (dn_line rows first) (λ n. has_key rows n ≡ true) name (dn_line-key rows first) e))

pub legal_of : (rows : List TypeRow) (block : List Line) (r : Record) → record_of rows block ≡ Ok r → is_legal_record rows r ≡ true
legal_of rows block r e = known (record_of rows block) (λ t. is_legal_record rows t ≡ true) r (record_of-legal rows block) e
