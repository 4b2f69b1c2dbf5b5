-- What legal lines and modifications say of descriptions and values.
use Rattle.std.proofs.Common.{◌≡◌, ℕ, suc, ◌≤◌, Bool, true, false, cond, ◌&&◌, nat_le, List, [], ◌∷◌, length, Option, Some, None, option_map, Result, Ok, Err, refl, sym, ap, subst, true≢false, arith, ◌<◌, nat_lt, zero}
use Rattle.std.specs.Prelude.{slice_index}
use Rattle.std.specs.List.{list_all}
use Rattle.std.specs.Result.{result_ok}
use Rattle.std.proofs.lemmas.Bool.Decides.{nat_tests}
use Rattle.dir_names.specs.declared.fault.NameFault.{NameFault}
use Rattle.dir_names.specs.declared.fault.NameFault.TheVariants.{BadDescription, ReservedName}
use Rattle.dir_names.specs.declared.schema.TypeRow.{TypeRow}
use Rattle.dir_names.specs.declared.value.ValueKey.{ValueKey}
use Rattle.dir_names.specs.Attr.{Attr}
use Rattle.dir_names.specs.Cut.{parts_at}
use Rattle.dir_names.specs.Described.{Described}
use Rattle.dir_names.specs.Descriptions.{description_from, description_of, is_option, is_reserved, is_type}
use Rattle.dir_names.specs.NameKeys.{value_key_of}
use Rattle.dir_names.specs.Orders.{attr_eq_decides}
use Rattle.dir_names.specs.Results.{option_cons}
use Rattle.dir_names.proofs.Both.{left, right}
use Rattle.dir_ldif.specs.declared.records.Mod.{Mod}
use Rattle.dir_ldif.specs.SoundRecords.{AreBytes, ModsAreBytes, ValuesAreBytes}
use Rattle.dir_ldif.specs.LegalRecords.{has_this_key, is_legal_line, is_legal_mod, is_read_under, is_short}
use Rattle.dir_tree.specs.WellFormed.{Each, are_bytes, IsLegalLine, IsSoundValue}
use Rattle.dir_change.specs.Modify.{KeyedValues, keyed_values}

-- ---- descriptions and lines

-- a description that was read is spelled as the text
spelled_as_read : (rows : List TypeRow) (text : List ℕ) (d : Described) → description_of rows text ≡ Ok d → d.spelling ≡ text
spelled_as_read rows text d e = by (nat_le (length text) 512) (parts_at 59 text) e
  where
    ok : (kind : List ℕ) (options : List (List ℕ)) (a b : Bool) (k : Attr) → cond a (cond b (Err ReservedName) (Ok (record { spelling = text; key = k }))) (Err BadDescription) ≡ Ok d → d.spelling ≡ text
    ok kind options false b k h = absurd (cc)
    ok kind options true true k h = absurd (cc)
    ok kind options true false k h =
        let whole : Described = record { spelling = text; key = k } in
        let same : whole ≡ d = cc in
        ap (λ (d : Described). d.spelling) (sym same)

    by : (b : Bool) (parts : List (List ℕ)) → cond b (description_from rows text parts) (Err BadDescription) ≡ Ok d → d.spelling ≡ text
    by false parts h = absurd (cc)
    by true [] h = absurd (cc)
    by true (kind ∷ options) h = ok kind options (is_type kind && list_all is_option options) (is_reserved kind) _ h

read_under : (rows : List TypeRow) (d : Described) → is_read_under rows d ≡ true → description_of rows d.spelling ≡ Ok d
read_under rows d e = by (description_of rows d.spelling) refl e
  where
    by : (r : Result Described NameFault) → description_of rows d.spelling ≡ r → has_this_key d.key r ≡ true → r ≡ Ok d
    by (Ok x) t h =
        let spelling = spelled_as_read rows d.spelling x t in
        let key = (attr_eq_decides x.key d.key).0 h in
        λ i. Ok (record { spelling = spelling i; key = key i })
    by (Err fault) t h = absurd (true≢false (sym h))

bytes_test : (bs : List ℕ) → ((i : ℕ) → slice_index bs i < 256) → are_bytes bs ≡ true
bytes_test [] h = refl
bytes_test (b ∷ bs) h =
    let low : b < 256 = h zero in
    let first : nat_lt b 256 ≡ true = grind (arith, nat_tests) in
    λ i. first i && bytes_test bs (λ n. h (suc n)) i

pub legal_lines : (rows : List TypeRow) (lines : List (Described × List ℕ)) → list_all (is_legal_line rows) lines ≡ true → ValuesAreBytes lines → Each (IsLegalLine rows) lines
legal_lines rows [] e bytes = tt
legal_lines rows (line ∷ lines) e bytes =
    let first = left (is_legal_line rows line) _ e in
    ((read_under rows line.0 (right (is_short line.1) _ first), grind (arith, nat_tests), bytes_test line.1 bytes.0), legal_lines rows lines (right (is_legal_line rows line) _ e) bytes.1)

-- ---- modifications

-- a value within the limit, of bytes
abbrev pub IsLegalValue : List ℕ → Type 0
IsLegalValue value = (length value ≤ 1048576) × (are_bytes value ≡ true)

-- a modification with a description that was read under the schema, and values within the limit
abbrev pub IsLegalMod : List TypeRow → Mod → Type 0
IsLegalMod rows m = (description_of rows m.description.spelling ≡ Ok m.description) × Each IsLegalValue m.values

legal_values : (values : List (List ℕ)) → list_all is_short values ≡ true → AreBytes values → Each IsLegalValue values
legal_values [] e bytes = tt
legal_values (v ∷ vs) e bytes =
    let short = left (is_short v) (list_all is_short vs) e in
    ((grind (arith, nat_tests), bytes_test v bytes.0), legal_values vs (right (is_short v) (list_all is_short vs) e) bytes.1)

pub legal_mods : (rows : List TypeRow) (mods : List Mod) → list_all (is_legal_mod rows) mods ≡ true → ModsAreBytes mods → Each (IsLegalMod rows) mods
legal_mods rows [] e bytes = tt
legal_mods rows (m ∷ ms) e bytes =
    let first = left (is_legal_mod rows m) (list_all (is_legal_mod rows) ms) e in
    ((read_under rows m.description (left (is_read_under rows m.description) (list_all is_short m.values) first), legal_values m.values (right (is_read_under rows m.description) (list_all is_short m.values) first) bytes.0), legal_mods rows ms (right (is_legal_mod rows m) (list_all (is_legal_mod rows) ms) e) bytes.1)

-- legal values with their keys are sound
pub keyed_sound : (rows : List TypeRow) (k : Attr) (values : List (List ℕ)) (given : KeyedValues) → Each IsLegalValue values → keyed_values rows k values ≡ Some given → Each (IsSoundValue rows k) given
keyed_sound rows k [] given legal e = let none : [] ≡ given = cc in subst (Each (IsSoundValue rows k)) none tt
keyed_sound rows k (v ∷ vs) given legal e = by (value_key_of rows k v) refl (keyed_values rows k vs) refl e (keyed_sound rows k vs)
  where
    by : (r : Result ValueKey NameFault) → value_key_of rows k v ≡ r → (p : Option KeyedValues) → keyed_values rows k vs ≡ p →
        option_cons (option_map (λ key. (key, v)) (result_ok r)) p ≡ Some given →
        ((given : KeyedValues) → Each IsLegalValue vs → keyed_values rows k vs ≡ Some given → Each (IsSoundValue rows k) given) → Each (IsSoundValue rows k) given
    by (Err fault) t p u e rest = absurd (cc)
    by (Ok key) t None u e rest = absurd (cc)
    by (Ok key) t (Some more) u e rest =
        let same : (key, v) ∷ more ≡ given = cc in
        subst (Each (IsSoundValue rows k)) same ((t, legal.0.0, legal.0.1), rest more legal.1 u)
