-- Lemmas on legal changes, and on the fault of one that is not legal.
use Rattle.std.proofs.Common.{◌≡◌, ℕ, ◌+◌, ◌<◌, Bool, true, false, ◌&&◌, List, [], ◌∷◌, length, get_or, drop, refl, sym, ap, ◌∙◌, Option, None, Some, is_some, Result, Ok, Err}
use Rattle.std.specs.Prelude.{⊤}
use Rattle.std.specs.List.{list_all}
use Rattle.std.specs.Result.{is_ok}
use Rattle.std.proofs.lemmas.List.{at_drop_more}
use Rattle.dir_names.specs.declared.fault.NameFault.{NameFault}
use Rattle.dir_names.specs.declared.fault.NameFault.TheVariants.{BadDescription, ReservedName, BadValue, BadDn, NameLimit, Memory, BadType}
use Rattle.dir_names.specs.declared.schema.TypeRow.{TypeRow}
use Rattle.dir_names.specs.Attr.{Attr}
use Rattle.dir_names.specs.Described.{Described}
use Rattle.dir_names.specs.Descriptions.{description_of}
use Rattle.dir_names.specs.Names.{SpelledName}
use Rattle.dir_names.specs.NameKeys.{name_key, rdn_key}
use Rattle.dir_names.specs.Orders.{attr_eq}
use Rattle.dir_names.specs.Outcome.{ok_or_bad_dn}
use Rattle.dir_names.specs.Results.{and_then}
use Rattle.dir_ldif.specs.declared.faults.RecordFault.{RecordFault}
use Rattle.dir_ldif.specs.declared.faults.RecordFault.TheVariants as fault
use Rattle.dir_ldif.specs.declared.records.ChangeKind.{ChangeKind}
use Rattle.dir_ldif.specs.declared.records.ChangeKind.TheVariants as kind
use Rattle.dir_ldif.specs.declared.records.Mod.{Mod}
use Rattle.dir_ldif.specs.RecordGrammar.{as_record_fault}
use Rattle.dir_ldif.specs.LegalRecords.{IsNameCauseOf, IsRecordFaultOf, LegalChangesHaveNoFault, check_of_description, check_of_kind, check_of_line, check_of_mod, check_of_superior, check_of_value, fault_of, fault_unless, first_fault, has_key, has_this_key, is_legal_kind, is_legal_line, is_legal_mod, is_read_under, is_short, superior_has_key}

-- ---- a fault of the first step is one of the whole

module _ {A B : Type 0} (r : Result A RecordFault) (next : A → Result B RecordFault) where
  IsNameCauseOf-first : (e : NameFault) → IsNameCauseOf e r → IsNameCauseOf e (and_then r next)
  IsNameCauseOf-first BadDescription h = rw h refl
  IsNameCauseOf-first ReservedName h = rw h refl
  IsNameCauseOf-first BadValue h = rw h refl
  IsNameCauseOf-first BadDn h = rw h refl
  IsNameCauseOf-first NameLimit h = rw h refl
  IsNameCauseOf-first Memory h = tt
  IsNameCauseOf-first BadType h = rw h refl

  pub IsRecordFaultOf-first : (e : RecordFault) → IsRecordFaultOf e r → IsRecordFaultOf e (and_then r next)
  IsRecordFaultOf-first fault.BadLine h = rw h refl
  IsRecordFaultOf-first fault.BadBase64 h = rw h refl
  IsRecordFaultOf-first fault.UrlValue h = rw h refl
  IsRecordFaultOf-first fault.Control h = rw h refl
  IsRecordFaultOf-first fault.BadChangetype h = rw h refl
  IsRecordFaultOf-first fault.BadModify h = rw h refl
  IsRecordFaultOf-first fault.BadRename h = rw h refl
  IsRecordFaultOf-first fault.ValueTooLong h = rw h refl
  IsRecordFaultOf-first (fault.Name e) h = IsNameCauseOf-first e h

-- ---- the first fault of a list, element by element

module _ {A : Type 0} (f : A → Result ⊤ RecordFault) where
  at_index : (xs : List A) (i : ℕ) (x : A) → first_fault f xs ≡ first_fault f (drop i xs) → i < length xs → x ≡ get_or xs i x → first_fault f xs ≡ and_then (f x) (λ _. first_fault f (drop (i + 1) xs))
  at_index xs i x so_far lt here = so_far ∙ at_drop_more (first_fault f) xs i x lt ∙ ap (λ y. first_fault f (y ∷ drop (i + 1) xs)) (sym here)

  -- the element has none
  pub first_fault-turn : (xs : List A) (i : ℕ) (x : A) → first_fault f xs ≡ first_fault f (drop i xs) → i < length xs → x ≡ get_or xs i x → f x ≡ Ok tt → first_fault f xs ≡ first_fault f (drop (i + 1) xs)
  first_fault-turn xs i x so_far lt here none = at_index xs i x so_far lt here ∙ ap (λ r. and_then r (λ _. first_fault f (drop (i + 1) xs))) none

  -- the element has this one
  pub first_fault-stop : (e : RecordFault) (xs : List A) (i : ℕ) (x : A) → first_fault f xs ≡ first_fault f (drop i xs) → i < length xs → x ≡ get_or xs i x → IsRecordFaultOf e (f x) → IsRecordFaultOf e (first_fault f xs)
  first_fault-stop e xs i x so_far lt here h =
      rw (at_index xs i x so_far lt here) (IsRecordFaultOf-first (f x) (λ _. first_fault f (drop (i + 1) xs)) e h)

-- ---- the changes without a fault are the legal ones

both : (a b : Result ⊤ RecordFault) (p q : Bool) → is_ok a ≡ p → is_ok b ≡ q → is_ok (and_then a (λ _. b)) ≡ p && q
both (Ok x) b p q first second = rw (sym first, second) refl
both (Err e) b p q first second = rw (sym first) refl

is_ok-fault_unless : (test : Bool) (e : RecordFault) → is_ok (fault_unless test e) ≡ test
is_ok-fault_unless true e = refl
is_ok-fault_unless false e = refl

is_ok-fault_of : {A : Type 0} (o : Option A) → is_ok (fault_of (ok_or_bad_dn o)) ≡ is_some o
is_ok-fault_of None = refl
is_ok-fault_of (Some x) = refl

is_ok-first_fault : {A : Type 0} (f : A → Result ⊤ RecordFault) (p : A → Bool) → ((x : A) → is_ok (f x) ≡ p x) → (xs : List A) → is_ok (first_fault f xs) ≡ list_all p xs
is_ok-first_fault f p each [] = refl
is_ok-first_fault f p each (x ∷ xs) = both (f x) (first_fault f xs) (p x) (list_all p xs) (each x) (is_ok-first_fault f p each xs)

is_ok-description : (key : Attr) (answer : Result Described NameFault)
    → is_ok (and_then (as_record_fault answer) (λ read. fault_unless (attr_eq read.key key) (fault.Name BadDescription))) ≡ has_this_key key answer
is_ok-description key (Ok d) = is_ok-fault_unless (attr_eq d.key key) (fault.Name BadDescription)
is_ok-description key (Err e) = refl

is_ok-value : (value : List ℕ) → is_ok (check_of_value value) ≡ is_short value
is_ok-value value = is_ok-fault_unless (is_short value) fault.ValueTooLong

is_ok-line : (rows : List TypeRow) (line : Described × List ℕ) → is_ok (check_of_line rows line) ≡ is_legal_line rows line
is_ok-line rows line =
    both (check_of_value line.1) (check_of_description rows line.0) (is_short line.1) (is_read_under rows line.0) (is_ok-value line.1) (is_ok-description line.0.key (description_of rows line.0.spelling))

is_ok-mod : (rows : List TypeRow) (m : Mod) → is_ok (check_of_mod rows m) ≡ is_legal_mod rows m
is_ok-mod rows m =
    both (check_of_description rows m.description) (first_fault check_of_value m.values) (is_read_under rows m.description) (list_all is_short m.values)
    (is_ok-description m.description.key (description_of rows m.description.spelling))
    (is_ok-first_fault check_of_value is_short is_ok-value m.values)

is_ok-superior : (rows : List TypeRow) (superior : Option SpelledName) → is_ok (check_of_superior rows superior) ≡ superior_has_key rows superior
is_ok-superior rows None = refl
is_ok-superior rows (Some name) = is_ok-fault_of (name_key rows name)

is_ok-kind : (rows : List TypeRow) (k : ChangeKind) → is_ok (check_of_kind rows k) ≡ is_legal_kind rows k
is_ok-kind rows (kind.Add lines) = is_ok-first_fault (check_of_line rows) (is_legal_line rows) (is_ok-line rows) lines
is_ok-kind rows kind.Delete = refl
is_ok-kind rows (kind.Modify mods) = is_ok-first_fault (check_of_mod rows) (is_legal_mod rows) (is_ok-mod rows) mods
is_ok-kind rows (kind.Rename rdn flag superior) =
    both (fault_of (ok_or_bad_dn (rdn_key rows rdn))) (check_of_superior rows superior) (is_some (rdn_key rows rdn)) (superior_has_key rows superior) (is_ok-fault_of (rdn_key rows rdn)) (is_ok-superior rows superior)

pub legal-changes : LegalChangesHaveNoFault
legal-changes rows change =
    both (fault_of (ok_or_bad_dn (name_key rows change.dn))) (check_of_kind rows change.kind) (has_key rows change.dn) (is_legal_kind rows change.kind)
    (is_ok-fault_of (name_key rows change.dn)) (is_ok-kind rows change.kind)
