-- A test is read if what it asks is.
use Rattle.std.proofs.Common.{◌≡◌, ℕ, List, Option, Some, None, Result, Ok, refl, sym, ap, subst}
use Rattle.std.specs.Option.{option_map}
use Rattle.dir_names.specs.Attr.{Attr}
use Rattle.dir_names.specs.Described.{Described}
use Rattle.dir_names.specs.declared.fault.NameFault.{NameFault}
use Rattle.dir_names.specs.declared.schema.TypeRow.{TypeRow}
use Rattle.dir_acl.specs.declared.fault.FilterFault.{FilterFault}
use Rattle.dir_acl.specs.declared.fault.FilterFault.TheVariants.{BadFilter, TooDeep, Memory}
use Rattle.dir_acl.specs.declared.filter.Matching.{Matching}
use Rattle.dir_acl.specs.declared.filter.Test.{Test}
use Rattle.dir_acl.specs.declared.filter.assertion.Operator.{Operator}
use Rattle.dir_acl.specs.Outcome.{IsFilterFaultOf, Reads, ok_or_bad_filter}
use Rattle.dir_acl.specs.Tests.{matching_by, test_with}

abbrev asked : Attr → Option Matching → Option Test
asked attr o = option_map (λ matching. record { attr = attr; matching = matching }) o

pub test_read : (attr : Attr) (o : Option Matching) (m : Matching) → ok_or_bad_filter o ≡ Ok m → ok_or_bad_filter (asked attr o) ≡ Ok (record { attr = attr; matching = m })
test_read attr None m e = absurd (cc)
test_read attr (Some n) m e = let same : n ≡ m = cc in ap (λ k. ok_or_bad_filter (asked attr (Some k))) same

pub test_fails : (attr : Attr) (o : Option Matching) (e : FilterFault) → IsFilterFaultOf e (ok_or_bad_filter o) → IsFilterFaultOf e (ok_or_bad_filter (asked attr o))
test_fails attr None BadFilter f = refl
test_fails attr (Some n) BadFilter f = absurd (cc)
test_fails attr None TooDeep f = absurd (cc)
test_fails attr (Some n) TooDeep f = absurd (cc)
test_fails attr o Memory f = tt

-- with the description that was read, its key, and the operator
pub operation_read : (rows : List TypeRow) (value : List ℕ) (op wanted : Operator) → op ≡ wanted → (read : Result Described NameFault) (d : Described) → read ≡ Ok d → (attr : Attr) → attr ≡ d.key
    → (answer : Result Test FilterFault) → Reads (λ test. test) answer (ok_or_bad_filter (asked attr (matching_by rows attr op value))) → Reads (λ test. test) answer (ok_or_bad_filter (test_with rows wanted value read))
operation_read rows value op wanted o read d e attr a answer h =
    subst (λ r. Reads (λ test. test) answer (ok_or_bad_filter (test_with rows wanted value r))) (sym e)
    (subst (λ k. Reads (λ test. test) answer (ok_or_bad_filter (asked k (matching_by rows k wanted value)))) a
    (subst (λ w. Reads (λ test. test) answer (ok_or_bad_filter (asked attr (matching_by rows attr w value)))) o h))

pub ruleset test_steps = (test_read, test_fails)
