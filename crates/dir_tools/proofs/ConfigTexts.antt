-- What is read of a configuration, to its end or past what one may have, has the fault of all that the source gives, about the same argument.
use Rattle.std.proofs.Common.{◌≡◌, ◌⊎◌, inl, inr, ℕ, ◌+◌, ◌<◌, Bool, true, cond, nat_lt, List, ◌++◌, length, Option, Some, None, Result, Ok, Err, sym, ap, ◌∙◌, arith}
use Rattle.std.specs.Io.KnownBytes.{Consumes, IsAtEnd}
use Rattle.std.specs.Prelude.{IfOk, IfSome}
use Rattle.std.proofs.lemmas.Bool.Decides.{nat_tests}
use Rattle.std.proofs.lemmas.List.{append-nil, length-append}
use Rattle.dir_names.specs.declared.fault.memory.Memory.{Memory as NoMemory}
use Rattle.dir_names.specs.declared.schema.TypeRow.{TypeRow}
use Rattle.dir_acl.specs.declared.deciding.FaultArgument.{FaultArgument}
use Rattle.dir_acl.specs.declared.fault.ConfigCause.{ConfigCause}
use Rattle.dir_acl.specs.declared.fault.ConfigCause.TheVariants as cause
use Rattle.dir_acl.specs.declared.fault.ConfigFault.{ConfigFault}
use Rattle.dir_names.specs.Results.{and_then}
use Rattle.dir_conf_text.specs.Text.{config_lines}
use Rattle.dir_conf_text.specs.declared.text.ConfigLine.{ConfigLine}
use Rattle.dir_acl.specs.Config.{bounded_lines, config_types, types_after}
use Rattle.dir_acl.specs.Outcome.{IsCauseAt}
use Rattle.dir_tools.specs.AccessAnswers.{IsArgumentOf, IsFaultOf, argument_under}
use Rattle.dir_tools.specs.AccessReport.{configured, configured_by_lines}
use Rattle.dir_tools.specs.Inside.Asking.{config_fault, fault_at}

longer : (xs text ys : List ℕ) → xs ≡ text ++ ys → 16777216 < length text → nat_lt 16777216 (length xs) ≡ true
longer xs text ys e h =
    let n : length xs ≡ length text + length ys = ap length e ∙ length-append text ys in
    grind (arith, nat_tests)

long : (text : List ℕ) → 16777216 < length text → nat_lt 16777216 (length text) ≡ true
long text h = grind (arith, nat_tests)

first_of : {A : Type 0} (b : Bool) (x y : A) → b ≡ true → cond b x y ≡ x
first_of b x y e = ap (λ c. cond c x y) e

-- a text that is too long has this fault, whatever it says
abbrev pub IsLimited : {A : Type 0} → (List ℕ → Result A ConfigFault) → Type 0
IsLimited reads = (text : List ℕ) → nat_lt 16777216 (length text) ≡ true → reads text ≡ Err (record { line = 0; cause = cause.ConfigTooLong })

lines_limited : IsLimited bounded_lines
lines_limited text e = first_of (nat_lt 16777216 (length text)) (Err (record { line = 0; cause = cause.ConfigTooLong })) (Ok (config_lines text)) e

pub types_limited : (rows : List TypeRow) → IsLimited (config_types rows)
types_limited rows text e = ap (λ (r : Result (List ConfigLine) ConfigFault). and_then r (types_after rows)) (lines_limited text e)

pub config_limited : (rows : List TypeRow) → IsLimited (configured rows)
config_limited rows text e = ap (λ (r : Result (List ConfigLine) ConfigFault). and_then r (configured_by_lines rows)) (lines_limited text e)

-- ---- what was read of a source is what is told of all that it had left

module _ (known after : Option (List ℕ)) (text : List ℕ) where
  module _ {A : Type 0} (reads : List ℕ → Result A ConfigFault) (limited : IsLimited reads) where
    same_fault : Consumes known after text → (16777216 < length text) ⊎ IsAtEnd after → (fault : ConfigFault) → reads text ≡ Err fault → IfSome known (λ all. reads all ≡ Err fault)
    same_fault = by known after
      where
        by : (known after : Option (List ℕ)) → Consumes known after text → (16777216 < length text) ⊎ IsAtEnd after → (fault : ConfigFault) → reads text ≡ Err fault → IfSome known (λ all. reads all ≡ Err fault)
        by None after e ended fault f = tt
        by (Some xs) None e ended fault f = absurd e
        by (Some xs) (Some ys) e (inl h) fault f = limited xs (longer xs text ys e h) ∙ sym (limited text (long text h)) ∙ f
        by (Some xs) (Some ys) e (inr h) fault f = ap reads (e ∙ ap (λ rest. text ++ rest) h ∙ append-nil text) ∙ f

    module _ (consumed : Consumes known after text) (ended : (16777216 < length text) ⊎ IsAtEnd after) where
      pub blamed : (why : ConfigCause) (line : ℕ) → IsCauseAt why line (reads text) → IsFaultOf reads known (fault_at why (record { line = line; cause = why }))
      blamed cause.BadDirective line f = ((λ e. cc), same_fault consumed ended _ f)
      blamed cause.Unsupported line f = ((λ e. cc), same_fault consumed ended _ f)
      blamed cause.BadFilter line f = ((λ e. cc), same_fault consumed ended _ f)
      blamed cause.Name line f = ((λ e. cc), same_fault consumed ended _ f)
      blamed cause.SecondDatabase line f = ((λ e. cc), same_fault consumed ended _ f)
      blamed cause.SecondSuffix line f = ((λ e. cc), same_fault consumed ended _ f)
      blamed cause.GlobalAccess line f = ((λ e. cc), same_fault consumed ended _ f)
      blamed cause.FilterTooDeep line f = ((λ e. cc), same_fault consumed ended _ f)
      blamed cause.Memory line f = tt
      blamed cause.NoSuffix line f = ((λ e. cc), same_fault consumed ended _ f)
      blamed cause.ConfigTooLong line f = ((λ e. cc), same_fault consumed ended _ f)
      blamed cause.BadType line f = ((λ e. cc), same_fault consumed ended _ f)

  module _ (rows : List TypeRow) where
    abbrev argument_in : List ℕ → ConfigFault → Option FaultArgument
    argument_in all fault = argument_under (config_types rows all) all fault

    about_none : (all : List ℕ) (fault : ConfigFault) → nat_lt 16777216 (length all) ≡ true → argument_in all fault ≡ None
    about_none all fault e = ap (λ r. argument_under r all fault) (types_limited rows all e)

    same_argument : Consumes known after text → (16777216 < length text) ⊎ IsAtEnd after → (fault : ConfigFault) (argument : Option FaultArgument) → argument ≡ argument_in text fault → IfSome known (λ all. argument ≡ argument_in all fault)
    same_argument = by known after
      where
        by : (known after : Option (List ℕ)) → Consumes known after text → (16777216 < length text) ⊎ IsAtEnd after → (fault : ConfigFault) (argument : Option FaultArgument) → argument ≡ argument_in text fault → IfSome known (λ all. argument ≡ argument_in all fault)
        by None after e ended fault argument f = tt
        by (Some xs) None e ended fault argument f = absurd e
        by (Some xs) (Some ys) e (inl h) fault argument f = f ∙ about_none text fault (long text h) ∙ sym (about_none xs fault (longer xs text ys e h))
        by (Some xs) (Some ys) e (inr h) fault argument f = f ∙ ap (λ all. argument_in all fault) (sym (e ∙ ap (λ rest. text ++ rest) h ∙ append-nil text))

    module _ (consumed : Consumes known after text) (ended : (16777216 < length text) ⊎ IsAtEnd after) where
      about : (why : ConfigCause) (line : ℕ) (argument : Option FaultArgument) → IsArgumentOf rows (Some text) (fault_at why (record { line = line; cause = why })) argument → IsArgumentOf rows known (fault_at why (record { line = line; cause = why })) argument
      about cause.BadDirective line argument f = same_argument consumed ended (record { line = line; cause = cause.BadDirective }) argument f
      about cause.Unsupported line argument f = same_argument consumed ended (record { line = line; cause = cause.Unsupported }) argument f
      about cause.BadFilter line argument f = same_argument consumed ended (record { line = line; cause = cause.BadFilter }) argument f
      about cause.Name line argument f = same_argument consumed ended (record { line = line; cause = cause.Name }) argument f
      about cause.SecondDatabase line argument f = same_argument consumed ended (record { line = line; cause = cause.SecondDatabase }) argument f
      about cause.SecondSuffix line argument f = same_argument consumed ended (record { line = line; cause = cause.SecondSuffix }) argument f
      about cause.GlobalAccess line argument f = same_argument consumed ended (record { line = line; cause = cause.GlobalAccess }) argument f
      about cause.FilterTooDeep line argument f = same_argument consumed ended (record { line = line; cause = cause.FilterTooDeep }) argument f
      about cause.Memory line argument f = f
      about cause.NoSuffix line argument f = same_argument consumed ended (record { line = line; cause = cause.NoSuffix }) argument f
      about cause.ConfigTooLong line argument f = same_argument consumed ended (record { line = line; cause = cause.ConfigTooLong }) argument f
      about cause.BadType line argument f = same_argument consumed ended (record { line = line; cause = cause.BadType }) argument f

      pub about_it : (fault : ConfigFault) (found : Result (Option FaultArgument) NoMemory) → IfOk found (IsArgumentOf rows (Some text) (config_fault fault)) → IfOk found (IsArgumentOf rows known (config_fault fault))
      about_it fault (Ok argument) f = about fault.cause fault.line argument f
      about_it fault (Err e) f = tt
