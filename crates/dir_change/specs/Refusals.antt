-- How a test or a fault of an entry refuses an operation (RFC 4511, appendix A).
use Rattle.std.specs.Prelude.{◌≡◌, Bool, true, ⊤, cond, Result, Ok, Err}
use Rattle.dir_tree.specs.Content.{Content}
use Rattle.dir_tree.specs.declared.fault.EntryFault.{EntryFault}
use Rattle.dir_tree.specs.declared.fault.EntryFault.TheVariants as entry
use Rattle.dir_change.specs.declared.refusal.Refusal.{Refusal}
use Rattle.dir_change.specs.declared.refusal.Refusal.TheVariants as refusal
use Rattle.dir_change.specs.declared.result_code.ResultCode.{ResultCode}
use Rattle.dir_change.specs.declared.result_code.ResultCode.TheVariants.{InvalidAttributeSyntax, AttributeOrValueExists, ConstraintViolation, NotAllowedOnRdn, UnwillingToPerform}

-- the result code where the test refuses, else what follows
abbrev pub unless : {A : Type 0} → Bool → ResultCode → Result A ResultCode → Result A ResultCode
unless refused code answer = cond refused (Err code) answer

-- the result code of an entry that can't be made. No definition answers out of memory
abbrev pub entry_refusal : EntryFault → Refusal
entry_refusal entry.BadValue = refusal.Code InvalidAttributeSyntax
entry_refusal entry.Twice = refusal.Code AttributeOrValueExists
entry_refusal entry.NotNamed = refusal.Code NotAllowedOnRdn
entry_refusal entry.Single = refusal.Code ConstraintViolation
entry_refusal entry.Memory = refusal.Memory

abbrev pub code_of : Refusal → ResultCode
code_of (refusal.Code code) = code
code_of refusal.Memory = UnwillingToPerform

-- the entry, or its fault's result code
abbrev pub entry_or_code : Result Content EntryFault → Result Content ResultCode
entry_or_code (Ok e) = Ok e
entry_or_code (Err fault) = Err (code_of (entry_refusal fault))

-- the refusal has this code, and the test refuses; or memory ran out
abbrev pub IsRefusedWith : ResultCode → Bool → Refusal → Type 0
IsRefusedWith code refused (refusal.Code given) = (given ≡ code) × (refused ≡ true)
IsRefusedWith code refused refusal.Memory = ⊤
