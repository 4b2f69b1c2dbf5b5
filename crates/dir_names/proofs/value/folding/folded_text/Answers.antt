use Rattle.std.proofs.Common.{ℕ, List, Ok, Result, Vec, Global, subst, sym, ap, ◌∙◌}
use Rattle.dir_names.specs.declared.fault.NameFault.{NameFault}
use Rattle.dir_names.specs.Outcome.{Gives}
use Rattle.dir_names.specs.ValueKeys.{folded_text}
use Rattle.dir_names.proofs.AsciiFolding.{ascii_key, utf8_key, no_key}
use Rattle.dir_names.proofs.value.folding.folded_text.Goals as goal

pub returns-then-is_ascii : goal.returns-then-is_ascii
returns-then-is_ascii c =
    let wanted = ascii_key c.args.text.now (sym c.is_ascii.ensures ∙ c.if-is_ascii.true) in
    subst (λ (w : Result (List ℕ) NameFault). Gives (λ (key : Vec ℕ Global). key.items) c.lowercase_copy.result w) wanted c.lowercase_copy.ensures

pub returns-in-Ok : goal.returns-in-Ok
returns-in-Ok c =
    let read = c.in-Ok.ensures.cases in
    let wanted = ap (λ t. Ok (folded_text t)) read.0 ∙ utf8_key c.args.text.now read.1 in
    subst (λ (w : Result (List ℕ) NameFault). Gives (λ (key : Vec ℕ Global). key.items) c.folded_str.result w) wanted c.folded_str.ensures

pub returns-in-Err : goal.returns-in-Err
returns-in-Err c = no_key c.args.text.now c.in-Err.ensures.cases.0
