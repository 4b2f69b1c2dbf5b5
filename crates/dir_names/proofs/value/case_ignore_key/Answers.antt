use Rattle.std.proofs.Common.{ℕ, List, Result, sym, subst, ◌∙◌}
use Rattle.dir_names.specs.declared.fault.NameFault.{NameFault}
use Rattle.dir_names.specs.Outcome.{Gives}
use Rattle.dir_names.proofs.AsciiFolding.{ascii_text_key}
use Rattle.dir_names.proofs.value.case_ignore_key.Goals as goal

pub returns-then-is_ascii : goal.returns-then-is_ascii
returns-then-is_ascii c =
    let wanted = ascii_text_key c.args.value.now c.if-is_empty.ensures (sym c.is_ascii.ensures ∙ c.if-is_ascii.true) in
    subst (λ (w : Result (List ℕ) NameFault). Gives (λ (key : List ℕ). key) c.lowercase_key.result w) wanted c.lowercase_key.ensures
