use Rattle.std.proofs.Common.{ℕ, List, Ok, Result, ap, subst, sym}
use Rattle.dir_names.specs.declared.fault.NameFault.{NameFault}
use Rattle.dir_names.specs.Inside.ShortKeys.{IsKeyByWay}
use Rattle.dir_names.proofs.LowercaseKeys.{stays_tidy}
use Rattle.dir_names.proofs.value.pushed.way_to_squeezed.Goals as goal

pub returns-then-has_no_extra_space : goal.returns-then-has_no_extra_space
returns-then-has_no_extra_space c =
    let value = c.args.value.now in
    let key = stays_tidy value (c.has_no_extra_space.ensures c.if-has_no_extra_space.true) in
    subst (λ (wanted : Result (List ℕ) NameFault). IsKeyByWay wanted value c.way_to_lowercase.result) (ap Ok (sym key)) c.way_to_lowercase.ensures
