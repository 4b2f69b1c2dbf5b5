use Rattle.std.proofs.Common.{◌<◌, [], Some, ap, arith, length, rules, sym, ◌∙◌}
use Rattle.dir_files.specs.System.{or_root}
use Rattle.dir_files.proofs.SystemLemmas.{kept}
use Rattle.dir_files.proofs.system.folder_of.Goals as goal

pub returns-in-Some-empty-default : goal.returns-in-Some-empty-default
returns-in-Some-empty-default c =
    let h = c.in-Some-empty-default.ensures.cases in
    let nothing = c.in-Some-empty-default.is-empty in record { slash = Some (h.0, h.1); last = h.2; folder_is = ap or_root (sym nothing ∙ h.3) }

pub returns-in-Some : goal.returns-in-Some
returns-in-Some c =
    let h = c.in-Some.ensures.cases in
    let some : 0 < length c.in-Some.folder.now = search rules in record { slash = Some (h.0, h.1); last = h.2; folder_is = sym (kept c.in-Some.folder.now some) ∙ ap or_root h.3 }
