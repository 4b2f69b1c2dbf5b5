use Rattle.std.proofs.Common.{rules}
use Rattle.dir_names.proofs.key.sort_key.DnSortKey.read.Goals as goal

-- the prover finds these without an answer, in twice the time

pub returns-in_err-text : goal.returns-in_err-text
returns-in_err-text c = search rules

pub returns-in_err-extend_from_slice : goal.returns-in_err-extend_from_slice
returns-in_err-extend_from_slice c = search rules

pub returns-in-Ok : goal.returns-in-Ok
returns-in-Ok c = search rules

pub returns-in-Err : goal.returns-in-Err
returns-in-Err c = search rules
