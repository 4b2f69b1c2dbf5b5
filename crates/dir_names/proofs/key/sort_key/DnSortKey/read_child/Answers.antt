use Rattle.std.proofs.Common.{rules}
use Rattle.dir_names.proofs.key.sort_key.DnSortKey.read_child.Goals as goal

-- the prover finds these without an answer, in twice the time

pub returns-in_err-text-clause-key : goal.returns-in_err-text-clause-key
returns-in_err-text-clause-key c = search rules

pub returns-in_err-extend_from_slice-clause-key : goal.returns-in_err-extend_from_slice-clause-key
returns-in_err-extend_from_slice-clause-key c = search rules

pub returns-in-Err-clause-key : goal.returns-in-Err-clause-key
returns-in-Err-clause-key c = search rules

pub returns-in_err-key-clause-key : goal.returns-in_err-key-clause-key
returns-in_err-key-clause-key c = search rules

pub returns-clause-key : goal.returns-clause-key
returns-clause-key c = search rules
