use Rattle.std.proofs.Common.{◌≡◌}
use Rattle.dir_files.proofs.system.SystemFiles.new_draft.Given as goal

-- nothing is counted
abbrev pub invariant-loop-n : goal.invariant-loop-n
invariant-loop-n g l = l.self.failures ≡ l.initial.self.failures
