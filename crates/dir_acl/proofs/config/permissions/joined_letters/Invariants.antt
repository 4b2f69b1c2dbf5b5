use Rattle.std.proofs.Common.{◌≡◌, drop}
use Rattle.dir_acl.specs.Config.Permissions.{joined_letters}
use Rattle.dir_acl.specs.Privileges.{no_privileges}
use Rattle.dir_acl.proofs.config.permissions.joined_letters.Given as goal

abbrev pub invariant-loop-letter : goal.invariant-loop-letter
invariant-loop-letter l = joined_letters no_privileges l.letters ≡ joined_letters l.set (drop l.letter-index l.letters)
