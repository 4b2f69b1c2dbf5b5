use Rattle.std.proofs.Common.{◌≡◌, ◌≤◌, ◌++◌, drop}
use Rattle.dir_files.specs.Including.{AreReadBy, Does, IsLevel, files_of_level, new_paths, room_before}
use Rattle.dir_files.proofs.including.read_level.Given as goal

-- the paths so far and those to come are all that are new; and the files so far were read, and are counted. The failures only grew
abbrev pub invariant-loop-path : goal.invariant-loop-path
invariant-loop-path g l = record {
  same : new_paths l.known l.wanted ≡ l.level.paths.items ++ new_paths (l.known ++ l.level.paths.items) (drop l.path-index l.wanted);
  level : IsLevel l.level;
  room : room_before l.level ≡ l.room;
  calls : Does (g.F.FileSystem.disk l.initial.files) (g.F.FileSystem.disk l.files) (λ d. AreReadBy d (files_of_level l.level));
  grows : g.F.FileSystem.failures l.initial.files ≤ g.F.FileSystem.failures l.files;
}
