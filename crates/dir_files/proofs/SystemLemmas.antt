-- The folder of a path.
use Rattle.std.proofs.Common.{◌≡◌, ◌<◌, ℕ, List, [], ◌∷◌, length, refl, arith}
use Rattle.dir_files.specs.System.{or_root}

-- what is before the slash is the folder, where something is
pub kept : (front : List ℕ) → 0 < length front → or_root front ≡ front
kept [] some = absurd (omega (arith, some))
kept (b ∷ bs) some = refl
