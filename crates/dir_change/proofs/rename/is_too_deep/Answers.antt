use Rattle.std.proofs.Common.{◌≡◌, ◌+◌, ◌-◌, ◌≤◌, true, ◌++◌, length, is_some, arith, length-append}
use Rattle.std.proofs.lemmas.Bool.Decides.{nat_tests}
use Rattle.dir_names.specs.Keys.{DnKeys}
use Rattle.dir_tree.specs.Dir.{Dir, entry_at}
use Rattle.dir_tree.specs.Moves.{IsShallow, height_below}
use Rattle.dir_tree.proofs.MoveLemmas.{height_bound}
use Rattle.dir_change.proofs.rename.is_too_deep.Goals as goal

-- no key below an entry is longer than 64 RDNs
height_room : (d : Dir) (k : DnKeys) → IsShallow d → length k ≤ 64 → length k + height_below d k ≤ 64
height_room d k shallow short =
    let high = height_bound d k (64 - length k) below in
    omega (arith, short, high)
  where
    below : (rest : DnKeys) → is_some (entry_at d (k ++ rest)) ≡ true → length rest ≤ 64 - length k
    below rest there =
        let low = shallow (k ++ rest) there in
        let count = length-append k rest in
        omega (arith, low, count)

pub returns-else-depth : goal.returns-else-depth
returns-else-depth g c =
    let room = height_room (g.D.Directory.state c.args.directory.now) c.args.key.now c.requires.shallow c.depth-2.ensures.within_limit in
    let same = c.depth.ensures.value in
    let same_key = c.depth-2.ensures.value in
    let no_longer = c.if-depth.false in
    grind (arith, nat_tests, room, same, same_key, no_longer)
