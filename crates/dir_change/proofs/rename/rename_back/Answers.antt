use Rattle.std.proofs.Common.{length, ap, arith}
use Rattle.dir_change.proofs.rename.rename_back.Goals as goal

pub joined_name-requires : goal.joined_name-requires
joined_name-requires g c =
    let low = c.requires.fits in
    let own = ap length c.own.ensures in
    let name = ap length c.in_ok-spelled.ensures in
    omega (arith, low, own, name)
