use Rattle.std.proofs.Common.{◌≡◌, ◌++◌, ◌≤◌, length, take, rules, arith}
use Rattle.std.proofs.lemmas.Grind.{common_steps}
use Rattle.std.proofs.KnownBytes.{Consumes-trans}
use Rattle.dir_tools.proofs.AccessParts.{piece_fits}
use Rattle.dir_tools.proofs.acl.configuration.read_bounded.Goals as goal

pub returns-in_err-extend_from_slice-in-Ok-clause-bounded : goal.returns-in_err-extend_from_slice-in-Ok-clause-bounded
returns-in_err-extend_from_slice-in-Ok-clause-bounded g c =
    let text = c.loop-buffer.text.items in
    let piece = take c.in-Ok.n c.read.new.buffer in
    let size : length c.read.new.buffer ≡ 8192 = search rules in
    let short : length text ≤ 16777216 = search rules in (
      text ++ piece,
      Consumes-trans (g.R.Source.left c.args.source.now) (g.R.Source.left c.loop-buffer.source) (g.R.Source.left c.read.new.self) text piece c.loop-buffer.invariant.taken c.in-Ok.ensures.bytes.0,
      piece_fits text c.read.new.buffer c.in-Ok.n short c.in-Ok.ensures.bound size,
    )

pub loop-buffer-preserved : goal.loop-buffer-preserved
loop-buffer-preserved g c = grind (arith, common_steps)
