use Rattle.std.proofs.Common.{◌≡◌, ◌⊎◌, true, false, None, drop}
use Rattle.std.specs.FinMap as fin
use Rattle.dir_names.specs.Attr.{Attr}
use Rattle.dir_change.specs.Inside.Looked.{LooksAt, is_one_of}
use Rattle.dir_change.proofs.looked.looked_at.Given as goal

abbrev pub invariant-loop-key : goal.invariant-loop-key
invariant-loop-key l =
    ((q : Attr) → is_one_of q l.keys ≡ true → LooksAt l.schema l.entry.key l.mods q (fin.get l.entry.attributes q) (fin.get l.before q) ⊎ ((is_one_of q (drop l.key-index l.keys) ≡ true) × (fin.get l.before q ≡ None)))
    × ((q : Attr) → is_one_of q l.keys ≡ false → fin.get l.before q ≡ None)
