use Rattle.std.proofs.Common.{◌≡◌, ◌++◌, take}
use Rattle.std.specs.List.{flat_map}
use Rattle.dir_ldif.specs.RecordText.{mod_text}
use Rattle.dir_ldif.specs.SoundRecords.{ModsAreBytes}
use Rattle.dir_ldif.proofs.writer.push_mods.Given as goal

abbrev pub invariant-loop-m : goal.invariant-loop-m
invariant-loop-m l = record { text : l.out.items ≡ l.fn.out.items ++ flat_map mod_text (take l.m-index l.mods); bytes : ModsAreBytes (take l.m-index l.mods) }
