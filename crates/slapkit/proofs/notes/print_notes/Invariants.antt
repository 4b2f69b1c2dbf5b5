use Rattle.std.proofs.Common.{take}
use Rattle.dir_files.specs.Notes.{WereGiven}
use Rattle.slapkit.proofs.notes.print_notes.Given as goal

-- the notes so far are printed
abbrev pub invariant-loop-note : goal.invariant-loop-note
invariant-loop-note g l = WereGiven (g.P.NotePrinter.printed l.initial.printer) (g.P.NotePrinter.printed l.printer) (take l.note-index l.notes)
