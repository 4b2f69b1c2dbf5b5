use Rattle.dir_files.proofs.including.+read_below.Given as goal

abbrev pub decreases-read_below : goal.decreases-read_below
decreases-read_below g l = l.below
