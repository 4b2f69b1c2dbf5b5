use Rattle.dir_change.proofs.rename.move_to.Goals as goal

pub undo_of_rename-requires-clause-there : goal.undo_of_rename-requires-clause-there
undo_of_rename-requires-clause-there g c = (c.requires.undoable c.in_ok-renamed.renamed c.in_ok-renamed.ensures.ok).there

pub undo_of_rename-requires-clause-above : goal.undo_of_rename-requires-clause-above
undo_of_rename-requires-clause-above g c = (c.requires.undoable c.in_ok-renamed.renamed c.in_ok-renamed.ensures.ok).above

pub undo_of_rename-requires-clause-has_parent : goal.undo_of_rename-requires-clause-has_parent
undo_of_rename-requires-clause-has_parent g c = (c.requires.undoable c.in_ok-renamed.renamed c.in_ok-renamed.ensures.ok).has_parent

pub undo_of_rename-requires-clause-parent : goal.undo_of_rename-requires-clause-parent
undo_of_rename-requires-clause-parent g c = (c.requires.undoable c.in_ok-renamed.renamed c.in_ok-renamed.ensures.ok).parent

pub undo_of_rename-requires-clause-fits : goal.undo_of_rename-requires-clause-fits
undo_of_rename-requires-clause-fits g c = (c.requires.undoable c.in_ok-renamed.renamed c.in_ok-renamed.ensures.ok).fits

pub undo_of_rename-requires-clause-same : goal.undo_of_rename-requires-clause-same
undo_of_rename-requires-clause-same g c = (c.requires.undoable c.in_ok-renamed.renamed c.in_ok-renamed.ensures.ok).same
