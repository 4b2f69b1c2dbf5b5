-- The folder in memory that the tests run over.
use Rattle.std.specs.Prelude.{ℕ, List, Option, None, Some, codes, cond}
use Rattle.dir_names.specs.Orders.{bytes_eq}

-- the text of the file at a path: there are three
abbrev pub folder_text : List ℕ → List ℕ → List ℕ → List ℕ → Option (List ℕ)
folder_text copy changes config path =
    cond (bytes_eq path (codes "copy")) (Some copy)
    (cond (bytes_eq path (codes "changes")) (Some changes)
    (cond (bytes_eq path (codes "config")) (Some config) None))

-- the mode of the file at a path: the copy is not for others
abbrev pub folder_mode : List ℕ → ℕ
folder_mode path = cond (bytes_eq path (codes "copy")) 0o640 0o644
