-- The items of a `Few`, which keeps a single item without a `Vec`.
use Rattle.std.specs.Prelude.{List, [], ◌∷◌}
use Rattle.dir_names.specs.declared.list.few.Few.{Few}
use Rattle.dir_names.specs.declared.list.few.Few.TheVariants as kept

abbrev pub few_items : {T : Type 0} → Few T → List T
few_items kept.None = []
few_items (kept.One x) = x ∷ []
few_items (kept.Many xs) = xs.items
