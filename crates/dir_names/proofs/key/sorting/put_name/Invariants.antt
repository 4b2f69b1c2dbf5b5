use Rattle.std.proofs.Common.{◌≡◌, ◌∷◌, ◌++◌, take}
use Rattle.std.specs.List.{flat_map}
use Rattle.dir_names.specs.Inside.SortTexts.{rdn_sort}
use Rattle.dir_names.proofs.key.sorting.put_name.Given as goal

abbrev pub invariant-loop-part : goal.invariant-loop-part
invariant-loop-part l = l.out.items ≡ l.initial.out.items ++ flat_map (λ part. 1 ∷ rdn_sort part) (take l.part-index l.parts)
