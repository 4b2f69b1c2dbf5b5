-- The text that a name's key is kept with. Its bytes are in the order of the keys, so two keys are compared by one pass over bytes.
use Rattle.std.specs.Prelude.{ℕ, cond, nat_lt, List, [], ◌∷◌, ◌++◌}
use Rattle.std.specs.List.{flat_map}
use Rattle.dir_names.specs.Attr.{Attr}
use Rattle.dir_names.specs.Keys.{RdnKeys, DnKeys}

-- 0 marks an end and 1 the start of an element, so a 1 is put before a 0 or 1 of a text
abbrev pub marked_byte : ℕ → List ℕ
marked_byte b = cond (nat_lt b 2) (1 ∷ b ∷ []) (b ∷ [])

-- a text and its end
abbrev pub text_sort : List ℕ → List ℕ
text_sort text = flat_map marked_byte text ++ 0 ∷ []

-- the elements, each after its mark, and the end of the list
abbrev pub list_sort : {A : Type 0} → (A → List ℕ) → List A → List ℕ
list_sort f xs = flat_map (λ x. 1 ∷ f x) xs ++ 0 ∷ []

abbrev pub pair_sort : Attr × List ℕ → List ℕ
pair_sort p = text_sort p.0.attr_type ++ (list_sort text_sort p.0.options ++ text_sort p.1)

abbrev pub rdn_sort : RdnKeys → List ℕ
rdn_sort = list_sort pair_sort

-- a name needs no end
abbrev pub name_sort : DnKeys → List ℕ
name_sort parts = flat_map (λ part. 1 ∷ rdn_sort part) parts
