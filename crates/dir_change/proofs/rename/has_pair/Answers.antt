use Rattle.std.proofs.Common.{◌≡◌, Bool, ◌&&◌, ◌||◌, Decides, sym, List, [], ◌∷◌, refl, ◌∙◌}
use Rattle.std.specs.List.{list_any}
use Rattle.dir_names.specs.Orders.{attr_eq_decides, bytes_eq_decides, pair_eq}
use Rattle.dir_tree.proofs.GainedValues.{alike}
use Rattle.dir_change.proofs.rename.has_pair.Goals as goal

any_same : {A : Type 0} (p q : A → Bool) → ((x : A) → p x ≡ q x) → (xs : List A) → list_any p xs ≡ list_any q xs
any_same p q h [] = refl
any_same p q h (x ∷ xs) = λ i. h x i || any_same p q h xs i

-- two tests that decide an equation and its reverse
turned : {A : Type 0} {x y : A} {a b : Bool} → Decides a (x ≡ y) → Decides b (y ≡ x) → a ≡ b
turned p q = alike _ _ (λ e. q.1 (sym (p.0 e))) (λ e. p.1 (sym (q.0 e)))

pub returns : goal.returns
returns c = c.contains.ensures.value ∙ any_same _ (pair_eq c.args.pair.now) (λ x i. turned (attr_eq_decides x.0 c.args.pair.now.0) (attr_eq_decides c.args.pair.now.0 x.0) i && turned (bytes_eq_decides x.1 c.args.pair.now.1) (bytes_eq_decides c.args.pair.now.1 x.1) i) c.args.pairs.now
