use Rattle.std.proofs.Common.{◌≡◌, ℕ, ◌+◌, ◌-◌, ◌≤◌, ◌⊎◌, inl, inr, true, [], ◌∷◌, Option, is_some, length, sym, ap, subst, ◌∙◌, arith, true≢false}
use Rattle.std.specs.FinMap as fin
use Rattle.std.specs.FinMap.{find}
use Rattle.dir_names.specs.Keys.{DnKeys, RdnKeys}
use Rattle.dir_names.specs.Orders.{rdn_key_cmp}
use Rattle.dir_tree.specs.WellFormed.{Each}
use Rattle.dir_tree.specs.Inside.TreeOrder.{Children}
use Rattle.dir_tree.specs.Inside.TreePlaces.{IsAt, Places, entry_in, entry_on}
use Rattle.dir_tree.proofs.TreeChildren.{IsChildOf, all_listed, children_of, first_listed, none_in_place, other_children, this_child}
use Rattle.dir_tree.proofs.TreeNodes.{child_at, get_root}
use Rattle.dir_tree.proofs.tree.node.Node.+height.Goals as goal
use Rattle.dir_tree.proofs.tree.node.Node.+height.Goals.{In-Some-place}

pub loop-place-init : goal.loop-place-init
loop-place-init t c =
    let all : c.into_iter-place-iterator.result ≡ c.self.inside.children.entries = c.into_iter-place-iterator.ensures.into_iter_gives.0 in
    record {
      reaches = λ x path there. inr (ap (λ cs. is_some (find rdn_key_cmp x cs)) all ∙ all_listed c.self.inside.entry c.self.inside.children.entries c.self.invariant x path (ap (λ m. is_some (entry_on m (x ∷ path))) c.self.view_is ∙ there));
      least = λ n h. omega arith;
      each = subst (Each (IsChildOf c.args.self.now)) (sym all) (subst (λ m. Each (IsChildOf m) c.self.inside.children.entries) c.self.view_is (children_of c.self.inside.entry c.self.inside.children.entries c.self.invariant));
    }

child : (t : _) (c : In-Some-place t) → IsAt c.args.self.now (c.in-Some.field-0-0.now ∷ []) c.in-Some-place.child
child t c =
    let here = this_child c.args.self.now c.loop-place.place-iterator c.in-Some.field-0-0.now c.in-Some.place.now c.next.new.self c.in-Some.ensures.steps c.loop-place.invariant.each in
    child_at c.args.self.now c.in-Some.field-0-0.now c.in-Some.place.now c.in-Some-place.child here.0 c.in-Some-place.is

in_child : (t : _) (c : In-Some-place t) (path : DnKeys) → is_some (entry_on c.in-Some-place.child path) ≡ true → is_some (entry_on c.args.self.now (c.in-Some.field-0-0.now ∷ path)) ≡ true
in_child t c path there = ap (λ o. is_some (entry_in o)) (sym (child t c path)) ∙ there

pub overflow_add-below : goal.overflow_add-below
overflow_add-below t c =
    let s : In-Some-place t = (goal.at.overflow_add-below t c).In-Some-place in
    let low : c.height-below.result ≤ 64 = c.height-below.ensures.least 64 (λ path there. let h : length (c.in-Some.field-0-0.now ∷ path) ≤ 64 = c.requires (c.in-Some.field-0-0.now ∷ path) (in_child t s path there) in omega (arith, h)) in
    omega (arith, low)

module _ (m : Places) (left : Children) (k : RdnKeys) (place : Option Places) (others : Children) (next : left ≡ (k, place) ∷ others) (n : Places) (is : IsAt m (k ∷ []) n) (below : ℕ) where
  -- with the child's height counted
  next_reaches : (height after : ℕ) → height ≤ after → below + 1 ≤ after →
      ((path : DnKeys) → is_some (entry_on n path) ≡ true → length path ≤ below) →
      ((x : RdnKeys) (path : DnKeys) → is_some (entry_on m (x ∷ path)) ≡ true → (length path + 1 ≤ height) ⊎ (is_some (find rdn_key_cmp x left) ≡ true)) →
      (x : RdnKeys) (path : DnKeys) → is_some (entry_on m (x ∷ path)) ≡ true → (length path + 1 ≤ after) ⊎ (is_some (find rdn_key_cmp x others) ≡ true)
  next_reaches height after kept counted reaches before x path there = elim (before x path there) [
    | inl low ↦ inl (omega (arith, low, kept))
    | inr listed ↦
        first_listed (k, place) others x (ap (λ cs. is_some (find rdn_key_cmp x cs)) (sym next) ∙ listed)
        (λ same.
        let low : length path ≤ below = reaches path (ap (λ o. is_some (entry_in o)) (is path ∙ ap (λ z. fin.get m (z ∷ path)) (sym same)) ∙ there) in
        inl (omega (arith, low, counted)))
        (λ later. inr later)
  ]

  next_least : is_some (entry_on n []) ≡ true → ((bound : ℕ) → ((path : DnKeys) → is_some (entry_on n path) ≡ true → length path ≤ bound) → below ≤ bound) →
      (bound : ℕ) → ((path : DnKeys) → is_some (entry_on m path) ≡ true → length path ≤ bound) → below + 1 ≤ bound
  next_least root least bound h =
      let one : length (k ∷ []) ≤ bound = h (k ∷ []) (ap (λ o. is_some (entry_in o)) (sym (is [])) ∙ root) in
      let here : below ≤ bound - 1 = least (bound - 1) (λ path there. let low : length (k ∷ path) ≤ bound = h (k ∷ path) (ap (λ o. is_some (entry_in o)) (sym (is path)) ∙ there) in omega (arith, low)) in
      omega (arith, one, here)

pub loop-place-preserved-then-below-height : goal.loop-place-preserved-then-below-height
loop-place-preserved-then-below-height t c =
    let s : In-Some-place t = (goal.at.loop-place-preserved-then-below-height t c).In-Some-place in
    record {
      reaches = next_reaches c.args.self.now c.loop-place.place-iterator c.in-Some.field-0-0.now c.in-Some.place.now c.next.new.self c.in-Some.ensures.steps c.in-Some-place.child (child t s) c.height-below.result c.loop-place.height (c.height-below.result + 1) (omega arith) (omega arith) c.height-below.ensures.reaches c.loop-place.invariant.reaches;
      least = next_least c.args.self.now c.loop-place.place-iterator c.in-Some.field-0-0.now c.in-Some.place.now c.next.new.self c.in-Some.ensures.steps c.in-Some-place.child (child t s) c.height-below.result c.height-below.ensures.root c.height-below.ensures.least;
      each = other_children c.args.self.now c.loop-place.place-iterator c.in-Some.field-0-0.now c.in-Some.place.now c.next.new.self c.in-Some.ensures.steps c.loop-place.invariant.each;
    }

pub loop-place-preserved-else-below-height : goal.loop-place-preserved-else-below-height
loop-place-preserved-else-below-height t c =
    let s : In-Some-place t = (goal.at.loop-place-preserved-else-below-height t c).In-Some-place in
    record {
      reaches = next_reaches c.args.self.now c.loop-place.place-iterator c.in-Some.field-0-0.now c.in-Some.place.now c.next.new.self c.in-Some.ensures.steps c.in-Some-place.child (child t s) c.height-below.result c.loop-place.height c.loop-place.height (omega arith) (omega arith) c.height-below.ensures.reaches c.loop-place.invariant.reaches;
      least = c.loop-place.invariant.least;
      each = other_children c.args.self.now c.loop-place.place-iterator c.in-Some.field-0-0.now c.in-Some.place.now c.next.new.self c.in-Some.ensures.steps c.loop-place.invariant.each;
    }

pub loop-place-preserved : goal.loop-place-preserved
loop-place-preserved t c =
    let k : RdnKeys = c.in-Some.field-0-0.now in
    let here = this_child c.args.self.now c.loop-place.place-iterator k c.in-Some.place.now c.next.new.self c.in-Some.ensures.steps c.loop-place.invariant.each in
    record {
      reaches = λ x path there. elim (c.loop-place.invariant.reaches x path there) [
        | inl low ↦ inl low
        | inr listed ↦
            first_listed (k, c.in-Some.place.now) c.next.new.self x (ap (λ cs. is_some (find rdn_key_cmp x cs)) (sym c.in-Some.ensures.steps) ∙ listed)
            (λ same. absurd (none_in_place c.args.self.now k c.in-Some.place.now here.0 c.in_default.is path (ap (λ z. is_some (entry_on c.args.self.now (z ∷ path))) (sym same) ∙ there)))
            (λ later. inr later)
      ];
      least = c.loop-place.invariant.least;
      each = other_children c.args.self.now c.loop-place.place-iterator k c.in-Some.place.now c.next.new.self c.in-Some.ensures.steps c.loop-place.invariant.each;
    }

-- once no child is left
whole : (m : Places) (height : ℕ) (left : Children) → left ≡ [] →
    ((x : RdnKeys) (path : DnKeys) → is_some (entry_on m (x ∷ path)) ≡ true → (length path + 1 ≤ height) ⊎ (is_some (find rdn_key_cmp x left) ≡ true)) →
    (path : DnKeys) → is_some (entry_on m path) ≡ true → length path ≤ height
whole m height left none reaches [] there = omega arith
whole m height left none reaches (x ∷ path) there = elim (reaches x path there) [
  | inl low ↦ omega (arith, low)
  | inr listed ↦ absurd (true≢false (sym listed ∙ ap (λ cs. is_some (find rdn_key_cmp x cs)) none))
]

pub returns-clause-reaches : goal.returns-clause-reaches
returns-clause-reaches t c = whole c.args.self.now c.loop-place.height c.loop-place.place-iterator c.in-None.ensures.steps.0 c.loop-place.invariant.reaches

pub returns-clause-root : goal.returns-clause-root
returns-clause-root t c = ap (λ m. is_some (entry_on m [])) (sym c.self.view_is) ∙ ap (λ o. is_some (entry_in o)) (get_root c.self.inside.entry c.self.inside.children.entries c.self.invariant)
