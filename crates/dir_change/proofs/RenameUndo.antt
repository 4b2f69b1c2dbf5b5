-- The group that a rename writes, by what is known before it.
use Rattle.std.proofs.Common.{◌≡◌, ◌+◌, ◌≤◌, true, false, Bool, cond, List, [], ◌∷◌, ◌++◌, length, Option, Some, None, is_some, Ok, refl, sym, ap, subst, ◌∙◌, arith, length-append}
use Rattle.std.proofs.lemmas.Bool.Decides.{nat_tests}
use Rattle.std.specs.Option.{option_and_then}
use Rattle.dir_names.specs.declared.schema.TypeRow.{TypeRow}
use Rattle.dir_names.specs.Keys.{DnKeys, RdnKeys, parent_of}
use Rattle.dir_names.specs.Names.{SpelledName, SpelledRdn}
use Rattle.dir_names.specs.NameKeys.{rdn_key}
use Rattle.dir_names.specs.Orders.{dn_key_eq}
use Rattle.dir_ldif.specs.declared.records.ChangeKind.TheVariants as kind
use Rattle.dir_tree.specs.Content.{Content}
use Rattle.dir_tree.specs.Dir.{Dir, IsClosed, entry_at, is_there}
use Rattle.dir_tree.specs.Moves.{MayMoveTo, height_below, move_subtree, rest_below}
use Rattle.dir_tree.specs.NewEntry.{leaf_key, leaf_of}
use Rattle.dir_tree.specs.SpelledNames.{spelled_name}
use Rattle.dir_tree.proofs.DirLemmas.{parent_child}
use Rattle.dir_tree.proofs.MoveLemmas.{IsClear, Place, clear_place, moved_here, old_parent}
use Rattle.dir_tree.proofs.RestBelow.{rest_is}
use Rattle.dir_tree.proofs.SpelledLemmas.{spelled_short}
use Rattle.dir_tree.proofs.SpelledMoves.{spelled_moved, spelled_stays}
use Rattle.dir_change.specs.Inside.Touched.{AreSameApartFrom}
use Rattle.dir_change.specs.Rename.{place_at, renamed_entry, superior_at, superior_key}
use Rattle.dir_change.specs.Undo.{is_parent, joined_key, rename_back, rename_back_in, spelled_name_or_empty, superior_back, undo_of, undo_of_rename}
use Rattle.dir_change.proofs.RenameAccepted.{RenamedAt, new_key, place_is, renamed_by}
use Rattle.dir_change.proofs.RenamedEntry.{renamed_is, renamed_stays}

module _ (rows : List TypeRow) (d : Dir) (closed : IsClosed d) (k : DnKeys) (rdn : SpelledRdn) (delete_old : Bool) (superior : Option SpelledName) (new : Dir) (known : RenamedAt rows d k rdn delete_old superior new) where
  abbrev to : DnKeys
  to = new_key rows d k rdn delete_old superior new known

  abbrev after : Dir
  after = move_subtree d k to known.new_entry

  abbrev place : Place d k to
  place = place_is rows d k rdn delete_old superior new known

  clear : IsClear d k to
  clear = clear_place d closed k to place

  pub own_is : known.new_entry.own ≡ rdn ∷ []
  own_is = ap (λ (z : Content). z.own) (renamed_is rows known.old_entry rdn known.key delete_old known.new_entry known.renamed).0

  -- the new name is not longer than the new key
  pub name_fits : length known.new_entry.own + length (spelled_name d known.parent) ≤ length to
  name_fits =
      let one = ap length own_is in
      let short = spelled_short d closed known.parent in
      let count = length-append known.parent (known.key ∷ []) in
      omega (arith, one, short, count)

  new_name : spelled_name after to ≡ known.new_entry.own ++ spelled_name d known.parent
  new_name = spelled_moved d closed k to place known.new_entry rdn own_is ∙ ap (λ own. own ++ spelled_name d known.parent) (sym own_is)

  above : (p : DnKeys) × (parent_of k ≡ Some p) × (is_some (entry_at d p) ≡ true)
  above = old_parent d closed k to place

  pub has_parent_key : is_some (parent_of k) ≡ true
  has_parent_key = ap is_some above.1

  pub parent_is_there : (p : DnKeys) → parent_of k ≡ Some p → is_some (entry_at d p) ≡ true
  parent_is_there p t = ap (λ z. is_some (entry_at d z)) (inner (sym t ∙ above.1)) ∙ above.2
    where
      inner : {x y : DnKeys} → ◌≡◌ {A = Option DnKeys} (Some x) (Some y) → x ≡ y
      inner e = cc

  parent_apart : rest_below k above.0 ≡ None
  parent_apart = by (rest_below k above.0) refl
    where
      by : (o : Option DnKeys) → rest_below k above.0 ≡ o → o ≡ None
      by None t = refl
      by (Some rest) t =
          let child = parent_child k above.0 above.1 in
          let short = ap length child.1 ∙ length-append above.0 (child.0 ∷ []) in
          let same = ap length (rest_is k above.0 rest t) ∙ length-append k rest in
          absurd (omega (arith, same, short))

  -- the superior that is named, as it is spelled before the rename too
  pub named_back : superior_back rows after k superior ≡ cond (is_parent (parent_of k) (Some known.parent)) None (Some (spelled_name_or_empty d (parent_of k)))
  named_back =
      (λ i. cond (is_parent (parent_of k) (known.parent_is i)) None (Some (spelled_name_or_empty after (above.1 i))))
      ∙ (λ i. cond (is_parent (parent_of k) (Some known.parent)) None (Some (spelled_stays d k to clear known.new_entry above.0 above.2 parent_apart i)))
      ∙ (λ i. cond (is_parent (parent_of k) (Some known.parent)) None (Some (spelled_name_or_empty d (sym above.1 i))))

  -- the group, by the names and entries before the rename
  pub group_form : undo_of rows d after k (kind.Rename rdn delete_old superior) ≡
      rename_back_in rows d k known.parent known.new_entry known.old_entry
  group_form =
      (λ i. undo_of_rename rows d after k (joined_key (known.parent_is i) (known.named i)) (superior_back rows after k superior) (option_and_then (entry_at after) (joined_key (known.parent_is i) (known.named i))) (known.there i))
      ∙ ap (λ o. undo_of_rename rows d after k (Some to) (superior_back rows after k superior) o (Some known.old_entry)) (moved_here d k to clear known.new_entry)
      ∙ (λ i. rename_back rows (new_name i) (named_back i) (spelled_name d k) known.new_entry known.old_entry (leaf_of known.old_entry.own) (leaf_key rows known.old_entry.own))

  pub room : length to + height_below d k ≤ 64
  room = grind (arith, nat_tests, known.fits)

-- what a rename relies on once its tests have passed: the conditions of the move, and the form of its group
pub record Built (rows : List TypeRow) (d : Dir) (k : DnKeys) (rdn : SpelledRdn) (delete_old : Bool) (superior : Option SpelledName) (e : Content) (p n : DnKeys) (y : Content) : Type 0 where
  pub inner : k ≡ d.suffix → ⊥
  pub parent : is_there d (parent_of n) ≡ true
  pub place : MayMoveTo d k n
  pub room : length n + height_below d k ≤ 64
  pub name_fits : length y.own + length (spelled_name d p) ≤ length n
  pub superior_there : is_some (entry_at d p) ≡ true
  pub has_parent_key : is_some (parent_of k) ≡ true
  pub parent_there : (q : DnKeys) → parent_of k ≡ Some q → is_some (entry_at d q) ≡ true
  pub group : undo_of rows d (move_subtree d k n y) k (kind.Rename rdn delete_old superior) ≡
      rename_back_in rows d k p y e
  pub same : AreSameApartFrom e.key y.key y.attributes e.attributes

pub built : (rows : List TypeRow) (d : Dir) → IsClosed d → (k : DnKeys) (rdn : SpelledRdn) (delete_old : Bool) (superior : Option SpelledName) (e : Content) → entry_at d k ≡ Some e → dn_key_eq k d.suffix ≡ false
    → (p : DnKeys) → superior_at d k (superior_key rows k superior) ≡ Ok p → (key : RdnKeys) → rdn_key rows rdn ≡ Some key → (n : DnKeys) → n ≡ p ++ key ∷ [] → place_at d k n ≡ Ok n
    → (y : Content) → renamed_entry rows e rdn key delete_old ≡ Ok y → Built rows d k rdn delete_old superior e p n y
built rows d closed k rdn delete_old superior e there apart p above key named n is place y renamed =
    let new : Dir = move_subtree d k (p ++ key ∷ []) y in
    let known : RenamedAt rows d k rdn delete_old superior (move_subtree d k (p ++ key ∷ []) y) = renamed_by rows d k rdn delete_old superior e there apart p above key named (subst (λ n. place_at d k n ≡ Ok n) is place) y renamed in
    subst (λ n. Built rows d k rdn delete_old superior e p n y) (sym is)
    (record {
      inner = (place_is rows d k rdn delete_old superior new known).inner;
      parent = ap (is_there d) (place_is rows d k rdn delete_old superior new known).parent_is ∙ known.parent_there;
      place = (place_is rows d k rdn delete_old superior new known).place;
      room = room rows d closed k rdn delete_old superior new known;
      name_fits = name_fits rows d closed k rdn delete_old superior new known;
      superior_there = known.parent_there;
      has_parent_key = has_parent_key rows d closed k rdn delete_old superior new known;
      parent_there = parent_is_there rows d closed k rdn delete_old superior new known;
      group = group_form rows d closed k rdn delete_old superior new known;
      same = renamed_stays rows e rdn key delete_old y named renamed;
    })
