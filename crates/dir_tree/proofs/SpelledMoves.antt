-- The names of entries as spelled, after a subtree has moved.
use Rattle.std.proofs.Common.{◌≡◌, Bool, true, false, cond, [], ◌∷◌, ◌++◌, length, take, Option, Some, None, is_some, refl, sym, ap, ◌∙◌, arith, true≢false}
use Rattle.dir_names.specs.Keys.{DnKeys, RdnKeys}
use Rattle.dir_names.specs.Names.{SpelledRdn}
use Rattle.dir_names.specs.Orders.{dn_key_eq, dn_key_eq_decides}
use Rattle.dir_tree.specs.Content.{Content}
use Rattle.dir_tree.specs.Dir.{Dir, IsClosed, entry_at}
use Rattle.dir_tree.specs.Moves.{move_subtree, rest_below}
use Rattle.dir_tree.specs.SpelledNames.{own_depth, own_name_at, own_name_of, spelled_name}
use Rattle.dir_tree.proofs.MoveLemmas.{IsClear, Place, clear_place, moved_here, moved_outside, new_longer, parent_apart}
use Rattle.dir_tree.proofs.RestBelow.{rest_joined}
use Rattle.dir_tree.proofs.SpelledLemmas.{by_last, own_here, spelled_below, spelled_child, spelled_root}

not_both : {A : Type 0} {x : A} → ◌≡◌ {A = Option A} None (Some x) → ⊥
not_both e = cc

module _ (d : Dir) (old new : DnKeys) (clear : IsClear d old new) (e : Content) where
  own_outside : (q : DnKeys) → rest_below new q ≡ None → rest_below old q ≡ None → own_name_at (move_subtree d old new e) q ≡ own_name_at d q
  own_outside q t u = ap (λ o. take (own_depth d.suffix q) (own_name_of o)) (moved_outside d old new clear e q t u)

  -- a name that is neither at or below the old key nor the new one
  pub spelled_outside : (q : DnKeys) → rest_below new q ≡ None → rest_below old q ≡ None → spelled_name (move_subtree d old new e) q ≡ spelled_name d q
  spelled_outside =
      by_last (λ q. rest_below new q ≡ None → rest_below old q ≡ None → spelled_name (move_subtree d old new e) q ≡ spelled_name d q)
      (λ t u. spelled_root (move_subtree d old new e) ∙ own_outside [] t u ∙ sym (spelled_root d))
      (λ p part rest t u.
      spelled_child (move_subtree d old new e) p part
      ∙ (λ i. own_outside (p ++ part ∷ []) t u i ++ rest (up new p part t) (up old p part u) i)
      ∙ sym (spelled_child d p part))
    where
      up : (above p : DnKeys) (part : RdnKeys) → rest_below above (p ++ part ∷ []) ≡ None → rest_below above p ≡ None
      up above p part t = by (rest_below above p) refl
        where
          by : (o : Option DnKeys) → rest_below above p ≡ o → o ≡ None
          by None w = refl
          by (Some rest) w = absurd (not_both (sym t ∙ rest_joined above p rest (part ∷ []) w))

  -- an entry that is not at or below the old key keeps its name
  pub spelled_stays : (q : DnKeys) → is_some (entry_at d q) ≡ true → rest_below old q ≡ None → spelled_name (move_subtree d old new e) q ≡ spelled_name d q
  spelled_stays q there u = spelled_outside q (by (rest_below new q) refl) u
    where
      by : (o : Option DnKeys) → rest_below new q ≡ o → o ≡ None
      by None t = refl
      by (Some rest) t = absurd (true≢false (sym (clear q there (ap is_some t)) ∙ ap is_some u))

-- the entry that moves: its new RDN, and the name of its new parent
pub spelled_moved : (d : Dir) (closed : IsClosed d) (old new : DnKeys) (at : Place d old new) (e : Content) (rdn : SpelledRdn) → e.own ≡ rdn ∷ [] → spelled_name (move_subtree d old new e) new ≡ rdn ∷ spelled_name d at.parent
spelled_moved d closed old new at e rdn own =
    let clear = clear_place d closed old new at in
    spelled_below (move_subtree d old new e) new at.parent at.parent_is
    ∙ (λ i. (own_here (move_subtree d old new e) new e (moved_here d old new clear e) ∙ (λ j. take (depth j) (own j))) i ++ spelled_stays d old new clear e at.parent at.parent_there (parent_apart d closed old new at) i)
  where
    depth : own_depth d.suffix new ≡ 1
    depth = by (dn_key_eq new d.suffix) refl
      where
        by : (b : Bool) → dn_key_eq new d.suffix ≡ b → cond b (length new) 1 ≡ 1
        by false t = refl
        by true t = let same = ap length ((dn_key_eq_decides new d.suffix).0 t) in let low = new_longer d closed old new at in absurd (omega (arith, same, low))
