-- The way from an entry up to the suffix's, as a loop climbs it.
use Rattle.std.proofs.Common.{◌≡◌, ℕ, ◌+◌, ◌<◌, true, ◌⊎◌, inl, inr, [], ◌∷◌, ◌++◌, length, take, Option, Some, None, is_some, Result, Ok, refl, sym, ap, ◌∙◌, arith, append_assoc, length-append, true≢false}
use Rattle.std.proofs.lemmas.List.{append-nil}
use Rattle.dir_names.specs.declared.fault.NameFault.{NameFault}
use Rattle.dir_names.specs.Keys.{DnKeys, parent_of}
use Rattle.dir_names.specs.Names.{SpelledName}
use Rattle.dir_names.specs.Orders.{dn_key_eq, dn_key_eq_decides}
use Rattle.dir_tree.specs.Content.{Content}
use Rattle.dir_tree.specs.Dir.{Dir, entry_at, is_there, IsClosed}
use Rattle.dir_tree.specs.SpelledNames.{own_depth, own_name_at, spelled_name}
use Rattle.dir_tree.proofs.DirLemmas.{parent_child}
use Rattle.dir_tree.proofs.NextKey.{or_cases}
use Rattle.dir_tree.proofs.SpelledLemmas.{own_here, spelled_below, spelled_root, spelled_above}

-- what is still to be spelled, from this key up
abbrev pub left_above : Dir → Option DnKeys → SpelledName
left_above d None = []
left_above d (Some k) = spelled_name d k

-- the key that the climb has reached: an entry's, or above the suffix
abbrev pub IsOnPath : Dir → Option DnKeys → Type 0
IsOnPath d None = Unit {0}
IsOnPath d (Some k) = (is_some (entry_at d k) ≡ true) ⊎ (length k < length d.suffix)

abbrev pub steps_left : Option DnKeys → ℕ
steps_left None = 0
steps_left (Some k) = length k + 1

pub fewer_steps : (k : DnKeys) (o : Option DnKeys) → parent_of k ≡ o → steps_left o < steps_left (Some k)
fewer_steps k None e = omega arith
fewer_steps k (Some p) e =
    let child = parent_child k p e in
    let count : length k ≡ length p + 1 = ap length child.1 ∙ length-append p (child.0 ∷ []) in
    omega (arith, count)

-- what a call gives is the definition's answer
pub given : {A : Type 0} {x y : A} → ◌≡◌ {A = Result A NameFault} (Ok x) (Ok y) → x ≡ y
given e = cc

module _ (d : Dir) (closed : IsClosed d) where
  -- past an entry
  pub climbed : (done : SpelledName) (k : DnKeys) (e : Content) (o : Option DnKeys) → entry_at d k ≡ Some e → parent_of k ≡ o → done ++ spelled_name d k ≡ (done ++ take (own_depth d.suffix k) e.own) ++ left_above d o
  climbed done k e None at top =
      let root : k ≡ [] = only_root k top in
      ap (λ z. done ++ spelled_name d z) root ∙ ap (λ names. done ++ names) (spelled_root d ∙ sym (ap (own_name_at d) root) ∙ own_here d k e at) ∙ sym (append-nil (done ++ take (own_depth d.suffix k) e.own))
    where
      only_root : (k : DnKeys) → parent_of k ≡ None → k ≡ []
      only_root [] t = refl
      only_root (x ∷ xs) t = absurd (cc)
  climbed done k e (Some p) at above = ap (λ names. done ++ names) (spelled_below d k p above ∙ ap (λ own. own ++ spelled_name d p) (own_here d k e at)) ∙ sym (append_assoc done (take (own_depth d.suffix k) e.own) (spelled_name d p))

  pub still_on_path : (k : DnKeys) (o : Option DnKeys) → is_some (entry_at d k) ≡ true → parent_of k ≡ o → IsOnPath d o
  still_on_path k None there e = tt
  still_on_path k (Some p) there e =
      or_cases d closed (dn_key_eq k d.suffix) (is_there d (parent_of k))
      (λ t.
      let child = parent_child k p e in
      let count : length k ≡ length p + 1 = ap length child.1 ∙ length-append p (child.0 ∷ []) in
      let long : length k ≡ length d.suffix = ap length ((dn_key_eq_decides k d.suffix).0 t) in
      inr (omega (arith, count, long)))
      (λ t. inl (sym (ap (is_there d) e) ∙ t))
      (closed k there)

  -- if there is no entry, nothing is left to be spelled
  pub climbed_past : (k : DnKeys) → IsOnPath d (Some k) → entry_at d k ≡ None → spelled_name d k ≡ []
  climbed_past k (inl there) none = absurd (true≢false (sym there ∙ ap is_some none))
  climbed_past k (inr short) none = spelled_above d closed k short
