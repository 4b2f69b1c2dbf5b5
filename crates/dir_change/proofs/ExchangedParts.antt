-- Values that have grown and are settled are those with the one part in place of the other; values that have shrunk again are as before.
use Rattle.std.proofs.Common.{◌≡◌, ℕ, Bool, true, false, cond, not, ◌&&◌, List, Option, Some, None, is_some, refl, sym, ap, ◌∙◌, true≢false}
use Rattle.std.specs.FinMap as fin
use Rattle.dir_names.specs.declared.value.ValueKey.{ValueKey}
use Rattle.dir_tree.specs.Content.{Stored, StoredValues}
use Rattle.dir_change.proofs.ValueSets.{or_else, same_values}
use Rattle.dir_change.specs.Inside.Exchanged.{AreGrowing, AreGrown, AreSettled, AreShrunk, Fit, FitValues, first_of}
use Rattle.dir_change.specs.Inside.Patched.{patched_values}
use Rattle.dir_change.specs.Inside.Looked.{AreSlotsAlike, Looked}
use Rattle.dir_change.proofs.PatchedParts.{get_patched}

module _ (x a b : StoredValues) (fits : FitValues x a b) where
  pub settled_is : (g : StoredValues) → AreGrown x b g → (n : StoredValues) → AreSettled g a b n → n ≡ patched_values x a b
  settled_is g grown n settled = same_values n (patched_values x a b) (λ v.
      settled v
      ∙ (λ i. cond (fin.contains_key a v) (cond (is_some (grown v i)) (fin.get b v) None) (grown v i))
      ∙ by v (fin.get x v) refl (fin.get a v) refl (fin.get b v) refl
      ∙ sym (get_patched x a b v))
    where
      by : (v : ValueKey) (s : Option (List ℕ)) → fin.get x v ≡ s → (f : Option (List ℕ)) → fin.get a v ≡ f → (g : Option (List ℕ)) → fin.get b v ≡ g
          → cond (is_some f) (cond (is_some (first_of s g)) g None) (first_of s g) ≡ or_else g (cond (is_some f) None s)
      by v (Some s) t (Some f) u (Some g) w = refl
      by v (Some s) t (Some f) u None w = refl
      by v (Some s) t None u (Some g) w = absurd (true≢false (sym (ap is_some t) ∙ fits.1 v (ap is_some w) (ap is_some u)))
      by v (Some s) t None u None w = refl
      by v None t (Some f) u g w = absurd (true≢false (sym (fits.0 v (ap is_some u)) ∙ ap is_some t))
      by v None t None u (Some g) w = refl
      by v None t None u None w = refl

  pub shrunk_is : (g : StoredValues) → AreGrowing x b g → (n : StoredValues) → AreShrunk g a b n → n ≡ x
  shrunk_is g growing n shrunk = same_values n x (λ v. shrunk v ∙ by v (fin.contains_key b v) refl (fin.contains_key a v) refl)
    where
      none : (o : Option (List ℕ)) → is_some o ≡ false → None ≡ o
      none None h = refl
      none (Some s) h = absurd (true≢false h)

      and_false : (c : Bool) → (c && false) ≡ false
      and_false true = refl
      and_false false = refl

      by : (v : ValueKey) (c : Bool) → fin.contains_key b v ≡ c → (d : Bool) → fin.contains_key a v ≡ d → cond (c && not d) None (fin.get g v) ≡ fin.get x v
      by v true t false u = none (fin.get x v) (fits.1 v t u)
      by v true t true u = growing v (ap (λ e. fin.contains_key b v && not e) (fits.0 v u) ∙ and_false (fin.contains_key b v))
      by v false t d u = growing v (ap (λ e. e && not (fin.contains_key x v)) t)

pub fit_alike : (o : Option Looked) (s f t g : Option Stored) → AreSlotsAlike o s f → AreSlotsAlike o t g → Fit s f g
fit_alike None s None t None was is = tt
fit_alike None None None t (Some g) was is = tt
fit_alike None (Some s) None t (Some g) was is = absurd (cc)
fit_alike None None (Some f) t g was is = absurd (cc)
fit_alike None (Some s) (Some f) t None was is = tt
fit_alike None (Some s) (Some f) t (Some g) was is = ((λ v h. ap (has v) was ∙ h), λ v h none. ap (has v) was ∙ none)
  where
    has : ValueKey → Option Stored → Bool
    has v None = false
    has v (Some z) = fin.contains_key z.values v
fit_alike (Some p) None f t g was is = absurd was
fit_alike (Some p) (Some s) None t g was is = absurd was
fit_alike (Some p) (Some s) (Some f) None g was is = absurd is
fit_alike (Some p) (Some s) (Some f) (Some t) None was is = absurd is
fit_alike (Some p) (Some s) (Some f) (Some t) (Some g) was is = ((λ v h. first v (p.test v) refl h), λ v h none. second v (p.test v) refl h none)
  where
    first : (v : ValueKey) (c : Bool) → p.test v ≡ c → fin.contains_key f.values v ≡ true → fin.contains_key s.values v ≡ true
    first v true e h = ap is_some (sym (was.inside v e)) ∙ h
    first v false e h = absurd (true≢false (sym h ∙ ap is_some (was.nothing_else v e)))

    second : (v : ValueKey) (c : Bool) → p.test v ≡ c → fin.contains_key g.values v ≡ true → fin.contains_key f.values v ≡ false → fin.contains_key s.values v ≡ false
    second v true e h none = ap is_some (sym (was.inside v e)) ∙ none
    second v false e h none = absurd (true≢false (sym h ∙ ap is_some (is.nothing_else v e)))
