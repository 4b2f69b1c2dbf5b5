-- What one step of an exchange does to what is under a key.
use Rattle.std.proofs.Common.{◌≡◌, ℕ, Bool, true, false, cond, not, ◌&&◌, List, [], Option, Some, None, is_some, Result, Ok, Err, OnErr, OnOk, refl, sym, ap, subst, ◌∙◌, true≢false}
use Rattle.std.specs.FinMap as fin
use Rattle.std.specs.FinMap.{get-insert}
use Rattle.std.specs.Option.{option_map}
use Rattle.std.specs.Ordering.{eq_by_cmp}
use Rattle.dir_names.specs.Attr.{Attr}
use Rattle.dir_names.specs.Orders.{attr_cmp, attr_cmp_total, attr_cmp_exact, bytes_eq}
use Rattle.dir_tree.specs.Content.{Stored, StoredAttributes, StoredValues}
use Rattle.dir_tree.specs.Slots.{spelling_or, with_slot}
use Rattle.dir_tree.proofs.Relisted.{insert_over}
use Rattle.dir_change.specs.Inside.Exchanged.{AreGrowing, AreGrowingAttributes, IsGrowing, first_of, grown_at, grown_by, grown_stored, settled_by, settled_slot, shrunk_by, shrunk_slot}
use Rattle.dir_change.proofs.AttributesBack.{attr_itself, slot_kept}
use Rattle.dir_change.proofs.ExchangedInTurn.{grown_is}
use Rattle.dir_change.proofs.KeysInOrder.{same_attr}

-- ---- growing

pub growing_itself : (x b : Option Stored) → IsGrowing x b x
growing_itself x None = refl
growing_itself None (Some b) = tt
growing_itself (Some x) (Some b) = (refl, λ v h. refl)

growing_values : (x b n m : StoredValues) → AreGrowing x b n → AreGrowing n b m → AreGrowing x b m
growing_values x b n m first then v h = then v ((λ i. fin.contains_key b v && not (is_some (first v h i))) ∙ h) ∙ first v h

pub growing_then : (x b n m : Option Stored) → IsGrowing x b n → IsGrowing n b m → IsGrowing x b m
growing_then x None n m first then = then ∙ first
growing_then None (Some b) n m first then = tt
growing_then (Some x) (Some b) None m first then = absurd first
growing_then (Some x) (Some b) (Some n) None first then = absurd then
growing_then (Some x) (Some b) (Some n) (Some m) first then = (then.0 ∙ first.0, growing_values x.values b.values n.values m.values first.1 then.1)

grown_growing : (x after : StoredValues) → AreGrowing x after (grown_by x (fin.entries after))
grown_growing x after v h = grown_is x after v ∙ by (fin.get x v) refl (fin.get after v) refl
  where
    by : (o : Option (List ℕ)) → fin.get x v ≡ o → (u : Option (List ℕ)) → fin.get after v ≡ u → first_of o u ≡ o
    by (Some bytes) t u w = refl
    by None t None w = refl
    by None t (Some bytes) w = absurd (true≢false ((λ i. sym (ap is_some w) i && not (sym (ap is_some t) i)) ∙ h))

pub growing_either : {A E : Type 0} (r : Result A E) (x after new : StoredValues) → OnOk r (new ≡ grown_by x (fin.entries after)) → OnErr r (AreGrowing x after new) → AreGrowing x after new
growing_either (Ok a) x after new is growing = subst (AreGrowing x after) (sym is) (grown_growing x after)
growing_either (Err e) x after new is growing = growing

-- ---- one key

pub none_there : {A : Type 0} (o : Option A) (f : A → Stored) (slot : Option Stored) → option_map f o ≡ slot → is_some o ≡ false → slot ≡ None
none_there None f slot is none = sym is
none_there (Some a) f slot is none = absurd (true≢false none)

-- the attribute of this spelling, or of no spelling where there is none, with these values
abbrev pub respelled : Option Stored → StoredValues → Stored
respelled slot values = record { spelling = spelling_or [] slot; values = values }

pub some_inserted : (xs ys : StoredAttributes) (k : Attr) (s : Stored) → ys ≡ fin.insert xs k s → fin.get ys k ≡ Some s
some_inserted xs ys k s is = ap (λ m. fin.get m k) is ∙ get-insert attr_cmp_total xs k s k ∙ ap (λ b. cond b (Some s) (fin.get xs k)) (attr_itself k)

-- values that were taken out of an attribute, and others that were put there
pub put_back : (xs ys zs : StoredAttributes) (k : Attr) (nothing values : StoredValues) → ys ≡ fin.insert xs k (respelled (fin.get xs k) nothing) → zs ≡ fin.insert ys k (respelled (fin.get ys k) values) → zs ≡ fin.insert xs k (respelled (fin.get xs k) values)
put_back xs ys zs k nothing values out back =
    back
    ∙ (λ i. fin.insert (out i) k (respelled (some_inserted xs ys k (respelled (fin.get xs k) nothing) out i) values))
    ∙ insert_over attr_cmp_total attr_cmp_exact xs k (respelled (fin.get xs k) nothing) (respelled (fin.get xs k) values)

module _ (xs zs : StoredAttributes) (k : Attr) (old values : StoredValues) (was : option_map (λ a. a.values) (fin.get xs k) ≡ Some old) (is : zs ≡ fin.insert xs k (respelled (fin.get xs k) values)) where
  pub put_grown : (b : Stored) → values ≡ grown_by old (fin.entries b.values) → zs ≡ grown_at xs k b
  put_grown b grown = is ∙ ap (fin.insert xs k) (by (fin.get xs k) was)
    where
      by : (o : Option Stored) → option_map (λ a. a.values) o ≡ Some old → respelled o values ≡ grown_stored o b
      by None h = absurd (cc)
      by (Some x) h = let same : x.values ≡ old = cc in λ i. record { spelling = x.spelling; values = (grown ∙ ap (λ vs. grown_by vs (fin.entries b.values)) (sym same)) i }

  pub put_shrunk : (a b : Stored) → values ≡ shrunk_by a.values old (fin.entries b.values) → zs ≡ with_slot xs k (shrunk_slot (fin.get xs k) (Some a) b)
  put_shrunk a b shrunk = is ∙ by (fin.get xs k) was
    where
      by : (o : Option Stored) → option_map (λ a. a.values) o ≡ Some old → fin.insert xs k (respelled o values) ≡ with_slot xs k (shrunk_slot o (Some a) b)
      by None h = absurd (cc)
      by (Some x) h = let same : x.values ≡ old = cc in λ i. fin.insert xs k (record { spelling = x.spelling; values = (shrunk ∙ ap (λ vs. shrunk_by a.values vs (fin.entries b.values)) (sym same)) i })

  pub put_settled : (a b : Stored) → bytes_eq a.spelling b.spelling ≡ true → values ≡ settled_by b.values old (fin.entries a.values) → zs ≡ with_slot xs k (settled_slot (fin.get xs k) a (Some b))
  put_settled a b alike settled = is ∙ by (fin.get xs k) was
    where
      by : (o : Option Stored) → option_map (λ a. a.values) o ≡ Some old → fin.insert xs k (respelled o values) ≡ with_slot xs k (settled_slot o a (Some b))
      by None h = absurd (cc)
      by (Some x) h =
          let same : x.values ≡ old = cc in
          (λ i. fin.insert xs k (record { spelling = x.spelling; values = (settled ∙ ap (λ vs. settled_by b.values vs (fin.entries a.values)) (sym same)) i }))
          ∙ sym (ap (λ c. fin.insert xs k (cond c (record { spelling = x.spelling; values = settled_by b.values x.values (fin.entries a.values) }) b)) alike)

  -- values that have grown, in whole or in part
  pub put_growing : (b : Stored) → AreGrowing old b.values values → (all : StoredAttributes) → fin.get all k ≡ Some b → AreGrowingAttributes xs all zs
  put_growing b growing all there q = subst (IsGrowing (fin.get xs q) (fin.get all q)) (sym (ap (λ m. fin.get m q) is ∙ get-insert attr_cmp_total xs k (respelled (fin.get xs k) values) q)) (by (eq_by_cmp attr_cmp q k) refl)
    where
      here : (o : Option Stored) → option_map (λ a. a.values) o ≡ Some old → IsGrowing o (Some b) (Some (respelled o values))
      here None h = absurd (cc)
      here (Some x) h = let same : x.values ≡ old = cc in (refl, subst (λ vs. AreGrowing vs b.values values) (sym same) growing)

      by : (c : Bool) → eq_by_cmp attr_cmp q k ≡ c → IsGrowing (fin.get xs q) (fin.get all q) (cond c (Some (respelled (fin.get xs k) values)) (fin.get xs q))
      by true t = subst (λ z. IsGrowing (fin.get xs z) (fin.get all z) (Some (respelled (fin.get xs k) values))) (sym (same_attr q k t)) (subst (λ o. IsGrowing (fin.get xs k) o (Some (respelled (fin.get xs k) values))) (sym there) (here (fin.get xs k) was))
      by false t = growing_itself (fin.get xs q) (fin.get all q)

module _ (xs zs : StoredAttributes) (k : Attr) (b : Stored) (none : fin.get xs k ≡ None) (is : zs ≡ fin.insert xs k b) where
  pub whole_grown : zs ≡ grown_at xs k b
  whole_grown = is ∙ ap (λ o. fin.insert xs k (grown_stored o b)) (sym none)

  pub whole_growing : (all : StoredAttributes) → fin.get all k ≡ Some b → AreGrowingAttributes xs all zs
  whole_growing all there q = subst (IsGrowing (fin.get xs q) (fin.get all q)) (sym (ap (λ m. fin.get m q) is ∙ get-insert attr_cmp_total xs k b q)) (by (eq_by_cmp attr_cmp q k) refl)
    where
      by : (c : Bool) → eq_by_cmp attr_cmp q k ≡ c → IsGrowing (fin.get xs q) (fin.get all q) (cond c (Some b) (fin.get xs q))
      by true t = subst (λ z. IsGrowing (fin.get xs z) (fin.get all z) (Some b)) (sym (same_attr q k t)) (subst (λ o. IsGrowing o (fin.get all k) (Some b)) (sym none) (subst (λ o. IsGrowing None o (Some b)) (sym there) tt))
      by false t = growing_itself (fin.get xs q) (fin.get all q)

-- where nothing is, nothing goes
pub kept_where_none : (xs : StoredAttributes) (k : Attr) → fin.get xs k ≡ None → xs ≡ with_slot xs k None
kept_where_none xs k none = sym (ap (with_slot xs k) (sym none) ∙ slot_kept xs k)
