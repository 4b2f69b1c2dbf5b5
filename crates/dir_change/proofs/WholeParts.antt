-- Whole attributes that modifications look at, set to what becomes of them.
use Rattle.std.proofs.Common.{◌≡◌, Bool, true, false, cond, ◌||◌, List, [], ◌∷◌, Option, Some, None, refl, sym, ap, subst, ◌∙◌}
use Rattle.std.specs.FinMap as fin
use Rattle.std.specs.Ordering.{eq_by_cmp}
use Rattle.dir_names.specs.declared.schema.TypeRow.{TypeRow}
use Rattle.dir_names.specs.Attr.{Attr}
use Rattle.dir_names.specs.Orders.{attr_cmp}
use Rattle.dir_ldif.specs.declared.records.Mod.{Mod}
use Rattle.dir_tree.specs.Content.{Content, Stored, StoredAttributes}
use Rattle.dir_tree.specs.Slots.{with_slot, with_slots}
use Rattle.dir_change.specs.Inside.Exchanged.{exchanged_slot}
use Rattle.dir_change.specs.Inside.Looked.{AreLooks, LooksAt, is_one_of}
use Rattle.dir_change.specs.Inside.Planned.{AreExchanged}
use Rattle.dir_change.specs.Inside.Touched.{IsPartAt}
use Rattle.dir_change.proofs.AttributesBack.{get_slot}
use Rattle.dir_change.proofs.KeysInOrder.{same_attr}
use Rattle.dir_change.proofs.LookedParts.{looks_at_all}
use Rattle.dir_change.proofs.PatchedParts.{patched_is}

pub get_slots : (xs : StoredAttributes) (ks : List Attr) (part : StoredAttributes) (q : Attr) → fin.get (with_slots xs ks part) q ≡ cond (is_one_of q ks) (fin.get part q) (fin.get xs q)
get_slots xs [] part q = refl
get_slots xs (k ∷ ks) part q = get_slots (with_slot xs k (fin.get part k)) ks part q ∙ by (is_one_of q ks) (eq_by_cmp attr_cmp q k) refl
  where
    by : (a b : Bool) → eq_by_cmp attr_cmp q k ≡ b → cond a (fin.get part q) (fin.get (with_slot xs k (fin.get part k)) q) ≡ cond (b || a) (fin.get part q) (fin.get xs q)
    by true true t = refl
    by true false t = refl
    by false true t = get_slot xs k (fin.get part k) q ∙ ap (λ c. cond c (fin.get part k) (fin.get xs q)) t ∙ ap (fin.get part) (sym (same_attr q k t))
    by false false t = get_slot xs k (fin.get part k) q ∙ ap (λ c. cond c (fin.get part k) (fin.get xs q)) t

exchanged_whole : (s t : Option Stored) → exchanged_slot s s t ≡ t
exchanged_whole None None = refl
exchanged_whole None (Some b) = refl
exchanged_whole (Some a) t = patched_is None (Some a) (Some a) t t refl refl

module _ (xs : StoredAttributes) (keys : List Attr) (before : StoredAttributes) (whole : IsPartAt keys xs before) where
  here : (q : Attr) → is_one_of q keys ≡ true → fin.get before q ≡ fin.get xs q
  here q t = whole q ∙ ap (λ b. cond b (fin.get xs q) None) t

  apart : (q : Attr) → is_one_of q keys ≡ false → fin.get before q ≡ None
  apart q t = whole q ∙ ap (λ b. cond b (fin.get xs q) None) t

  -- to set the keys to what the part becomes exchanges the part
  pub slots_exchanged : (after : StoredAttributes) → ((q : Attr) → is_one_of q keys ≡ false → fin.get after q ≡ None) → AreExchanged xs before after (with_slots xs keys after)
  slots_exchanged after only q = get_slots xs keys after q ∙ by (is_one_of q keys) refl
    where
      by : (b : Bool) → is_one_of q keys ≡ b → cond b (fin.get after q) (fin.get xs q) ≡ exchanged_slot (fin.get xs q) (fin.get before q) (fin.get after q)
      by true t = sym (exchanged_whole (fin.get xs q) (fin.get after q)) ∙ ap (λ s. exchanged_slot (fin.get xs q) s (fin.get after q)) (sym (here q t))
      by false t = sym (λ i. exchanged_slot (fin.get xs q) (apart q t i) (only q t i))

-- modifications of these keys look at all that they need
pub whole_looks : (rows : List TypeRow) (e : Content) (mods : List Mod) (keys : List Attr) (before : StoredAttributes) → IsPartAt keys e.attributes before → AreLooks rows e mods keys before
whole_looks rows e mods keys before whole =
    (λ q t. subst (λ s. LooksAt rows e.key mods q (fin.get e.attributes q) s) (sym (here e.attributes keys before whole q t)) (looks_at_all rows e.key mods q (fin.get e.attributes q)), λ q t. apart e.attributes keys before whole q t)
