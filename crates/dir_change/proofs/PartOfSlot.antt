-- Modifications that name values do to a part of an attribute what they do to the attribute.
use Rattle.std.proofs.Common.{◌≡◌, ℕ, Bool, true, false, cond, not, ◌&&◌, ◌||◌, ◌==◌, List, [], ◌∷◌, length, Option, Some, None, is_some, Result, Ok, Err, refl, sym, ap, subst, ◌∙◌, true≢false}
use Rattle.std.specs.FinMap as fin
use Rattle.std.specs.Option.{ok_or}
use Rattle.std.specs.Ordering.{eq_by_cmp}
use Rattle.dir_names.specs.declared.schema.TypeRow.{TypeRow}
use Rattle.dir_names.specs.declared.value.ValueKey.{ValueKey}
use Rattle.dir_names.specs.Attr.{Attr}
use Rattle.dir_names.specs.Orders.{attr_cmp}
use Rattle.dir_names.specs.Results.{and_then}
use Rattle.dir_names.specs.Values.{value_key_cmp}
use Rattle.dir_ldif.specs.declared.records.Mod.{Mod}
use Rattle.dir_ldif.specs.declared.records.ModOp.{ModOp}
use Rattle.dir_ldif.specs.declared.records.ModOp.TheVariants as op
use Rattle.dir_tree.specs.Content.{Stored, StoredAttributes}
use Rattle.dir_tree.specs.Slots.{slot_of, with_slot}
use Rattle.dir_tree.specs.WellFormed.{Each}
use Rattle.dir_change.specs.Inside.Looked.{AreAlike, AreSlotsAlike, IsPartOf, Looked, NamesInside, NamesLooked, adds_or_deletes, names_values}
use Rattle.dir_change.specs.Modify.{KeyedValues, are_distinct, attributes_after, has_all, has_any, if_keyed, is_given, keyed_values, slot_after, slot_after_op, slot_with, slot_without, values_with, values_without}
use Rattle.dir_change.specs.Refusals.{unless}
use Rattle.dir_change.specs.declared.result_code.ResultCode.{ResultCode}
use Rattle.dir_change.specs.declared.result_code.ResultCode.TheVariants.{AttributeOrValueExists, InvalidAttributeSyntax, NoSuchAttribute}
use Rattle.dir_change.proofs.AttributesBack.{get_slot}
use Rattle.dir_change.proofs.KeysInOrder.{is_among, same_attr}
use Rattle.dir_change.proofs.SlotBack.{slot_there}
use Rattle.dir_change.proofs.ValueSets.{found, found_entries, get_with, get_without, or_else, same_value}

module _ (test : ValueKey → Bool) (first : Stored) (one : ValueKey) where
  abbrev pub Pass : KeyedValues → Type 0
  Pass given = Each (λ p. (test p.0 ≡ true)) given

  no_such : (given : KeyedValues) → Pass given → (v : ValueKey) → test v ≡ false → found v given ≡ None
  no_such [] h v t = refl
  no_such (p ∷ ps) h v t = by (no_such ps h.1 v t) (eq_by_cmp value_key_cmp v p.0) refl
    where
      by : found v ps ≡ None → (b : Bool) → eq_by_cmp value_key_cmp v p.0 ≡ b → cond b (Some p.1) (found v ps) ≡ None
      by rest false e = rest
      by rest true e = absurd (true≢false (sym h.0 ∙ ap test (sym (same_value v p.0 e)) ∙ t))

  module _ (whole part : Stored) (is : IsPartOf test first one whole part) where
    same_any : (given : KeyedValues) → Pass given → has_any whole.values given ≡ has_any part.values given
    same_any [] h = refl
    same_any (p ∷ ps) h = λ i. ap is_some (sym (is.inside p.0 h.0)) i || same_any ps h.1 i

    same_all : (given : KeyedValues) → Pass given → has_all whole.values given ≡ has_all part.values given
    same_all [] h = refl
    same_all (p ∷ ps) h = λ i. ap is_some (sym (is.inside p.0 h.0)) i && same_all ps h.1 i

    with_given : (given : KeyedValues) → Pass given → are_distinct given ≡ true → IsPartOf test first one
        (record { spelling = whole.spelling; values = values_with whole.values given }) (record { spelling = part.spelling; values = values_with part.values given })
    with_given given h d = record {
      spelled = is.spelled;
      spelled_first = is.spelled_first;
      inside = λ v t. get_with given part.values d v ∙ ap (or_else (found v given)) (is.inside v t) ∙ sym (get_with given whole.values d v);
      nothing_else = λ v t. get_with given part.values d v ∙ (λ i. or_else (no_such given h v t i) (is.nothing_else v t i));
      outside = λ v t. get_with given whole.values d v ∙ ap (λ o. or_else o (fin.get whole.values v)) (no_such given h v t) ∙ is.outside v t;
      passes = is.passes;
      has_one = ap is_some (get_with given part.values d one) ∙ kept (found one given) (fin.get part.values one) is.has_one;
    }
      where
        kept : (o x : Option (List ℕ)) → is_some x ≡ true → is_some (or_else o x) ≡ true
        kept None x h = h
        kept (Some y) x h = refl

    without_given : (given : KeyedValues) → Pass given → found one given ≡ None → IsPartOf test first one
        (record { spelling = whole.spelling; values = values_without whole.values given }) (record { spelling = part.spelling; values = values_without part.values given })
    without_given given h none = record {
      spelled = is.spelled;
      spelled_first = is.spelled_first;
      inside = λ v t. get_without part.values given v ∙ ap (cond (is_given v given) None) (is.inside v t) ∙ sym (get_without whole.values given v);
      nothing_else = λ v t. get_without part.values given v ∙ ap (cond (is_given v given) None) (is.nothing_else v t) ∙ none_or_none (is_given v given);
      outside = λ v t. get_without whole.values given v ∙ ap (λ o. cond (is_some o) None (fin.get whole.values v)) (no_such given h v t) ∙ is.outside v t;
      passes = is.passes;
      has_one = ap is_some (get_without part.values given one ∙ ap (λ o. cond (is_some o) None (fin.get part.values one)) none) ∙ is.has_one;
    }
      where
        none_or_none : (b : Bool) → ◌≡◌ {A = Option (List ℕ)} (cond b None None) None
        none_or_none true = refl
        none_or_none false = refl

-- ---- one modification

module _ (test : ValueKey → Bool) (first : Stored) (one : ValueKey) (rows : List TypeRow) (m : Mod) where
  module _ (whole part : Stored) (is : IsPartOf test first one whole part) (inside : NamesInside test first one rows m) where
    -- an attribute with the one has values
    slot_some : (a b : Stored) → IsPartOf test first one a b → slot_of b.spelling b.values ≡ Some b
    slot_some a b so = slot_there b.spelling b.values (λ none. true≢false (sym so.has_one ∙ ap is_some (sym (found_entries b.values one) ∙ ap (found one) none)))

    slot_some_whole : (a b : Stored) → IsPartOf test first one a b → slot_of a.spelling a.values ≡ Some a
    slot_some_whole a b so = slot_there a.spelling a.values (λ none. true≢false (sym so.has_one ∙ ap is_some (so.inside one so.passes ∙ sym (found_entries a.values one) ∙ ap (found one) none)))

    alike_slots : (a b : Stored) → IsPartOf test first one a b → AreAlike test first one (Ok (slot_of a.spelling a.values)) (Ok (slot_of b.spelling b.values))
    alike_slots a b so = subst (λ (z : Option Stored). AreAlike test first one (Ok z) (Ok (slot_of b.spelling b.values))) (sym (slot_some_whole a b so)) (subst (λ (z : Option Stored). AreAlike test first one (Ok (Some a)) (Ok z)) (sym (slot_some a b so)) so)

    alike_unless : (x y : Bool) (code : ResultCode) (a b : Option Stored) → x ≡ y → (x ≡ false → AreAlike test first one (Ok a) (Ok b)) → AreAlike test first one (unless x code (Ok a)) (unless y code (Ok b))
    alike_unless true true code a b e f = refl
    alike_unless false false code a b e f = f refl
    alike_unless true false code a b e f = absurd (true≢false e)
    alike_unless false true code a b e f = absurd (true≢false (sym e))

    distinct_or : (d a : Bool) → (not d || a) ≡ false → d ≡ true
    distinct_or true a e = refl
    distinct_or false a e = absurd (true≢false e)

    alike_with : (given : KeyedValues) → Pass test first one given → AreAlike test first one (slot_with m (Some whole) given) (slot_with m (Some part) given)
    alike_with given h =
        alike_unless (not (are_distinct given) || has_any whole.values given) (not (are_distinct given) || has_any part.values given) AttributeOrValueExists
        (slot_of whole.spelling (values_with whole.values given)) (slot_of part.spelling (values_with part.values given))
        (ap (λ b. not (are_distinct given) || b) (same_any test first one whole part is given h))
        (λ fine. alike_slots _ _ (with_given test first one whole part is given h (distinct_or (are_distinct given) (has_any whole.values given) fine)))

    alike_without : (given : KeyedValues) → Pass test first one given → found one given ≡ None → AreAlike test first one (slot_without m (Some whole) given) (slot_without m (Some part) given)
    alike_without given h none =
        alike_unless (not (are_distinct given && has_all whole.values given)) (not (are_distinct given && has_all part.values given)) NoSuchAttribute
        (slot_of whole.spelling (values_without whole.values given)) (slot_of part.spelling (values_without part.values given))
        (ap (λ b. not (are_distinct given && b)) (same_all test first one whole part is given h))
        (λ fine. alike_slots _ _ (without_given test first one whole part is given h none))

    alike_keyed : (f g : KeyedValues → Result (Option Stored) ResultCode) → ((given : KeyedValues) → Pass test first one given → found one given ≡ None → AreAlike test first one (f given) (g given))
        → AreAlike test first one (if_keyed rows m f) (if_keyed rows m g)
    alike_keyed f g h = by (keyed_values rows m.description.key m.values) refl
      where
        by : (o : Option KeyedValues) → keyed_values rows m.description.key m.values ≡ o → AreAlike test first one (and_then (ok_or o InvalidAttributeSyntax) f) (and_then (ok_or o InvalidAttributeSyntax) g)
        by None t = refl
        by (Some given) t = let so = inside given t in h given so.0 so.1

    pub alike_after : names_values m ≡ true → AreAlike test first one (slot_after rows m (Some whole)) (slot_after rows m (Some part))
    alike_after names = by m.op m.values names
      where
        by : (o : ModOp) (vs : List (List ℕ)) → (adds_or_deletes o && not (length vs == 0)) ≡ true → AreAlike test first one (slot_after_op rows m o vs (Some whole)) (slot_after_op rows m o vs (Some part))
        by op.Add [] e = absurd (true≢false (sym e))
        by op.Add (v ∷ vs) e = alike_keyed (slot_with m (Some whole)) (slot_with m (Some part)) (λ given h none. alike_with given h)
        by op.Delete [] e = absurd (true≢false (sym e))
        by op.Delete (v ∷ vs) e = alike_keyed (slot_without m (Some whole)) (slot_without m (Some part)) alike_without
        by op.Replace vs e = absurd (true≢false (sym e))
        by op.Increment vs e = absurd (true≢false (sym e))

-- ---- all modifications of an entry

-- the second are what is looked at of the first, under these keys
abbrev pub AreLookedAt : List Attr → (Attr → Option Looked) → StoredAttributes → StoredAttributes → Type 0
AreLookedAt keys looked xs fs = (q : Attr) → is_among q keys ≡ true → AreSlotsAlike (looked q) (fin.get xs q) (fin.get fs q)

module _ (rows : List TypeRow) (keys : List Attr) (looked : Attr → Option Looked) where
  abbrev pub IsLookedMod : Mod → Type 0
  IsLookedMod m = (is_among m.description.key keys ≡ true) × NamesLooked rows m (looked m.description.key)

  abbrev pub AreBothAfter : StoredAttributes → Result StoredAttributes ResultCode → Result StoredAttributes ResultCode → Type 0
  AreBothAfter xs (Err c) (Err d) = c ≡ d
  AreBothAfter xs (Ok ys) (Ok gs) = AreLookedAt keys looked ys gs × ((q : Attr) → is_among q keys ≡ false → fin.get ys q ≡ fin.get xs q)
  AreBothAfter xs r s = ⊥

  -- one modification at its key
  abbrev AreStepsAlike : Option Looked → Result (Option Stored) ResultCode → Result (Option Stored) ResultCode → Type 0
  AreStepsAlike o (Err c) (Err d) = c ≡ d
  AreStepsAlike o (Ok s) (Ok f) = AreSlotsAlike o s f
  AreStepsAlike o r s = ⊥

  one_step : (m : Mod) (o : Option Looked) → NamesLooked rows m o → (s f : Option Stored) → AreSlotsAlike o s f → AreStepsAlike o (slot_after rows m s) (slot_after rows m f)
  one_step m None names s f same = subst (λ z. AreStepsAlike None (slot_after rows m s) (slot_after rows m z)) same (itself (slot_after rows m s))
    where
      itself : (r : Result (Option Stored) ResultCode) → AreStepsAlike None r r
      itself (Err c) = refl
      itself (Ok x) = refl
  one_step m (Some p) names None f alike = absurd alike
  one_step m (Some p) names (Some a) None alike = absurd alike
  one_step m (Some p) names (Some a) (Some b) alike = by (slot_after rows m (Some a)) (slot_after rows m (Some b)) (alike_after p.test p.first p.one rows m a b alike names.1 names.0)
    where
      by : (r s : Result (Option Stored) ResultCode) → AreAlike p.test p.first p.one r s → AreStepsAlike (Some p) r s
      by (Err c) (Err d) h = h
      by (Ok x) (Ok y) h = h
      by (Err c) (Ok y) h = absurd (none y h)
        where
          none : (y : Option Stored) → AreAlike p.test p.first p.one (Err c) (Ok y) → ⊥
          none None h = h
          none (Some z) h = h
      by (Ok x) (Err d) h = absurd (none x h)
        where
          none : (x : Option Stored) → AreAlike p.test p.first p.one (Ok x) (Err d) → ⊥
          none None h = h
          none (Some z) h = h

  with_alike : (xs fs : StoredAttributes) → AreLookedAt keys looked xs fs → (k : Attr) (s f : Option Stored) → AreSlotsAlike (looked k) s f → AreLookedAt keys looked (with_slot xs k s) (with_slot fs k f)
  with_alike xs fs at k s f h q named =
      subst (λ z. AreSlotsAlike (looked q) z (fin.get (with_slot fs k f) q)) (sym (get_slot xs k s q))
      (subst (λ z. AreSlotsAlike (looked q) (cond (eq_by_cmp attr_cmp q k) s (fin.get xs q)) z) (sym (get_slot fs k f q)) (by (eq_by_cmp attr_cmp q k) refl))
    where
      by : (b : Bool) → eq_by_cmp attr_cmp q k ≡ b → AreSlotsAlike (looked q) (cond b s (fin.get xs q)) (cond b f (fin.get fs q))
      by true t = subst (λ z. AreSlotsAlike (looked z) s f) (sym (same_attr q k t)) h
      by false t = at q named

  apart_kept : (xs : StoredAttributes) (k : Attr) (s : Option Stored) → is_among k keys ≡ true → (q : Attr) → is_among q keys ≡ false → fin.get (with_slot xs k s) q ≡ fin.get xs q
  apart_kept xs k s named q apart = get_slot xs k s q ∙ by (eq_by_cmp attr_cmp q k) refl
    where
      by : (b : Bool) → eq_by_cmp attr_cmp q k ≡ b → cond b s (fin.get xs q) ≡ fin.get xs q
      by false t = refl
      by true t = absurd (true≢false (sym named ∙ ap (λ z. is_among z keys) (sym (same_attr q k t)) ∙ apart))

  pub both_after : (mods : List Mod) → Each IsLookedMod mods → (xs fs : StoredAttributes) → AreLookedAt keys looked xs fs → AreBothAfter xs (attributes_after rows xs mods) (attributes_after rows fs mods)
  both_after [] h xs fs at = (at, λ q apart. refl)
  both_after (m ∷ ms) h xs fs at =
      by (slot_after rows m (fin.get xs k)) (slot_after rows m (fin.get fs k)) (one_step m (looked k) h.0.1 (fin.get xs k) (fin.get fs k) (at k h.0.0))
      (λ s f alike. both_after ms h.1 (with_slot xs k s) (with_slot fs k f) (with_alike xs fs at k s f alike))
    where
      k : Attr
      k = m.description.key

      from_here : (s : Option Stored) (r t : Result StoredAttributes ResultCode) → AreBothAfter (with_slot xs k s) r t → AreBothAfter xs r t
      from_here s (Err c) (Err d) b = b
      from_here s (Ok ys) (Ok gs) b = (b.0, λ q apart. b.1 q apart ∙ apart_kept xs k s h.0.0 q apart)
      from_here s (Err c) (Ok gs) b = absurd b
      from_here s (Ok ys) (Err d) b = absurd b

      by : (r t : Result (Option Stored) ResultCode) → AreStepsAlike (looked k) r t
          → ((s f : Option Stored) → AreSlotsAlike (looked k) s f → AreBothAfter (with_slot xs k s) (attributes_after rows (with_slot xs k s) ms) (attributes_after rows (with_slot fs k f) ms))
          → AreBothAfter xs (and_then (and_then r (λ s. Ok (with_slot xs k s))) (λ ys. attributes_after rows ys ms)) (and_then (and_then t (λ f. Ok (with_slot fs k f))) (λ gs. attributes_after rows gs ms))
      by (Err c) (Err d) a rest = a
      by (Ok s) (Ok f) a rest = from_here s (attributes_after rows (with_slot xs k s) ms) (attributes_after rows (with_slot fs k f) ms) (rest s f a)
      by (Err c) (Ok f) a rest = absurd a
      by (Ok s) (Err d) a rest = absurd a
