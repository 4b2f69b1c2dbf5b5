-- What a modification comes to, test by test.
use Rattle.std.proofs.Common.{◌≡◌, ℕ, suc, Bool, true, false, not, ◌&&◌, ◌||◌, ◌==◌, List, [], ◌∷◌, length, Option, Some, None, is_some, Result, Ok, Err, refl, sym, ap, ◌∙◌, true≢false, arith}
use Rattle.std.specs.FinMap as fin
use Rattle.std.specs.FinMap.{get-empty}
use Rattle.std.specs.Option.{is_none, ok_or}
use Rattle.std.proofs.lemmas.Bool.Decides.{nat_tests}
use Rattle.dir_names.specs.declared.schema.TypeRow.{TypeRow}
use Rattle.dir_names.specs.declared.value.ValueKey.{ValueKey}
use Rattle.dir_names.specs.Results.{and_then, option_cons}
use Rattle.dir_names.specs.Values.{value_key_cmp}
use Rattle.dir_ldif.specs.declared.records.Mod.{Mod}
use Rattle.dir_ldif.specs.declared.records.ModOp.TheVariants as op
use Rattle.dir_tree.specs.Content.{Stored}
use Rattle.dir_tree.specs.Slots.{slot_of, spelling_or, values_of}
use Rattle.dir_change.specs.Inside.ValuesInTurn.{are_new, are_there, without_each}
use Rattle.dir_change.specs.Modify.{KeyedValues, are_distinct, has_any, if_keyed, keyed_value, keyed_values, no_slot, slot_after_op, slot_of_given, slot_with, slot_without, values_with}
use Rattle.dir_change.specs.Operation.{IsRefused}
use Rattle.dir_change.specs.Refusals.{IsRefusedWith, unless}
use Rattle.dir_change.specs.declared.refusal.Refusal.{Refusal}
use Rattle.dir_change.specs.declared.refusal.Refusal.TheVariants as refusal
use Rattle.dir_change.specs.declared.result_code.ResultCode.{ResultCode}
use Rattle.dir_change.specs.declared.result_code.ResultCode.TheVariants.{AttributeOrValueExists, InvalidAttributeSyntax, NoSuchAttribute, ProtocolError}
use Rattle.dir_change.proofs.InTurn.{new_is, there_is, without_is}
use Rattle.dir_change.proofs.SlotBack.{none_in_empty}

-- a refusal of the first step refuses both
pub refused_then : {A B : Type 0} (e : Refusal) (r : Result A ResultCode) (f : A → Result B ResultCode) → IsRefused e r → IsRefused e (and_then r f)
refused_then (refusal.Code code) r f h = ap (λ r. and_then r f) h
refused_then refusal.Memory r f h = tt

-- a refusal by a test that decides the answer
pub refused_by : {A : Type 0} (code : ResultCode) (refused : Bool) (e : Refusal) (wanted : Result A ResultCode) → (refused ≡ true → wanted ≡ Err code) → IsRefusedWith code refused e → IsRefused e wanted
refused_by code refused (refusal.Code given) wanted f h = f h.1 ∙ ap Err (sym h.0)
refused_by code refused refusal.Memory wanted f h = tt

none_is : {A : Type 0} (o : Option A) → is_none o ≡ true → o ≡ None
none_is None h = refl
none_is (Some x) h = absurd (true≢false (sym h))

not_empty : {A : Type 0} (xs : List A) → (length xs == 0) ≡ true → xs ≡ []
not_empty [] h = refl
not_empty (x ∷ xs) h = let none : suc (length xs) ≡ 0 = grind (arith, nat_tests) in absurd (omega (arith, none))

de_morgan : (a b : Bool) → (not a || b) ≡ not (a && not b)
de_morgan true true = refl
de_morgan true false = refl
de_morgan false b = refl

flip : (a : Bool) → not a ≡ true → a ≡ false
flip true h = sym h
flip false h = refl

module _ (rows : List TypeRow) (m : Mod) where
  -- ---- by the operation, and whether there are values

  pub add_some : (values : List (List ℕ)) (slot : Option Stored) → (length values == 0) ≡ false → slot_after_op rows m op.Add values slot ≡ if_keyed rows m (slot_with m slot)
  add_some [] slot h = absurd (true≢false h)
  add_some (v ∷ vs) slot h = refl

  pub add_none : (values : List (List ℕ)) (slot : Option Stored) → (length values == 0) ≡ true → slot_after_op rows m op.Add values slot ≡ Err ProtocolError
  add_none values slot h = ap (λ vs. slot_after_op rows m op.Add vs slot) (not_empty values h)

  pub delete_some : (values : List (List ℕ)) (slot : Option Stored) → (length values == 0) ≡ false → slot_after_op rows m op.Delete values slot ≡ if_keyed rows m (slot_without m slot)
  delete_some [] slot h = absurd (true≢false h)
  delete_some (v ∷ vs) slot h = refl

  pub delete_none : (values : List (List ℕ)) (slot : Option Stored) → (length values == 0) ≡ true → slot_after_op rows m op.Delete values slot ≡ no_slot slot
  delete_none values slot h = ap (λ vs. slot_after_op rows m op.Delete vs slot) (not_empty values h)

  pub replace_some : (values : List (List ℕ)) (slot : Option Stored) → (length values == 0) ≡ false → slot_after_op rows m op.Replace values slot ≡ if_keyed rows m (slot_of_given m)
  replace_some [] slot h = absurd (true≢false h)
  replace_some (v ∷ vs) slot h = refl

  pub replace_none : (values : List (List ℕ)) (slot : Option Stored) → (length values == 0) ≡ true → slot_after_op rows m op.Replace values slot ≡ Ok None
  replace_none values slot h = ap (λ vs. slot_after_op rows m op.Replace vs slot) (not_empty values h)

  -- ---- values without keys

  pub unkeyed : (next : KeyedValues → Result (Option Stored) ResultCode) (e : Refusal) → IsRefusedWith InvalidAttributeSyntax (is_none (keyed_values rows m.description.key m.values)) e → IsRefused e (if_keyed rows m next)
  unkeyed next e h = refused_by InvalidAttributeSyntax (is_none (keyed_values rows m.description.key m.values)) e (if_keyed rows m next) (λ none. ap (λ o. and_then (ok_or o InvalidAttributeSyntax) next) (none_is (keyed_values rows m.description.key m.values) none)) h

  module _ (given : KeyedValues) (keyed : keyed_values rows m.description.key m.values ≡ Some given) where
    keyed_so : (next : KeyedValues → Result (Option Stored) ResultCode) → if_keyed rows m next ≡ next given
    keyed_so next = ap (λ o. and_then (ok_or o InvalidAttributeSyntax) next) keyed

    -- ---- add

    pub added : (slot : Option Stored) → are_new (values_of slot) given ≡ true → if_keyed rows m (slot_with m slot) ≡ Ok (slot_of (spelling_or m.description.spelling slot) (values_with (values_of slot) given))
    added slot new =
        keyed_so (slot_with m slot)
        ∙ ap (λ b. unless b AttributeOrValueExists (Ok (slot_of (spelling_or m.description.spelling slot) (values_with (values_of slot) given))))
        (de_morgan (are_distinct given) (has_any (values_of slot) given) ∙ ap not (sym (new_is (values_of slot) given) ∙ new))

    pub not_added : (slot : Option Stored) (e : Refusal) → IsRefusedWith AttributeOrValueExists (not (are_new (values_of slot) given)) e → IsRefused e (if_keyed rows m (slot_with m slot))
    not_added slot e h = refused_by AttributeOrValueExists (not (are_new (values_of slot) given)) e (if_keyed rows m (slot_with m slot)) (λ old.
        keyed_so (slot_with m slot)
        ∙ ap (λ b. unless b AttributeOrValueExists (Ok (slot_of (spelling_or m.description.spelling slot) (values_with (values_of slot) given))))
        (de_morgan (are_distinct given) (has_any (values_of slot) given) ∙ ap not (sym (new_is (values_of slot) given)) ∙ old)) h

    -- ---- delete

    pub deleted : (slot : Option Stored) → are_there (values_of slot) given ≡ true → if_keyed rows m (slot_without m slot) ≡ Ok (slot_of (spelling_or m.description.spelling slot) (without_each (values_of slot) given))
    deleted slot there =
        keyed_so (slot_without m slot)
        ∙ (λ i. unless (not ((sym (there_is (values_of slot) given) ∙ there) i)) NoSuchAttribute (Ok (slot_of (spelling_or m.description.spelling slot) (sym (without_is (values_of slot) given) i))))

    pub not_deleted : (slot : Option Stored) → are_there (values_of slot) given ≡ false → if_keyed rows m (slot_without m slot) ≡ Err NoSuchAttribute
    not_deleted slot there =
        keyed_so (slot_without m slot)
        ∙ (λ i. unless (not ((sym (there_is (values_of slot) given) ∙ there) i)) NoSuchAttribute (Ok (slot_of (spelling_or m.description.spelling slot) (sym (without_is (values_of slot) given) i))))

    given_some : (values : List (List ℕ)) → keyed_values rows m.description.key values ≡ Some [] → values ≡ []
    given_some [] h = refl
    given_some (v ∷ vs) h = by (keyed_value rows m.description.key v) (keyed_values rows m.description.key vs) h
      where
        by : (o : Option (ValueKey × List ℕ)) (p : Option KeyedValues) → option_cons o p ≡ Some [] → v ∷ vs ≡ []
        by None p e = absurd (cc)
        by (Some x) None e = absurd (cc)
        by (Some x) (Some xs) e = absurd (cc)

    -- nothing can be deleted where there is no attribute
    pub none_deleted : (length m.values == 0) ≡ false → if_keyed rows m (slot_without m None) ≡ Err NoSuchAttribute
    none_deleted some = not_deleted None (by given refl)
      where
        by : (ps : KeyedValues) → given ≡ ps → are_there fin.empty ps ≡ false
        by [] t = absurd (true≢false (sym (ap (λ (vs : List (List ℕ)). length vs == 0) (given_some m.values (keyed ∙ ap Some t))) ∙ some))
        by (p ∷ ps) t = ap (λ o. is_some o && are_there (fin.remove fin.empty p.0) ps) (get-empty {X = List ℕ} value_key_cmp p.0)

    -- ---- replace

    new_of_none : not (are_new fin.empty given) ≡ not (are_distinct given)
    new_of_none = ap not (new_is fin.empty given ∙ ap (λ b. are_distinct given && not b) (none_in_empty rows m.description.key given) ∙ and_true (are_distinct given))
      where
        and_true : (b : Bool) → (b && true) ≡ b
        and_true true = refl
        and_true false = refl

    pub replaced : are_new fin.empty given ≡ true → if_keyed rows m (slot_of_given m) ≡ Ok (slot_of m.description.spelling (values_with fin.empty given))
    replaced new =
        keyed_so (slot_of_given m)
        ∙ ap (λ b. unless b AttributeOrValueExists (Ok (slot_of m.description.spelling (values_with fin.empty given)))) (sym new_of_none ∙ ap not new)

    pub not_replaced : (e : Refusal) → IsRefusedWith AttributeOrValueExists (not (are_new fin.empty given)) e → IsRefused e (if_keyed rows m (slot_of_given m))
    not_replaced e h = refused_by AttributeOrValueExists (not (are_new fin.empty given)) e (if_keyed rows m (slot_of_given m)) (λ old.
        keyed_so (slot_of_given m)
        ∙ ap (λ b. unless b AttributeOrValueExists (Ok (slot_of m.description.spelling (values_with fin.empty given)))) (sym new_of_none ∙ old)) h
