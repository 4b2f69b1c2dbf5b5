-- What an attribute's lines add to values, and what all lines of an entry make.
use Rattle.std.proofs.Common.{◌≡◌, ◌<◌, ◌-◌, ℕ, zero, suc, get_or, true, false, cond, List, [], ◌∷◌, ◌++◌, map, length, slice_get, Option, Some, None, Ok, IsTrue, refl, sym, ap, subst, ◌∙◌, arith}
use Rattle.std.specs.FinMap as fin
use Rattle.std.specs.List.{All, insert}
use Rattle.std.specs.List.Sorted.{IsPermutation}
use Rattle.std.specs.Option.{option_map}
use Rattle.std.specs.Result.{result_ok}
use Rattle.std.proofs.lemmas.List.{append-nil, append_assoc, length-map, map-append, map-id}
use Rattle.std.proofs.lemmas.List.Concat.{flat_map-append}
use Rattle.std.proofs.lemmas.List.Edits.{insert-append_right}
use Rattle.std.proofs.lemmas.List.Elements.{All-nil, All-cons, All-head, All-tail, All-push}
use Rattle.std.proofs.lemmas.List.Sorted.{IsPermutation-map, All-permutation, IsPermutation-append, IsPermutation-insert, IsPermutation-push_more, IsPermutation-refl, IsPermutation-sym, IsPermutation-trans}
use Rattle.dir_names.specs.declared.schema.TypeRow.{TypeRow}
use Rattle.dir_names.specs.declared.value.ValueKey.{ValueKey}
use Rattle.dir_names.specs.declared.value.ValueKey.TheVariants.{Text}
use Rattle.dir_names.specs.Described.{Described}
use Rattle.dir_names.specs.Results.{option_cons}
use Rattle.dir_names.specs.Values.{value_key_cmp_total}
use Rattle.dir_names.proofs.Collected.{collect_append, collect_length}
use Rattle.dir_tree.specs.declared.lines.KeyedLine.{KeyedLine}
use Rattle.dir_tree.specs.declared.packed.PackedAttribute.{PackedAttribute}
use Rattle.dir_tree.specs.Content.{Keyed}
use Rattle.dir_tree.specs.Inside.Packed.{IsPacked, packed_attribute}
use Rattle.dir_tree.specs.Inside.Patterns.{AddsLines, AreAt, Gathers, HasEach, HasValues, InsertsValue, TakesLines, keyed_values, line_with, lines_of}
use Rattle.dir_tree.specs.Inside.Stored.{are_rising, attribute_pair, attributes_in, attributes_rise, value_pair, values_in}
use Rattle.dir_tree.specs.NewEntry.{attributes_of, keyed_line, keyed_lines}
use Rattle.dir_tree.proofs.EachLine.{taken_all}
use Rattle.dir_tree.proofs.MadeOfLines.{made_of}
use Rattle.dir_tree.proofs.PackedLists.{Added, added_common, added_own, attributes-push, packed-push}
use Rattle.dir_tree.proofs.SortedVecs.{entries_in}

nothing : {A : Type 0} (xs : List A) → IsPermutation [] xs → xs ≡ []
nothing {A} [] e = refl
nothing {A} (x ∷ xs) e = absurd (All-head (λ (x : A). ⊥) x xs (All-permutation (λ (x : A). ⊥) [] (x ∷ xs) e (All-nil (λ (x : A). ⊥))))

pub nil_of : {A : Type 0} (xs : List A) → length xs ≡ 0 → xs ≡ []
nil_of [] e = refl
nil_of (x ∷ xs) e = absurd (omega (arith, e))

-- the item at an index
pub item_at : {A : Type 0} (xs : List A) (n : ℕ) (x : A) → n < length xs → x ≡ get_or xs n x → slice_get xs n ≡ Some x
item_at [] n x lt e = absurd (omega (arith, lt))
item_at (y ∷ ys) zero x lt e = ap Some (sym e)
item_at (y ∷ ys) (suc n) x lt e = item_at ys n x (omega (arith, lt)) e

-- the keys of packed attributes
pub keys-attributes : (common own : List (ValueKey × List ℕ)) (attrs : List PackedAttribute) → map (λ a. a.description.key) attrs ≡ map (λ x. (attribute_pair x).0) (map (packed_attribute common own) attrs)
keys-attributes common own [] = refl
keys-attributes common own (a ∷ attrs) = ap (λ ks. a.description.key ∷ ks) (keys-attributes common own attrs)

module _ (rows : List TypeRow) (lines : List (Described × List ℕ)) where
  module _ (a : PackedAttribute) (old : List (ValueKey × List ℕ)) where
    pub takes_none : TakesLines rows lines a [] old old
    takes_none = record { taken = []; values = []; new = []; are_at = refl; keyed = refl; order = IsPermutation-refl []; is = sym (append-nil old) }

    pub takes_more : (numbers : List ℕ) (now after : List (ValueKey × List ℕ)) (n : ℕ) (line : Described × List ℕ) → TakesLines rows lines a numbers old now → slice_get lines n ≡ Some line → line.0 ≡ a.description → InsertsValue rows line.0.key line.1 (length old) now after → TakesLines rows lines a (numbers ++ n ∷ []) old after
    takes_more numbers now after n line t at same v =
        let value : ValueKey × List ℕ = (v.key, line.1) in
        let one : keyed_lines rows (line ∷ []) ≡ Some (map (line_with a.description) (value ∷ [])) =
        ap (λ r. option_cons (option_map (λ key. record { description = line.0; key = key; bytes = line.1 }) (result_ok r)) (Some [])) v.keyed
        ∙ ap (λ d. Some (line_with d value ∷ [])) same in
        record {
          taken = t.taken ++ line ∷ [];
          values = t.values ++ value ∷ [];
          new = insert t.new (v.at - length old) value;
          are_at = map-append (slice_get lines) numbers (n ∷ []) ∙ (λ i. t.are_at i ++ at i ∷ []) ∙ sym (map-append Some t.taken (line ∷ []));
          keyed = collect_append (keyed_line rows) t.taken (line ∷ []) _ _ t.keyed one ∙ ap Some (sym (map-append (line_with a.description) t.values (value ∷ [])));
          order = IsPermutation-push_more t.values t.new _ value t.order (IsPermutation-insert t.new (v.at - length old) value);
          is = v.is ∙ ap (λ xs. insert xs v.at value) t.is ∙ insert-append_right old t.new (length old) v.at value refl v.after;
        }

    pub adds_all : (numbers : List ℕ) (now : List (ValueKey × List ℕ)) (t : TakesLines rows lines a numbers old now) → (numbers ≡ [] → ⊥) → IsTrue (are_rising t.new) → a.start ≡ length old → a.end ≡ length now → AddsLines rows lines a numbers old now
    adds_all numbers now t some rise from to = record { takes = t; rise = rise; from = from; to = to; some = has }
      where
        has : t.new ≡ [] → ⊥
        has e =
            let none : t.values ≡ [] = nothing t.values (IsPermutation-sym t.values [] (subst (IsPermutation t.values) e t.order)) in
            let long : length t.taken ≡ 0 = collect_length (keyed_line rows) t.taken _ t.keyed ∙ ap (λ vs. length (map (line_with a.description) vs)) none in
            let same : length numbers ≡ length t.taken = sym (length-map numbers (slice_get lines)) ∙ ap length t.are_at ∙ length-map t.taken Some in
            some (nil_of numbers (same ∙ long))

  -- ---- an attribute more

  pub gathers_none : (order : List ℕ) (common own : List (ValueKey × List ℕ)) → common ≡ [] → own ≡ [] → Gathers rows lines order order [] common own
  gathers_none order common own c o = record { done = []; taken = []; made = []; split = refl; are_at = refl; keyed = refl; same = IsPermutation-refl []; packed = All-nil (IsPacked common own); some = All-nil HasValues }

  module _ (order rest numbers after : List ℕ) (attrs : List PackedAttribute) (common own common_now own_now : List (ValueKey × List ℕ)) (a : PackedAttribute) (g : Gathers rows lines order rest attrs common own) (cut : rest ≡ numbers ++ after) where
    gathers_by : (adds : AddsLines rows lines a numbers (cond a.is_common common own) (cond a.is_common common_now own_now)) → Added common own adds.takes.new a.is_common common_now own_now a.start a.end → Gathers rows lines order after (attrs ++ a ∷ []) common_now own_now
    gathers_by adds added =
        let x : Keyed = record { key = a.description.key; stored = record { spelling = a.description.spelling; values = values_in adds.takes.new } } in
        let entries : fin.entries x.stored.values ≡ adds.takes.new = entries_in value_key_cmp_total value_pair adds.takes.new adds.rise ∙ map-id adds.takes.new in
        let here : Added common own (fin.entries x.stored.values) a.is_common common_now own_now a.start a.end = subst (λ new. Added common own new a.is_common common_now own_now a.start a.end) (sym entries) added in
        let pushed = attributes-push common own common_now own_now a x here attrs g.packed refl in
        let lines_x : keyed_values x ≡ map (line_with a.description) adds.takes.new = ap (map (line_with a.description)) entries in
        let all_lines : lines_of (map (packed_attribute common_now own_now) (attrs ++ a ∷ [])) ≡ lines_of (map (packed_attribute common own) attrs) ++ map (line_with a.description) adds.takes.new =
        ap lines_of pushed ∙ flat_map-append keyed_values (map (packed_attribute common own) attrs) (x ∷ []) ∙ ap (λ ls. lines_of (map (packed_attribute common own) attrs) ++ ls) (append-nil (keyed_values x) ∙ lines_x) in
        record {
          done = g.done ++ numbers;
          taken = g.taken ++ adds.takes.taken;
          made = g.made ++ map (line_with a.description) adds.takes.values;
          split = g.split ∙ ap (λ r. g.done ++ r) cut ∙ sym (append_assoc g.done numbers after);
          are_at = map-append (slice_get lines) g.done numbers ∙ (λ i. g.are_at i ++ adds.takes.are_at i) ∙ sym (map-append Some g.taken adds.takes.taken);
          keyed = collect_append (keyed_line rows) g.taken adds.takes.taken _ _ g.keyed adds.takes.keyed;
          same = subst (IsPermutation (g.made ++ map (line_with a.description) adds.takes.values)) (sym all_lines) (IsPermutation-append _ _ _ _ g.same (IsPermutation-map (line_with a.description) adds.takes.values adds.takes.new adds.takes.order));
          packed = packed-push common own common_now own_now a x here attrs g.packed;
          some = subst (All HasValues) (sym pushed) (All-push HasValues (map (packed_attribute common own) attrs) x g.some (λ e. adds.some (sym entries ∙ e)));
        }

  module _ (order rest numbers after : List ℕ) (attrs : List PackedAttribute) (common own now : List (ValueKey × List ℕ)) (a : PackedAttribute) (g : Gathers rows lines order rest attrs common own) (cut : rest ≡ numbers ++ after) where
    pub gathers_common : a.is_common ≡ true → AddsLines rows lines a numbers common now → Gathers rows lines order after (attrs ++ a ∷ []) now own
    gathers_common e adds =
        let told : AddsLines rows lines a numbers (cond a.is_common common own) (cond a.is_common now own) = subst (λ b. AddsLines rows lines a numbers (cond b common own) (cond b now own)) (sym e) adds in
        gathers_by order rest numbers after attrs common own now own a g cut told (is_added told)
      where
        is_added : (told : AddsLines rows lines a numbers (cond a.is_common common own) (cond a.is_common now own)) → Added common own told.takes.new a.is_common now own a.start a.end
        is_added told =
            let is : now ≡ common ++ told.takes.new = ap (λ b. cond b now own) (sym e) ∙ told.takes.is ∙ ap (λ b. cond b common own ++ told.takes.new) e in
            subst (λ b. Added common own told.takes.new b now own a.start a.end) (sym e)
            (added_common common own told.takes.new now a.start a.end is (told.from ∙ ap (λ b. length (cond b common own)) e) (told.to ∙ ap (λ b. length (cond b now own)) e))

    pub gathers_own : a.is_common ≡ false → AddsLines rows lines a numbers own now → Gathers rows lines order after (attrs ++ a ∷ []) common now
    gathers_own e adds =
        let told : AddsLines rows lines a numbers (cond a.is_common common own) (cond a.is_common common now) = subst (λ b. AddsLines rows lines a numbers (cond b common own) (cond b common now)) (sym e) adds in
        gathers_by order rest numbers after attrs common own common now a g cut told (is_added told)
      where
        is_added : (told : AddsLines rows lines a numbers (cond a.is_common common own) (cond a.is_common common now)) → Added common own told.takes.new a.is_common common now a.start a.end
        is_added told =
            let is : now ≡ own ++ told.takes.new = ap (λ b. cond b common now) (sym e) ∙ told.takes.is ∙ ap (λ b. cond b common own ++ told.takes.new) e in
            subst (λ b. Added common own told.takes.new b common now a.start a.end) (sym e)
            (added_own common own told.takes.new now a.start a.end is (told.from ∙ ap (λ b. length (cond b common own)) e) (told.to ∙ ap (λ b. length (cond b common now)) e))

  -- ---- all lines

  no_line : KeyedLine
  no_line = record { description = record { spelling = []; key = record { attr_type = []; options = [] } }; key = Text []; bytes = [] }

  abbrev or_none : Option KeyedLine → KeyedLine
  or_none None = no_line
  or_none (Some l) = l

  abbrev keyed_so : Described × List ℕ → KeyedLine
  keyed_so line = or_none (keyed_line rows line)

  abbrev HasKeyedLine : Described × List ℕ → Type 0
  HasKeyedLine line = keyed_line rows line ≡ Some (keyed_so line)

  is_so : (o : Option KeyedLine) (l : KeyedLine) → o ≡ Some l → o ≡ Some (or_none o)
  is_so None l e = absurd (cc)
  is_so (Some m) l e = refl

  collected : (xs : List (Described × List ℕ)) (ls : List KeyedLine) → keyed_lines rows xs ≡ Some ls → All HasKeyedLine xs × (ls ≡ map keyed_so xs)
  collected [] ls e = (All-nil HasKeyedLine, cc)
  collected (x ∷ xs) ls e = by (collected xs) (keyed_line rows x) refl (keyed_lines rows xs) refl e
    where
      by : ((ls : List KeyedLine) → keyed_lines rows xs ≡ Some ls → All HasKeyedLine xs × (ls ≡ map keyed_so xs)) → (o : Option KeyedLine) → keyed_line rows x ≡ o → (p : Option (List KeyedLine)) → keyed_lines rows xs ≡ p → option_cons o p ≡ Some ls → All HasKeyedLine (x ∷ xs) × (ls ≡ map keyed_so (x ∷ xs))
      by more None t p u h = absurd (cc)
      by more (Some l) t None u h = absurd (cc)
      by more (Some l) t (Some ms) u h =
          let same : ls ≡ l ∷ ms = cc in
          let rest = more ms u in (
            All-cons HasKeyedLine x xs (is_so (keyed_line rows x) l t) rest.0,
            same ∙ (λ i. or_none (sym t i) ∷ rest.1 i),
          )

  collect_all : (xs : List (Described × List ℕ)) → All HasKeyedLine xs → keyed_lines rows xs ≡ Some (map keyed_so xs)
  collect_all [] h = refl
  collect_all (x ∷ xs) h = (λ i. option_cons (All-head HasKeyedLine x xs h i) (collect_all xs (All-tail HasKeyedLine x xs h) i))

  pub gathers_all : (order : List ℕ) (attrs : List PackedAttribute) (common own : List (ValueKey × List ℕ)) → HasEach order → length order ≡ length lines → Gathers rows lines order [] attrs common own → IsTrue (attributes_rise (map (packed_attribute common own) attrs)) → attributes_of rows lines ≡ Ok (attributes_in (map (packed_attribute common own) attrs))
  gathers_all order attrs common own each long g rise =
      let whole : g.done ≡ order = sym (append-nil g.done) ∙ sym g.split in
      let at_all : AreAt lines order g.taken = ap (map (slice_get lines)) (sym whole) ∙ g.are_at in
      let same : IsPermutation lines g.taken = taken_all (no_line.description, []) lines g.taken order each long at_all in
      let told = collected g.taken g.made g.keyed in
      let keyed : keyed_lines rows lines ≡ Some (map keyed_so lines) = collect_all lines (All-permutation HasKeyedLine g.taken lines (IsPermutation-sym lines g.taken same) told.0) in
      let order_of_all : IsPermutation (map keyed_so lines) (lines_of (map (packed_attribute common own) attrs)) =
      IsPermutation-trans _ _ _ (subst (IsPermutation (map keyed_so lines)) (sym told.1) (IsPermutation-map keyed_so lines g.taken same)) g.same in
      made_of rows lines (map (packed_attribute common own) attrs) (map keyed_so lines) keyed order_of_all rise g.some
