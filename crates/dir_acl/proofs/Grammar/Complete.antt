-- The reader comes through each text that spells a filter, unless it meets a 65th level; and where there is one, it tells.
use Rattle.std.proofs.Common.{◌≡◌, ℕ, ◌+◌, ◌≤◌, Bool, true, false, cond, List, [], ◌∷◌, ◌++◌, length, Result, Ok, Err, refl, sym, ap, ◌∙◌, subst, ◌⊎◌, inl, inr, arith}
use Rattle.std.specs.Prelude.{◌==◌, ◌||◌, nat_lt}
use Rattle.std.specs.List.{list_any}
use Rattle.std.proofs.lemmas.Bool.{ltb-true}
use Rattle.std.proofs.lemmas.List.{append-nil, append_assoc}
use Rattle.dir_names.specs.declared.schema.TypeRow.{TypeRow}
use Rattle.dir_names.specs.Results.{and_then}
use Rattle.dir_acl.specs.declared.fault.FilterFault.{FilterFault}
use Rattle.dir_acl.specs.declared.fault.FilterFault.TheVariants.{TooDeep}
use Rattle.dir_acl.specs.Filters.{Tree, Trees, conjunction, disjunction, negation, test, none, first, trees_of, Spells, SpellsEach, IsTooDeep, here, in_conjunction, in_disjunction, in_negation, begins_filters, begins_test, is_test_text}
use Rattle.dir_acl.specs.Filters.Reading.{Open, open_and, open_or, open_not, Place, before_filter, after_parenthesis, in_test, in_list, with_filter, after_test, filter_from}
use Rattle.dir_acl.specs.Tests.{test_of}
use Rattle.dir_acl.proofs.Grammar.Sound.{first_true, second_true, not_true}

abbrev list_of : Trees → List Tree
list_of none = []
list_of (first t ts) = t ∷ list_of ts

same_trees : (ts : Trees) → trees_of (list_of ts) ≡ ts
same_trees none = refl
same_trees (first t ts) = ap (first t) (same_trees ts)

-- a list that is open: of `&` or of `|`
abbrev open_list : Bool → List Tree → Open
open_list true ts = open_and ts
open_list false ts = open_or ts

abbrev closed_list : Bool → Trees → Tree
closed_list true ts = conjunction ts
closed_list false ts = disjunction ts

-- where a `(` may come: before a filter, or in a list
abbrev start_place : Bool → Place
start_place true = before_filter
start_place false = in_list

or_first : (x y : Bool) → (x || y) ≡ false → x ≡ false
or_first true y e = absurd (cc)
or_first false y e = refl

or_second : (x y : Bool) → (x || y) ≡ false → y ≡ false
or_second true y e = absurd (cc)
or_second false y e = e

module _ (rows : List TypeRow) where
  abbrev from : List Open → Place → List ℕ → Result Tree FilterFault
  from s place text = filter_from rows (record { stack = s; place = place }) text

  -- the reader comes from a state over a text to the answer r, or meets a 65th level
  abbrev Comes : Result Tree FilterFault → Result Tree FilterFault → Type 0
  Comes whole r = (whole ≡ r) ⊎ (whole ≡ Err TooDeep)

  then_comes : (x y z : Result Tree FilterFault) → Comes x y → Comes y z → Comes x z
  then_comes x y z (inl e) (inl f) = inl (e ∙ f)
  then_comes x y z (inl e) (inr f) = inr (e ∙ f)
  then_comes x y z (inr e) f = inr e

  deeper : (k : Bool) (s : List Open) (text : List ℕ) → Comes (from s (start_place k) (40 ∷ text)) (from s after_parenthesis text)
  deeper true s text = by (nat_lt (length s) 64)
    where
      by : (t : Bool) → Comes (and_then (cond t (Ok (record { stack = s; place = after_parenthesis })) (Err TooDeep)) (λ next. filter_from rows next text)) (from s after_parenthesis text)
      by true = inl refl
      by false = inr refl
  deeper false s text = by (nat_lt (length s) 64)
    where
      by : (t : Bool) → Comes (and_then (cond t (Ok (record { stack = s; place = after_parenthesis })) (Err TooDeep)) (λ next. filter_from rows next text)) (from s after_parenthesis text)
      by true = inl refl
      by false = inr refl

  -- ---- tests

  rest_of_test : (cs item : List ℕ) (s : List Open) (rest : List ℕ) → list_any (λ c. c == 41) cs ≡ false
      → from s (in_test item) (cs ++ 41 ∷ rest) ≡ and_then (after_test s (test_of rows (item ++ cs))) (λ next. filter_from rows next rest)
  rest_of_test [] item s rest h = ap (λ y. and_then (after_test s (test_of rows y)) (λ next. filter_from rows next rest)) (sym (append-nil item))
  rest_of_test (c ∷ cs) item s rest h =
      ap (λ t. and_then (cond t (after_test s (test_of rows item)) (Ok (record { stack = s; place = in_test (item ++ c ∷ []) }))) (λ next. filter_from rows next (cs ++ 41 ∷ rest))) (or_first (c == 41) _ h)
      ∙ rest_of_test cs (item ++ c ∷ []) s rest (or_second (c == 41) _ h)
      ∙ ap (λ y. and_then (after_test s (test_of rows y)) (λ next. filter_from rows next rest)) (append_assoc item (c ∷ []) cs)

  whole_test : (item : List ℕ) (s : List Open) (rest : List ℕ) → is_test_text item ≡ true
      → from s after_parenthesis (item ++ 41 ∷ rest) ≡ and_then (after_test s (test_of rows item)) (λ next. filter_from rows next rest)
  whole_test [] s rest h = refl
  whole_test (c ∷ cs) s rest h =
      let begins : begins_filters c ≡ false = not_true (begins_filters c) (first_true (begins_test (c ∷ cs)) _ h) in
      let plain : list_any (λ c. c == 41) (c ∷ cs) ≡ false = not_true (list_any (λ c. c == 41) (c ∷ cs)) (second_true (begins_test (c ∷ cs)) _ h) in
      let one : (c == 38) ≡ false = or_first (c == 38) _ begins in
      let two : (c == 124) ≡ false = or_first (c == 124) _ (or_second (c == 38) _ begins) in
      let three : (c == 33) ≡ false = or_second (c == 124) _ (or_second (c == 38) _ begins) in
      let four : (c == 41) ≡ false = or_first (c == 41) _ plain in
      (λ i.
      and_then
      (cond (one i) (Ok (record { stack = open_and [] ∷ s; place = in_list }))
      (cond (two i) (Ok (record { stack = open_or [] ∷ s; place = in_list }))
      (cond (three i) (Ok (record { stack = open_not ∷ s; place = before_filter }))
      (cond (four i) (after_test s (test_of rows [])) (Ok (record { stack = s; place = in_test (c ∷ []) }))))))
      (λ next. filter_from rows next (cs ++ 41 ∷ rest)))
      ∙ rest_of_test cs (c ∷ []) s rest (or_second (c == 41) _ plain)

  -- ---- lists

  opened : (k : Bool) (s : List Open) (text : List ℕ) → from s after_parenthesis (cond k 38 124 ∷ text) ≡ from (open_list k [] ∷ s) in_list text
  opened true s text = refl
  opened false s text = refl

  one_more : (k : Bool) (t : Tree) (us : List Tree) (s : List Open) → with_filter t (open_list k us ∷ s) ≡ record { stack = open_list k (us ++ t ∷ []) ∷ s; place = in_list }
  one_more true t us s = refl
  one_more false t us s = refl

  closed : (k : Bool) (us : List Tree) (s : List Open) (rest : List ℕ) → from (open_list k us ∷ s) in_list (41 ∷ rest) ≡ filter_from rows (with_filter (closed_list k (trees_of us)) s) rest
  closed true us s rest = refl
  closed false us s rest = refl

  -- a list between its `(&` or `(|` and its `)`
  whole_list : (k j : Bool) (ts : Trees) (filters rest text : List ℕ) (s : List Open) → text ≡ (40 ∷ cond k 38 124 ∷ filters ++ 41 ∷ []) ++ rest
      → Comes (from (open_list k [] ∷ s) in_list (filters ++ 41 ∷ rest)) (from (open_list k (list_of ts) ∷ s) in_list (41 ∷ rest))
      → Comes (from s (start_place j) text) (filter_from rows (with_filter (closed_list k ts) s) rest)
  whole_list k j ts filters rest text s e each =
      let shape : text ≡ 40 ∷ cond k 38 124 ∷ (filters ++ 41 ∷ rest) = e ∙ ap (λ y. 40 ∷ cond k 38 124 ∷ y) (append_assoc filters (41 ∷ []) rest) in
      let begun : Comes (from s (start_place j) text) (from s after_parenthesis (cond k 38 124 ∷ (filters ++ 41 ∷ rest))) =
      subst (λ y. Comes (from s (start_place j) y) (from s after_parenthesis (cond k 38 124 ∷ (filters ++ 41 ∷ rest)))) (sym shape) (deeper j s (cond k 38 124 ∷ (filters ++ 41 ∷ rest))) in
      let inside : Comes (from s after_parenthesis (cond k 38 124 ∷ (filters ++ 41 ∷ rest))) (from (open_list k (list_of ts) ∷ s) in_list (41 ∷ rest)) =
      subst (λ y. Comes y (from (open_list k (list_of ts) ∷ s) in_list (41 ∷ rest))) (sym (opened k s (filters ++ 41 ∷ rest))) each in
      let last : from (open_list k (list_of ts) ∷ s) in_list (41 ∷ rest) ≡ filter_from rows (with_filter (closed_list k ts) s) rest =
      closed k (list_of ts) s rest ∙ ap (λ us. filter_from rows (with_filter (closed_list k us) s) rest) (same_trees ts) in
      then_comes _ _ _ begun (then_comes _ _ _ inside (inl last))

  mutual
    pub comes : (t : Tree) (j : Bool) (a rest text : List ℕ) (s : List Open) → text ≡ a ++ rest → Spells rows a t → Comes (from s (start_place j) text) (filter_from rows (with_filter t s) rest)
    comes (conjunction ts) j a rest text s e h =
        whole_list true j ts h.0 rest text s (e ∙ ap (λ y. y ++ rest) h.1) (come_each ts true h.0 (41 ∷ rest) (h.0 ++ 41 ∷ rest) [] s refl h.2)
    comes (disjunction ts) j a rest text s e h =
        whole_list false j ts h.0 rest text s (e ∙ ap (λ y. y ++ rest) h.1) (come_each ts false h.0 (41 ∷ rest) (h.0 ++ 41 ∷ rest) [] s refl h.2)
    comes (negation t) j a rest text s e h =
        let shape : text ≡ 40 ∷ 33 ∷ (h.0 ++ 41 ∷ rest) = e ∙ ap (λ y. y ++ rest) h.1 ∙ ap (λ y. 40 ∷ 33 ∷ y) (append_assoc h.0 (41 ∷ []) rest) in
        let begun : Comes (from s (start_place j) text) (from (open_not ∷ s) before_filter (h.0 ++ 41 ∷ rest)) =
        subst (λ y. Comes (from s (start_place j) y) (from (open_not ∷ s) before_filter (h.0 ++ 41 ∷ rest))) (sym shape) (deeper j s (33 ∷ (h.0 ++ 41 ∷ rest))) in
        then_comes _ _ _ begun (comes t true h.0 (41 ∷ rest) (h.0 ++ 41 ∷ rest) (open_not ∷ s) refl h.2)
    comes (test t) j a rest text s e h =
        let shape : text ≡ 40 ∷ (h.0 ++ 41 ∷ rest) = e ∙ ap (λ y. y ++ rest) h.1 ∙ ap (λ y. 40 ∷ y) (append_assoc h.0 (41 ∷ []) rest) in
        let begun : Comes (from s (start_place j) text) (from s after_parenthesis (h.0 ++ 41 ∷ rest)) =
        subst (λ y. Comes (from s (start_place j) y) (from s after_parenthesis (h.0 ++ 41 ∷ rest))) (sym shape) (deeper j s (h.0 ++ 41 ∷ rest)) in
        then_comes _ _ _ begun (inl (whole_test h.0 s rest h.2 ∙ ap (λ r. and_then (after_test s r) (λ next. filter_from rows next rest)) h.3))

    pub come_each : (ts : Trees) (k : Bool) (filters rest text : List ℕ) (us : List Tree) (s : List Open) → text ≡ filters ++ rest → SpellsEach rows filters ts
        → Comes (from (open_list k us ∷ s) in_list text) (from (open_list k (us ++ list_of ts) ∷ s) in_list rest)
    come_each none k filters rest text us s e h =
        inl (λ i. from (open_list k (sym (append-nil us) i) ∷ s) in_list ((e ∙ ap (λ y. y ++ rest) h) i))
    come_each (first t ts) k filters rest text us s e h =
        let shape : text ≡ h.0 ++ (h.1 ++ rest) = e ∙ ap (λ y. y ++ rest) h.2 ∙ append_assoc h.0 h.1 rest in
        let one : Comes (from (open_list k us ∷ s) in_list text) (filter_from rows (with_filter t (open_list k us ∷ s)) (h.1 ++ rest)) = comes t false h.0 (h.1 ++ rest) text (open_list k us ∷ s) shape h.3 in
        let others : Comes (from (open_list k (us ++ t ∷ []) ∷ s) in_list (h.1 ++ rest)) (from (open_list k ((us ++ t ∷ []) ++ list_of ts) ∷ s) in_list rest) = come_each ts k h.1 rest (h.1 ++ rest) (us ++ t ∷ []) s refl h.4 in
        then_comes _ _ _ one
        (subst (λ st. Comes (filter_from rows st (h.1 ++ rest)) (from (open_list k (us ++ t ∷ list_of ts) ∷ s) in_list rest)) (sym (one_more k t us s))
        (subst (λ l. Comes (from (open_list k (us ++ t ∷ []) ∷ s) in_list (h.1 ++ rest)) (from (open_list k l ∷ s) in_list rest)) (append_assoc us (t ∷ []) (list_of ts)) others))

  -- ---- a level too many

  to_too_deep : (x y : Result Tree FilterFault) → Comes x y → y ≡ Err TooDeep → x ≡ Err TooDeep
  to_too_deep x y (inl e) f = e ∙ f
  to_too_deep x y (inr e) f = e

  refused : (j : Bool) (s : List Open) (text : List ℕ) → 64 ≤ length s → from s (start_place j) (40 ∷ text) ≡ Err TooDeep
  refused true s text le = by (nat_lt (length s) 64) refl
    where
      by : (t : Bool) → nat_lt (length s) 64 ≡ t → and_then (cond t (Ok (record { stack = s; place = after_parenthesis })) (Err TooDeep)) (λ next. filter_from rows next text) ≡ Err TooDeep
      by true w = let less = ltb-true (length s) 64 w in absurd (omega arith)
      by false w = refl
  refused false s text le = by (nat_lt (length s) 64) refl
    where
      by : (t : Bool) → nat_lt (length s) 64 ≡ t → and_then (cond t (Ok (record { stack = s; place = after_parenthesis })) (Err TooDeep)) (λ next. filter_from rows next text) ≡ Err TooDeep
      by true w = let less = ltb-true (length s) 64 w in absurd (omega arith)
      by false w = refl

  in_a_list : (k j : Bool) (text filters rest : List ℕ) (ts : Trees) (s : List Open) → text ≡ 40 ∷ cond k 38 124 ∷ (filters ++ rest) → SpellsEach rows filters ts
      → from (open_list k (list_of ts) ∷ s) in_list rest ≡ Err TooDeep → from s (start_place j) text ≡ Err TooDeep
  in_a_list k j text filters rest ts s e each later =
      let inside : from s after_parenthesis (cond k 38 124 ∷ (filters ++ rest)) ≡ Err TooDeep =
      opened k s (filters ++ rest) ∙ to_too_deep _ _ (come_each ts k filters rest (filters ++ rest) [] s refl each) later in
      ap (from s (start_place j)) e ∙ to_too_deep _ _ (deeper j s (cond k 38 124 ∷ (filters ++ rest))) inside

  pub tells : (n : ℕ) (j : Bool) (text : List ℕ) (s : List Open) → 64 ≤ length s + n → IsTooDeep rows n text → from s (start_place j) text ≡ Err TooDeep
  tells n j text s le (here t rest e) = ap (from s (start_place j)) e ∙ refused j s rest (omega arith)
  tells n j text s le (in_conjunction m t filters rest ts e each h) = in_a_list true j text filters rest ts s e each (tells m false rest (open_and (list_of ts) ∷ s) (omega arith) h)
  tells n j text s le (in_disjunction m t filters rest ts e each h) = in_a_list false j text filters rest ts s e each (tells m false rest (open_or (list_of ts) ∷ s) (omega arith) h)
  tells n j text s le (in_negation m t rest e h) =
      ap (from s (start_place j)) e ∙ to_too_deep _ _ (deeper j s (33 ∷ rest)) (tells m true rest (open_not ∷ s) (omega arith) h)
