-- What the reader gives is what the text spells, and where it tells of a 65th level there is one.
--     SpellsOpen stack p     p begins these filters, with what is complete in them
--     Fits state p           p leads to the state
use Rattle.std.proofs.Common.{◌≡◌, ℕ, zero, suc, ◌+◌, ◌≤◌, Bool, true, false, cond, not, List, [], ◌∷◌, ◌++◌, length, Option, Some, None, Result, Ok, Err, refl, sym, ap, ◌∙◌, subst, arith}
use Rattle.std.specs.Prelude.{◌==◌, ◌&&◌, ◌||◌, nat_lt, nat_le}
use Rattle.std.specs.List.{list_any}
use Rattle.std.proofs.lemmas.Bool.{eqb-true, ltb-false, leb-true, leb-false}
use Rattle.std.proofs.lemmas.List.{append-nil, append_assoc}
use Rattle.dir_names.specs.declared.schema.TypeRow.{TypeRow}
use Rattle.dir_names.specs.Results.{and_then}
use Rattle.dir_acl.specs.declared.fault.FilterFault.{FilterFault}
use Rattle.dir_acl.specs.declared.fault.FilterFault.TheVariants.{BadFilter, TooDeep}
use Rattle.dir_acl.specs.declared.filter.Test.{Test}
use Rattle.dir_acl.specs.Filters.{Tree, conjunction, disjunction, negation, test, trees_of, Spells, SpellsEach, IsTooDeep, here, in_conjunction, in_disjunction, in_negation, begins_filters, begins_test, is_test_text}
use Rattle.dir_acl.specs.Filters.Reading.{Open, open_and, open_or, open_not, Place, before_filter, after_parenthesis, in_test, in_list, at_end, State, with_filter, after_list, one_deeper, after_test, is_complete, step_in_test, step_after_parenthesis, step_at, filter_from}
use Rattle.dir_acl.specs.Filters.Reading as read
use Rattle.dir_acl.specs.Tests.{test_of}

-- ---- tests' texts

no_any : (item : List ℕ) (b : ℕ) → list_any (λ c. c == 41) item ≡ false → (b == 41) ≡ false → list_any (λ c. c == 41) (item ++ b ∷ []) ≡ false
no_any [] b h e = ap (λ t. t || false) e
no_any (c ∷ cs) b h e = by (λ r. no_any cs b r e) (c == 41) refl h
  where
    by : (list_any (λ c. c == 41) cs ≡ false → list_any (λ c. c == 41) (cs ++ b ∷ []) ≡ false) → (t : Bool) → (c == 41) ≡ t → (t || list_any (λ c. c == 41) cs) ≡ false → ((c == 41) || list_any (λ c. c == 41) (cs ++ b ∷ [])) ≡ false
    by rest true q h = absurd (cc)
    by rest false q h = ap (λ t. t || list_any (λ c. c == 41) (cs ++ b ∷ [])) q ∙ rest h

pub first_true : (x y : Bool) → (x && y) ≡ true → x ≡ true
first_true true y e = refl
first_true false y e = e

pub second_true : (x y : Bool) → (x && y) ≡ true → y ≡ true
second_true true y e = e
second_true false y e = absurd (cc)

pub not_true : (x : Bool) → not x ≡ true → x ≡ false
not_true true e = absurd (cc)
not_true false e = refl

pub test_grows : (c : ℕ) (cs : List ℕ) (b : ℕ) → is_test_text (c ∷ cs) ≡ true → (b == 41) ≡ false → is_test_text ((c ∷ cs) ++ b ∷ []) ≡ true
test_grows c cs b h e =
    let begins : not (begins_filters c) ≡ true = first_true (begins_test (c ∷ cs)) _ h in
    let plain : list_any (λ c. c == 41) (c ∷ cs) ≡ false = not_true (list_any (λ c. c == 41) (c ∷ cs)) (second_true (begins_test (c ∷ cs)) _ h) in
    (λ i. begins i && not (no_any (c ∷ cs) b plain e i))

one_byte : (b : ℕ) → begins_filters b ≡ false → (b == 41) ≡ false → is_test_text (b ∷ []) ≡ true
one_byte b f e = λ i. not (f i) && not (e i || false)

module _ (rows : List TypeRow) where
  abbrev pub SpellsOpen : List Open → List ℕ → Type 0
  SpellsOpen [] p = p ≡ []
  SpellsOpen (open_and ts ∷ s) p = (before : List ℕ) × (list : List ℕ) × (p ≡ before ++ 40 ∷ 38 ∷ list) × SpellsOpen s before × SpellsEach rows list (trees_of ts)
  SpellsOpen (open_or ts ∷ s) p = (before : List ℕ) × (list : List ℕ) × (p ≡ before ++ 40 ∷ 124 ∷ list) × SpellsOpen s before × SpellsEach rows list (trees_of ts)
  SpellsOpen (open_not ∷ s) p = (before : List ℕ) × (p ≡ before ++ 40 ∷ 33 ∷ []) × SpellsOpen s before

  abbrev FitsAt : List Open → Place → List ℕ → Type 0
  FitsAt s before_filter p = SpellsOpen s p
  FitsAt s after_parenthesis p = (before : List ℕ) × (p ≡ before ++ 40 ∷ []) × SpellsOpen s before
  FitsAt s (in_test item) p = (before : List ℕ) × (c : ℕ) × (cs : List ℕ) × (item ≡ c ∷ cs) × (p ≡ before ++ 40 ∷ item) × SpellsOpen s before × (is_test_text item ≡ true)
  FitsAt s in_list p = SpellsOpen s p
  FitsAt s (read.in_negation t) p = (before : List ℕ) × (inner : List ℕ) × (p ≡ before ++ 40 ∷ 33 ∷ inner) × SpellsOpen s before × Spells rows inner t
  FitsAt s (at_end t) p = Spells rows p t

  abbrev pub Fits : State → List ℕ → Type 0
  Fits state p = FitsAt state.stack state.place p

  each_last : (ts : List Tree) (list a : List ℕ) (t : Tree) → SpellsEach rows list (trees_of ts) → Spells rows a t → SpellsEach rows (list ++ a) (trees_of (ts ++ t ∷ []))
  each_last [] list a t e h = (a, [], ap (λ y. y ++ a) e ∙ sym (append-nil a), h, refl)
  each_last (u ∷ us) list a t e h = (e.0, e.1 ++ a, ap (λ y. y ++ a) e.2 ∙ append_assoc e.0 e.1 a, e.3, each_last us e.1 a t e.4 h)

  abbrev reached : State → Result State FilterFault
  reached state = Ok state

  -- a complete filter after what is open
  fits_with : (t : Tree) (s : List Open) (q a p : List ℕ) → p ≡ q ++ a → SpellsOpen s q → Spells rows a t → Fits (with_filter t s) p
  fits_with t [] q a p e o h = subst (λ x. Spells rows x t) (sym (e ∙ ap (λ y. y ++ a) o)) h
  fits_with t (open_and ts ∷ s) q a p e o h = (o.0, o.1 ++ a, e ∙ ap (λ y. y ++ a) o.2 ∙ append_assoc o.0 (40 ∷ 38 ∷ o.1) a, o.3, each_last ts o.1 a t o.4 h)
  fits_with t (open_or ts ∷ s) q a p e o h = (o.0, o.1 ++ a, e ∙ ap (λ y. y ++ a) o.2 ∙ append_assoc o.0 (40 ∷ 124 ∷ o.1) a, o.3, each_last ts o.1 a t o.4 h)
  fits_with t (open_not ∷ s) q a p e o h = (o.0, a, e ∙ ap (λ y. y ++ a) o.1 ∙ append_assoc o.0 (40 ∷ 33 ∷ []) a, o.2, h)

  same_fits : (x next : State) (p : List ℕ) → reached x ≡ reached next → Fits x p → Fits next p
  same_fits x next p e h = let same : x ≡ next = cc in subst (λ y. Fits y p) same h

  fits_list : (s : List Open) (p : List ℕ) (next : State) → SpellsOpen s p → after_list s ≡ Ok next → Fits next (p ++ 41 ∷ [])
  fits_list [] p next o e = absurd (cc)
  fits_list (open_and ts ∷ s) p next o e =
      same_fits _ next _ e (fits_with (conjunction (trees_of ts)) s o.0 (40 ∷ 38 ∷ o.1 ++ 41 ∷ []) (p ++ 41 ∷ []) (ap (λ y. y ++ 41 ∷ []) o.2 ∙ append_assoc o.0 (40 ∷ 38 ∷ o.1) (41 ∷ [])) o.3 (o.1, refl, o.4))
  fits_list (open_or ts ∷ s) p next o e =
      same_fits _ next _ e (fits_with (disjunction (trees_of ts)) s o.0 (40 ∷ 124 ∷ o.1 ++ 41 ∷ []) (p ++ 41 ∷ []) (ap (λ y. y ++ 41 ∷ []) o.2 ∙ append_assoc o.0 (40 ∷ 124 ∷ o.1) (41 ∷ [])) o.3 (o.1, refl, o.4))
  fits_list (open_not ∷ s) p next o e = absurd (cc)

  fits_deeper : (s : List Open) (p : List ℕ) (next : State) → SpellsOpen s p → one_deeper s ≡ Ok next → Fits next (p ++ 40 ∷ [])
  fits_deeper s p next o e = by (nat_lt (length s) 64) e
    where
      by : (t : Bool) → cond t (Ok (record { stack = s; place = after_parenthesis })) (Err TooDeep) ≡ Ok next → Fits next (p ++ 40 ∷ [])
      by true q = same_fits (record { stack = s; place = after_parenthesis }) next (p ++ 40 ∷ []) q (p, refl, o)
      by false q = absurd (cc)

  fits_test : (s : List Open) (before item p : List ℕ) (next : State) → p ≡ before ++ 40 ∷ item → SpellsOpen s before → is_test_text item ≡ true → after_test s (test_of rows item) ≡ Ok next → Fits next (p ++ 41 ∷ [])
  fits_test s before item p next e o h q = by (test_of rows item) refl q
    where
      by : (r : Option Test) → test_of rows item ≡ r → after_test s r ≡ Ok next → Fits next (p ++ 41 ∷ [])
      by None w q = absurd (cc)
      by (Some t) w q = same_fits (with_filter (test t) s) next (p ++ 41 ∷ []) q (fits_with (test t) s before (40 ∷ item ++ 41 ∷ []) (p ++ 41 ∷ []) (ap (λ y. y ++ 41 ∷ []) e ∙ append_assoc before (40 ∷ item) (41 ∷ [])) o (item, refl, h, w))

  -- a byte of a test, not the first one
  fits_in_test : (s : List Open) (before : List ℕ) (c : ℕ) (cs p : List ℕ) (b : ℕ) (next : State) → p ≡ before ++ 40 ∷ c ∷ cs → SpellsOpen s before → is_test_text (c ∷ cs) ≡ true → step_in_test rows s (c ∷ cs) b ≡ Ok next → Fits next (p ++ b ∷ [])
  fits_in_test s before c cs p b next e o h q = by (b == 41) refl q
    where
      by : (t : Bool) → (b == 41) ≡ t → cond t (after_test s (test_of rows (c ∷ cs))) (Ok (record { stack = s; place = in_test ((c ∷ cs) ++ b ∷ []) })) ≡ Ok next → Fits next (p ++ b ∷ [])
      by true w q = subst (λ x. Fits next (p ++ x ∷ [])) (sym (eqb-true b 41 w)) (fits_test s before (c ∷ cs) p next e o h q)
      by false w q = same_fits _ next _ q (before, c, cs ++ b ∷ [], refl, ap (λ y. y ++ b ∷ []) e ∙ append_assoc before (40 ∷ c ∷ cs) (b ∷ []), o, test_grows c cs b h w)

  fits_first : (s : List Open) (before p : List ℕ) (b : ℕ) (next : State) → p ≡ before ++ 40 ∷ [] → SpellsOpen s before → step_after_parenthesis rows s b ≡ Ok next → Fits next (p ++ b ∷ [])
  fits_first s before p b next e o q = conj (b == 38) refl q
    where
      longer : (c : ℕ) → b ≡ c → p ++ b ∷ [] ≡ before ++ 40 ∷ c ∷ []
      longer c w = ap (λ y. y ++ b ∷ []) e ∙ append_assoc before (40 ∷ []) (b ∷ []) ∙ ap (λ x. before ++ 40 ∷ x ∷ []) w

      item : (f : begins_filters b ≡ false) (t : Bool) → (b == 41) ≡ t → cond t (after_test s (test_of rows [])) (Ok (record { stack = s; place = in_test (b ∷ []) })) ≡ Ok next → Fits next (p ++ b ∷ [])
      item f true w q = subst (λ x. Fits next (p ++ x ∷ [])) (sym (eqb-true b 41 w)) (fits_test s before [] p next e o refl q)
      item f false w q = same_fits _ next _ q (before, b, [], refl, longer b refl, o, one_byte b f w)

      neg : (b == 38) ≡ false → (b == 124) ≡ false → (t : Bool) → (b == 33) ≡ t → cond t (Ok (record { stack = open_not ∷ s; place = before_filter })) (step_in_test rows s [] b) ≡ Ok next → Fits next (p ++ b ∷ [])
      neg u v true w q = same_fits _ next _ q (before, longer 33 (eqb-true b 33 w), o)
      neg u v false w q = item (λ i. u i || (v i || w i)) (b == 41) refl q

      disj : (b == 38) ≡ false → (t : Bool) → (b == 124) ≡ t → cond t (Ok (record { stack = open_or [] ∷ s; place = in_list })) (cond (b == 33) (Ok (record { stack = open_not ∷ s; place = before_filter })) (step_in_test rows s [] b)) ≡ Ok next → Fits next (p ++ b ∷ [])
      disj u true w q = same_fits _ next _ q (before, [], longer 124 (eqb-true b 124 w), o, refl)
      disj u false w q = neg u w (b == 33) refl q

      conj : (t : Bool) → (b == 38) ≡ t → cond t (Ok (record { stack = open_and [] ∷ s; place = in_list })) (cond (b == 124) (Ok (record { stack = open_or [] ∷ s; place = in_list })) (cond (b == 33) (Ok (record { stack = open_not ∷ s; place = before_filter })) (step_in_test rows s [] b))) ≡ Ok next → Fits next (p ++ b ∷ [])
      conj true w q = same_fits _ next _ q (before, [], longer 38 (eqb-true b 38 w), o, refl)
      conj false w q = disj w (b == 124) refl q

  fits_step : (s : List Open) (place : Place) (p : List ℕ) (b : ℕ) (next : State) → FitsAt s place p → step_at rows s place b ≡ Ok next → Fits next (p ++ b ∷ [])
  fits_step s before_filter p b next h q = by (b == 40) refl q
    where
      by : (t : Bool) → (b == 40) ≡ t → cond t (one_deeper s) (Err BadFilter) ≡ Ok next → Fits next (p ++ b ∷ [])
      by true w q = subst (λ x. Fits next (p ++ x ∷ [])) (sym (eqb-true b 40 w)) (fits_deeper s p next h q)
      by false w q = absurd (cc)
  fits_step s after_parenthesis p b next h q = fits_first s h.0 p b next h.1 h.2 q
  fits_step s (in_test item) p b next h q =
      fits_in_test s h.0 h.1 h.2 p b next (h.4 ∙ ap (λ y. h.0 ++ 40 ∷ y) h.3) h.5 (subst (λ y. is_test_text y ≡ true) h.3 h.6) (subst (λ y. step_in_test rows s y b ≡ Ok next) h.3 q)
  fits_step s in_list p b next h q = by (b == 40) refl q
    where
      close : (t : Bool) → (b == 41) ≡ t → cond t (after_list s) (Err BadFilter) ≡ Ok next → Fits next (p ++ b ∷ [])
      close true w q = subst (λ x. Fits next (p ++ x ∷ [])) (sym (eqb-true b 41 w)) (fits_list s p next h q)
      close false w q = absurd (cc)

      by : (t : Bool) → (b == 40) ≡ t → cond t (one_deeper s) (cond (b == 41) (after_list s) (Err BadFilter)) ≡ Ok next → Fits next (p ++ b ∷ [])
      by true w q = subst (λ x. Fits next (p ++ x ∷ [])) (sym (eqb-true b 40 w)) (fits_deeper s p next h q)
      by false w q = close (b == 41) refl q
  fits_step s (read.in_negation t) p b next h q = by (b == 41) refl q
    where
      by : (x : Bool) → (b == 41) ≡ x → cond x (Ok (with_filter (negation t) s)) (Err BadFilter) ≡ Ok next → Fits next (p ++ b ∷ [])
      by true w q =
          subst (λ x. Fits next (p ++ x ∷ [])) (sym (eqb-true b 41 w))
          (same_fits _ next _ q (fits_with (negation t) s h.0 (40 ∷ 33 ∷ h.1 ++ 41 ∷ []) (p ++ 41 ∷ []) (ap (λ y. y ++ 41 ∷ []) h.2 ∙ append_assoc h.0 (40 ∷ 33 ∷ h.1) (41 ∷ [])) h.3 (h.1, refl, h.4)))
      by false w q = absurd (cc)
  fits_step s (at_end t) p b next h q = absurd (cc)

  whole : (place : Place) (s : List Open) (p : List ℕ) (t : Tree) → FitsAt s place p → is_complete place ≡ Ok t → Spells rows p t
  whole before_filter s p t h q = absurd (cc)
  whole after_parenthesis s p t h q = absurd (cc)
  whole (in_test item) s p t h q = absurd (cc)
  whole in_list s p t h q = absurd (cc)
  whole (read.in_negation u) s p t h q = absurd (cc)
  whole (at_end u) s p t h q = let same : u ≡ t = cc in subst (Spells rows p) same h

  pub spelled : (bs : List ℕ) (state : State) (p : List ℕ) (t : Tree) → Fits state p → filter_from rows state bs ≡ Ok t → Spells rows (p ++ bs) t
  spelled [] state p t h q = subst (λ x. Spells rows x t) (sym (append-nil p)) (whole state.place state.stack p t h q)
  spelled (b ∷ bs) state p t h q = by (λ next. spelled bs next (p ++ b ∷ []) t) (step_at rows state.stack state.place b) refl q
    where
      by : ((next : State) → Fits next (p ++ b ∷ []) → filter_from rows next bs ≡ Ok t → Spells rows ((p ++ b ∷ []) ++ bs) t) → (r : Result State FilterFault) → step_at rows state.stack state.place b ≡ r → and_then r (λ next. filter_from rows next bs) ≡ Ok t → Spells rows (p ++ b ∷ bs) t
      by rest (Ok next) w q = subst (λ x. Spells rows x t) (append_assoc p (b ∷ []) bs) (rest next (fits_step state.stack state.place p b next h w) q)
      by rest (Err e) w q = absurd (cc)

  -- ---- a level too many

  down : (n : ℕ) (text : List ℕ) → IsTooDeep rows (suc n) text → IsTooDeep rows n text
  down zero text (in_conjunction n t filters rest ts e each h) = here text (38 ∷ filters ++ rest) e
  down zero text (in_disjunction n t filters rest ts e each h) = here text (124 ∷ filters ++ rest) e
  down zero text (in_negation n t rest e h) = here text (33 ∷ rest) e
  down (suc m) text (in_conjunction n t filters rest ts e each h) = in_conjunction m text filters rest ts e each (down m rest h)
  down (suc m) text (in_disjunction n t filters rest ts e each h) = in_disjunction m text filters rest ts e each (down m rest h)
  down (suc m) text (in_negation n t rest e h) = in_negation m text rest e (down m rest h)

  fewer : (m n : ℕ) (text : List ℕ) → n ≤ m → IsTooDeep rows m text → IsTooDeep rows n text
  fewer zero n text le h = let none : zero ≡ n = omega arith in subst (λ k. IsTooDeep rows k text) none h
  fewer (suc m) n text le h = by (λ less. fewer m n text less (down m text h)) (nat_le n m) refl
    where
      by : (n ≤ m → IsTooDeep rows n text) → (t : Bool) → nat_le n m ≡ t → IsTooDeep rows n text
      by rest true w = rest (leb-true n m w)
      by rest false w = let more = leb-false n m w in let same : suc m ≡ n = omega arith in subst (λ k. IsTooDeep rows k text) same h

  -- the levels that are open come before it
  climb : (s : List Open) (p rest text : List ℕ) (n : ℕ) → text ≡ p ++ rest → SpellsOpen s p → IsTooDeep rows n rest → (m : ℕ) × (m ≡ length s + n) × IsTooDeep rows m text
  climb [] p rest text n e o h = (n, omega arith, subst (IsTooDeep rows n) (sym (e ∙ ap (λ y. y ++ rest) o)) h)
  climb (open_and ts ∷ s) p rest text n e o h =
      let up = climb s o.0 ((40 ∷ 38 ∷ o.1) ++ rest) text (suc n) (e ∙ ap (λ y. y ++ rest) o.2 ∙ append_assoc o.0 (40 ∷ 38 ∷ o.1) rest) o.3 (in_conjunction n _ o.1 rest (trees_of ts) refl o.4 h) in
      (up.0, omega (arith, up.1), up.2)
  climb (open_or ts ∷ s) p rest text n e o h =
      let up = climb s o.0 ((40 ∷ 124 ∷ o.1) ++ rest) text (suc n) (e ∙ ap (λ y. y ++ rest) o.2 ∙ append_assoc o.0 (40 ∷ 124 ∷ o.1) rest) o.3 (in_disjunction n _ o.1 rest (trees_of ts) refl o.4 h) in
      (up.0, omega (arith, up.1), up.2)
  climb (open_not ∷ s) p rest text n e o h =
      let up = climb s o.0 ((40 ∷ 33 ∷ []) ++ rest) text (suc n) (e ∙ ap (λ y. y ++ rest) o.1 ∙ append_assoc o.0 (40 ∷ 33 ∷ []) rest) o.2 (in_negation n _ rest refl h) in
      (up.0, omega (arith, up.1), up.2)

  abbrev at_parenthesis : List Open → State
  at_parenthesis s = record { stack = s; place = after_parenthesis }

  deeper_fails : (s : List Open) → one_deeper s ≡ Err TooDeep → 64 ≤ length s
  deeper_fails s q = by (nat_lt (length s) 64) refl q
    where
      by : (t : Bool) → nat_lt (length s) 64 ≡ t → cond t (reached (at_parenthesis s)) (Err TooDeep) ≡ Err TooDeep → 64 ≤ length s
      by true w q = absurd (cc)
      by false w q = ltb-false (length s) 64 w

  list_fails : (s : List Open) → after_list s ≡ Err TooDeep → ⊥
  list_fails [] q = cc
  list_fails (open_and ts ∷ s) q = cc
  list_fails (open_or ts ∷ s) q = cc
  list_fails (open_not ∷ s) q = cc

  test_fails : (s : List Open) (r : Option Test) → after_test s r ≡ Err TooDeep → ⊥
  test_fails s None q = cc
  test_fails s (Some t) q = cc

  in_test_fails : (s : List Open) (item : List ℕ) (b : ℕ) → step_in_test rows s item b ≡ Err TooDeep → ⊥
  in_test_fails s item b q = by (b == 41) q
    where
      by : (t : Bool) → cond t (after_test s (test_of rows item)) (Ok (record { stack = s; place = in_test (item ++ b ∷ []) })) ≡ Err TooDeep → ⊥
      by true q = test_fails s _ q
      by false q = cc

  first_fails : (s : List Open) (b : ℕ) → step_after_parenthesis rows s b ≡ Err TooDeep → ⊥
  first_fails s b q = by (b == 38) (b == 124) (b == 33) q
    where
      by : (t u v : Bool) → cond t (Ok (record { stack = open_and [] ∷ s; place = in_list })) (cond u (Ok (record { stack = open_or [] ∷ s; place = in_list })) (cond v (Ok (record { stack = open_not ∷ s; place = before_filter })) (step_in_test rows s [] b))) ≡ Err TooDeep → ⊥
      by true u v q = cc
      by false true v q = cc
      by false false true q = cc
      by false false false q = in_test_fails s [] b q

  deep_step : (s : List Open) (place : Place) (p : List ℕ) (b : ℕ) → FitsAt s place p → step_at rows s place b ≡ Err TooDeep → (b ≡ 40) × SpellsOpen s p × (64 ≤ length s)
  deep_step s before_filter p b h q = by (b == 40) refl q
    where
      by : (t : Bool) → (b == 40) ≡ t → cond t (one_deeper s) (Err BadFilter) ≡ Err TooDeep → (b ≡ 40) × SpellsOpen s p × (64 ≤ length s)
      by true w q = (eqb-true b 40 w, h, deeper_fails s q)
      by false w q = absurd (cc)
  deep_step s after_parenthesis p b h q = absurd (first_fails s b q)
  deep_step s (in_test item) p b h q = absurd (in_test_fails s item b q)
  deep_step s in_list p b h q = by (b == 40) refl q
    where
      close : (t : Bool) → cond t (after_list s) (Err BadFilter) ≡ Err TooDeep → ⊥
      close true q = list_fails s q
      close false q = cc

      by : (t : Bool) → (b == 40) ≡ t → cond t (one_deeper s) (cond (b == 41) (after_list s) (Err BadFilter)) ≡ Err TooDeep → (b ≡ 40) × SpellsOpen s p × (64 ≤ length s)
      by true w q = (eqb-true b 40 w, h, deeper_fails s q)
      by false w q = absurd (close (b == 41) q)
  deep_step s (read.in_negation t) p b h q = absurd (by (b == 41) q)
    where
      by : (x : Bool) → cond x (Ok (with_filter (negation t) s)) (Err BadFilter) ≡ Err TooDeep → ⊥
      by true q = cc
      by false q = cc
  deep_step s (at_end t) p b h q = absurd (cc)

  not_whole : (place : Place) → is_complete place ≡ Err TooDeep → ⊥
  not_whole before_filter q = cc
  not_whole after_parenthesis q = cc
  not_whole (in_test item) q = cc
  not_whole in_list q = cc
  not_whole (read.in_negation u) q = cc
  not_whole (at_end u) q = cc

  pub too_deep : (bs : List ℕ) (state : State) (p : List ℕ) → Fits state p → filter_from rows state bs ≡ Err TooDeep → IsTooDeep rows 64 (p ++ bs)
  too_deep [] state p h q = absurd (not_whole state.place q)
  too_deep (b ∷ bs) state p h q = by (λ next. too_deep bs next (p ++ b ∷ [])) (step_at rows state.stack state.place b) refl q
    where
      by : ((next : State) → Fits next (p ++ b ∷ []) → filter_from rows next bs ≡ Err TooDeep → IsTooDeep rows 64 ((p ++ b ∷ []) ++ bs)) → (r : Result State FilterFault) → step_at rows state.stack state.place b ≡ r → and_then r (λ next. filter_from rows next bs) ≡ Err TooDeep → IsTooDeep rows 64 (p ++ b ∷ bs)
      by rest (Ok next) w q = subst (IsTooDeep rows 64) (append_assoc p (b ∷ []) bs) (rest next (fits_step state.stack state.place p b next h w) q)
      by rest (Err e) w q =
          let fault : step_at rows state.stack state.place b ≡ Err TooDeep = cc in
          let found = deep_step state.stack state.place p b h fault in
          let up = climb state.stack p (b ∷ bs) (p ++ b ∷ bs) 0 refl found.1 (here (b ∷ bs) bs (ap (λ x. x ∷ bs) found.0)) in
          fewer up.0 64 _ (omega (arith, up.1, found.2)) up.2
