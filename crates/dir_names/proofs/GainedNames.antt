-- A known type gains names: its row alone changes, and what the index gains makes it the index of the rows.
use Rattle.std.proofs.Common.{◌≡◌, ℕ, suc, ◌+◌, ◌<◌, Bool, true, false, not, ◌&&◌, ◌||◌, cond, nat_lt, List, [], ◌∷◌, ◌++◌, map, length, get_or, Option, Some, None, is_some, set, refl, sym, ap, subst, ◌∙◌, true≢false, arith}
use Rattle.std.specs.List.{All, list_any, list_all, position, position_or_len}
use Rattle.std.specs.Option.{option_or}
use Rattle.std.specs.Str.{str_eq_ignore_ascii_case, str_to_ascii_lowercase}
use Rattle.std.proofs.lemmas.List.{length-map}
use Rattle.std.proofs.lemmas.List.Elements.{All-head, All-tail}
use Rattle.dir_names.specs.declared.schema.definition.TypeDefinition.{TypeDefinition}
use Rattle.dir_names.specs.declared.schema.TypeRow.{TypeRow}
use Rattle.dir_names.specs.Inside.TypeNames.{Gains, IsIndex, are_rising, is_named}
use Rattle.dir_names.specs.Orders.{bytes_eq}
use Rattle.dir_names.specs.Table.{row_named}
use Rattle.dir_names.specs.Types.Adding.{gaining, is_table, may_be_given, new_names}
use Rattle.dir_names.proofs.Both.{left, right}
use Rattle.dir_names.proofs.AddedTypes.{apart, gained_new, names_grown, none_passes}

-- ---- the place of the first element that passes a test

module _ {X : Type 0} where
  place_map : {Y : Type 0} (f : X → Y) (p : Y → Bool) (xs : List X) → position_or_len p (map f xs) ≡ position_or_len (λ x. p (f x)) xs
  place_map f p [] = refl
  place_map f p (x ∷ xs) = λ i. cond (not (p (f x))) (1 + place_map f p xs i) 0

  placed_map : {Y : Type 0} (f : X → Y) (p : Y → Bool) (xs : List X) → position p (map f xs) ≡ position (λ x. p (f x)) xs
  placed_map f p xs = λ i. cond (nat_lt (place_map f p xs i) (length-map xs f i)) (Some (place_map f p xs i)) None

  place_alike : (p q : X → Bool) (xs : List X) → All (λ x. p x ≡ q x) xs → position_or_len p xs ≡ position_or_len q xs
  place_alike p q [] a = refl
  place_alike p q (x ∷ xs) a = λ i. cond (not (All-head (λ y. p y ≡ q y) x xs a i)) (1 + place_alike p q xs (All-tail (λ y. p y ≡ q y) x xs a) i) 0

  placed_alike : (p q : X → Bool) (xs : List X) → All (λ x. p x ≡ q x) xs → position p xs ≡ position q xs
  placed_alike p q xs a = λ i. cond (nat_lt (place_alike p q xs a i) (length xs)) (Some (place_alike p q xs a i)) None

  nowhere : (xs : List X) → position_or_len (λ x. false) xs ≡ length xs
  nowhere [] = refl
  nowhere (x ∷ xs) = omega (arith, nowhere xs)

  -- none passes
  unplaced : (p : X → Bool) (xs : List X) → All (λ x. p x ≡ false) xs → position p xs ≡ None
  unplaced p xs a = placed_alike p (λ x. false) xs a ∙ ap (λ n. cond (nat_lt n (length xs)) (Some n) None) (nowhere xs) ∙ past (length xs)
    where
      past : (n : ℕ) → cond (nat_lt n n) (Some n) None ≡ None
      past n = grind arith

  -- where it is
  pub placed_at : (p : X → Bool) (xs : List X) (at : ℕ) → position p xs ≡ Some at → (position_or_len p xs ≡ at) × (at < length xs)
  placed_at p xs at e = by (position_or_len p xs) e
    where
      by : (n : ℕ) → cond (nat_lt n (length xs)) (Some n) None ≡ Some at → (n ≡ at) × (at < length xs)
      by n s = within (nat_lt n (length xs)) refl s
        where
          within : (b : Bool) → nat_lt n (length xs) ≡ b → cond b (Some n) None ≡ Some at → (n ≡ at) × (at < length xs)
          within true l same = let is : n ≡ at = cc in (is, grind arith)
          within false l same = absurd (cc)

-- ---- the rows

module _ (d : TypeDefinition) (gained : List (List ℕ)) where
  abbrev pub wider : TypeRow → TypeRow
  wider one = record { key = one.key; names = one.names ++ gained; rule = one.rule; single = one.single }

  unchanged : (rows : List TypeRow) → All (λ one. is_named d.number one ≡ false) rows → map (gaining d gained) rows ≡ rows
  unchanged [] a = refl
  unchanged (one ∷ rows) a = λ i. cond (All-head (λ one. is_named d.number one ≡ false) one rows a i) (wider one) one ∷ unchanged rows (All-tail (λ one. is_named d.number one ≡ false) one rows a) i

  changed : (rows : List TypeRow) (at : ℕ) (other : TypeRow) → is_table rows ≡ true → position_or_len (is_named d.number) rows ≡ at → at < length rows
      → set rows at (wider (get_or rows at other)) ≡ map (gaining d gained) rows
  changed [] at other e s h = absurd (omega (arith, h))
  changed (one ∷ rows) at other e s h = by (is_named d.number one) refl s (changed rows)
    where
      own : Bool
      own = list_any (λ name. str_eq_ignore_ascii_case name one.key) one.names

      others : Bool
      others = list_all (λ name. not (is_some (row_named rows name))) one.names

      here : (own && others) ≡ true
      here = left (own && others) (is_table rows) e

      by : (b : Bool) → is_named d.number one ≡ b → cond (not b) (1 + position_or_len (is_named d.number) rows) 0 ≡ at
          → ((at : ℕ) (other : TypeRow) → is_table rows ≡ true → position_or_len (is_named d.number) rows ≡ at → at < length rows → set rows at (wider (get_or rows at other)) ≡ map (gaining d gained) rows)
          → set (one ∷ rows) at (wider (get_or (one ∷ rows) at other)) ≡ gaining d gained one ∷ map (gaining d gained) rows
      by true n first more =
          subst (λ k. set (one ∷ rows) k (wider (get_or (one ∷ rows) k other)) ≡ gaining d gained one ∷ map (gaining d gained) rows) first
          (λ i. cond (sym n i) (wider one) one ∷ sym (unchanged rows (none_passes (is_named d.number) rows (apart one rows (right own others here) d.number n))) i)
      by false n later more =
          let next : suc (position_or_len (is_named d.number) rows) ≡ at = omega (arith, later) in
          subst (λ k. set (one ∷ rows) k (wider (get_or (one ∷ rows) k other)) ≡ gaining d gained one ∷ map (gaining d gained) rows) next
          (λ i. cond (sym n i) (wider one) one ∷ more (position_or_len (is_named d.number) rows) other (right (own && others) (is_table rows) e) refl (omega (arith, h, later)) i)

-- the row that the number names gains them
pub gains_at : (d : TypeDefinition) (gained : List (List ℕ)) (rows : List TypeRow) (at : ℕ) (other : TypeRow) → is_table rows ≡ true → position (is_named d.number) rows ≡ Some at
    → set rows at (wider d gained (get_or rows at other)) ≡ map (gaining d gained) rows
gains_at d gained rows at other e s = let is = placed_at (is_named d.number) rows at s in changed d gained rows at other e is.0 is.1

-- ---- the index

-- a text is one of these in lower case
pub lowered_in : (names : List (List ℕ)) (t : List ℕ) → list_any (λ name. bytes_eq name (str_to_ascii_lowercase t)) (map str_to_ascii_lowercase names) ≡ list_any (λ name. str_eq_ignore_ascii_case name t) names
lowered_in [] t = refl
lowered_in (name ∷ names) t = λ i. bytes_eq (str_to_ascii_lowercase name) (str_to_ascii_lowercase t) || lowered_in names t i

module _ (rows : List TypeRow) (d : TypeDefinition) (numbered : TypeRow) (given : list_all (may_be_given rows d) d.names ≡ true) (known : row_named rows d.number ≡ Some numbered) where
  abbrev gained : List (List ℕ)
  gained = new_names rows d

  abbrev named_now : List ℕ → TypeRow → Bool
  named_now t one = is_named t one || (is_named d.number one && list_any (λ name. str_eq_ignore_ascii_case name t) gained)

  pub index_gains : (at : ℕ) (old new : List (List ℕ × ℕ)) → IsIndex rows old → position (is_named d.number) rows ≡ Some at → are_rising new ≡ true
      → Gains (λ t. list_any (λ name. bytes_eq name (str_to_ascii_lowercase t)) (map str_to_ascii_lowercase gained)) at old new
      → IsIndex (map (gaining d gained) rows) new
  index_gains at old new is placed rising gains = (rising, λ t. gains t ∙ (λ i. option_or (is.1 t i) (cond (lowered_in gained t i) (Some at) None)) ∙ sym (at_text t))
    where
      -- what a text names now
      at_text : (t : List ℕ) → position (is_named t) (map (gaining d gained) rows) ≡ option_or (position (is_named t) rows) (cond (list_any (λ name. str_eq_ignore_ascii_case name t) gained) (Some at) None)
      at_text t =
          placed_map (gaining d gained) (is_named t) rows
          ∙ placed_alike (λ one. is_named t (gaining d gained one)) (named_now t) rows (λ k other h. names_grown rows d numbered given known t (get_or rows k other))
          ∙ by (list_any (λ name. str_eq_ignore_ascii_case name t) gained) refl
        where
          old_only : (a b : Bool) → (a || (b && false)) ≡ a
          old_only true b = refl
          old_only false true = refl
          old_only false false = refl

          new_only : (a b c : Bool) → a ≡ false → c ≡ true → (a || (b && c)) ≡ b
          new_only true b c x y = absurd (true≢false x)
          new_only false true c x y = y
          new_only false false c x y = refl

          or_none : (o : Option ℕ) → o ≡ option_or o None
          or_none (Some n) = refl
          or_none None = refl

          by : (b : Bool) → list_any (λ name. str_eq_ignore_ascii_case name t) gained ≡ b → position (named_now t) rows ≡ option_or (position (is_named t) rows) (cond b (Some at) None)
          by false e = placed_alike (named_now t) (is_named t) rows (λ k other h. ap (λ c. is_named t (get_or rows k other) || (is_named d.number (get_or rows k other) && c)) e ∙ old_only (is_named t (get_or rows k other)) (is_named d.number (get_or rows k other))) ∙ or_none (position (is_named t) rows)
          by true e =
              let none = none_passes (is_named t) rows (gained_new rows d numbered given known t e) in
              placed_alike (named_now t) (is_named d.number) rows (λ k other h. new_only (is_named t (get_or rows k other)) (is_named d.number (get_or rows k other)) _ (none k other h) e)
              ∙ placed
              ∙ sym (ap (λ o. option_or o (Some at)) (unplaced (is_named t) rows none))
