-- A definition of an attribute type adds what it says to a table, and changes no type that was known.
use Rattle.std.proofs.Common.{◌≡◌, ℕ, zero, suc, Bool, true, false, not, ◌&&◌, ◌||◌, List, [], ◌∷◌, ◌++◌, map, length, Option, Some, None, is_some, cond, get_or, nat_le, refl, sym, ap, subst, ◌∙◌, true≢false, arith}
use Rattle.std.specs.List.{All, filter, find, list_all, list_any}
use Rattle.std.specs.Option.{option_map, option_or}
use Rattle.std.specs.Str.{str_eq_ignore_ascii_case, str_to_ascii_lowercase}
use Rattle.std.proofs.lemmas.List.Folds.{find-append, list_all-append, list_any-append, list_any_at}
use Rattle.std.proofs.lemmas.Map.Views.{any-filter_same}
use Rattle.std.proofs.lemmas.Slice.Eq.{bytes_eq-Decides}
use Rattle.std.proofs.lemmas.Str.Ascii.{lowercase-lowercase}
use Rattle.dir_names.specs.declared.schema.definition.TypeDefinition.{TypeDefinition}
use Rattle.dir_names.specs.declared.schema.Rule.{Rule}
use Rattle.dir_names.specs.declared.schema.TypeRow.{TypeRow}
use Rattle.dir_names.specs.Descriptions.{is_descr, is_reserved}
use Rattle.dir_names.specs.NameKeys.{attr_of}
use Rattle.dir_names.specs.Orders.{bytes_eq, bytes_eq_decides}
use Rattle.dir_names.specs.Table.{key_in, row_named, row_of, rule_in, single_in, type_key_of}
use Rattle.dir_names.specs.Types.Adding.{IsAddition, KeepsTypes, gaining, is_free, is_table, key_given, may_be_added, may_be_given, names_given, names_it, new_names, new_row, primary_name, rule_by, table_with, with_names}
use Rattle.dir_names.proofs.Both.{left, right}
use Rattle.dir_names.proofs.Scopes.{named_alike}

-- ---- options

some_is : {X : Type 0} (x y : X) → Some x ≡ Some y → x ≡ y
some_is {X} x y e = ap (λ (o : Option X). by o) e
  where
    by : Option X → X
    by (Some z) = z
    by None = x

pub not_both : {X C : Type 0} (x : X) (o : Option X) → o ≡ None → o ≡ Some x → C
not_both x o none e = absurd (true≢false (sym (ap is_some e) ∙ ap is_some none))

-- ---- lists

module _ {X : Type 0} where
  module _ (P : X → Type 0) where
    all_none : All P []
    all_none k d h = absurd (omega (arith, h))

    all_head : (x : X) (xs : List X) → All P (x ∷ xs) → P x
    all_head x xs a = a 0 x (omega arith)

    all_tail : (x : X) (xs : List X) → All P (x ∷ xs) → All P xs
    all_tail x xs a k d h = a (suc k) d (omega (arith, h))

    all_cons : (x : X) (xs : List X) → P x → All P xs → All P (x ∷ xs)
    all_cons x xs p a zero d h = p
    all_cons x xs p a (suc k) d h = a k d (omega (arith, h))

    all_append : (xs ys : List X) → All P xs → All P ys → All P (xs ++ ys)
    all_append [] ys a b = b
    all_append (x ∷ xs) ys a b = all_cons x (xs ++ ys) (all_head x xs a) (all_append xs ys (all_tail x xs a) b)

    all_so : (Q : X → Type 0) (xs : List X) → ((x : X) → P x → Q x) → All P xs → All Q xs
    all_so Q xs f a k d h = f _ (a k d h)

  all_pass : (p : X → Bool) (xs : List X) → list_all p xs ≡ true → All (λ x. p x ≡ true) xs
  all_pass p [] e = all_none (λ x. p x ≡ true)
  all_pass p (x ∷ xs) e = all_cons (λ y. p y ≡ true) x xs (left (p x) (list_all p xs) e) (all_pass p xs (right (p x) (list_all p xs) e))

  all_kept : (p : X → Bool) (xs : List X) → All (λ x. p x ≡ true) (filter p xs)
  all_kept p [] = all_none (λ x. p x ≡ true)
  all_kept p (x ∷ xs) = by (all_kept p xs) (p x) refl
    where
      by : All (λ y. p y ≡ true) (filter p xs) → (b : Bool) → p x ≡ b → All (λ y. p y ≡ true) (cond b (x ∷ filter p xs) (filter p xs))
      by more true e = all_cons (λ y. p y ≡ true) x (filter p xs) e more
      by more false e = more

  -- one that passes has what each has
  picked : (Q : X → Type 0) (p : X → Bool) (xs : List X) → All Q xs → list_any p xs ≡ true → (x : X) × (p x ≡ true) × Q x
  picked Q p [] a e = absurd (true≢false (sym e))
  picked Q p (x ∷ xs) a e = by (picked Q p xs (all_tail Q x xs a)) (p x) refl e
    where
      by : (list_any p xs ≡ true → (y : X) × (p y ≡ true) × Q y) → (b : Bool) → p x ≡ b → (b || list_any p xs) ≡ true → (y : X) × (p y ≡ true) × Q y
      by more true s e = (x, s, all_head Q x xs a)
      by more false s e = more e

  find_map : {Y : Type 0} (f : X → Y) (p : Y → Bool) (xs : List X) → find p (map f xs) ≡ option_map f (find (λ x. p (f x)) xs)
  find_map f p [] = refl
  find_map {Y} f p (x ∷ xs) = by (find_map f p xs) (p (f x))
    where
      by : find p (map f xs) ≡ option_map f (find (λ y. p (f y)) xs) → (b : Bool) → cond b (Some (f x)) (find p (map f xs)) ≡ option_map f (cond b (Some x) (find (λ y. p (f y)) xs))
      by more true = refl
      by more false = more

  pub find_alike : (p q : X → Bool) (xs : List X) → All (λ x. p x ≡ q x) xs → find p xs ≡ find q xs
  find_alike p q [] a = refl
  find_alike p q (x ∷ xs) a = λ i. cond (all_head (λ y. p y ≡ q y) x xs a i) (Some x) (find_alike p q xs (all_tail (λ y. p y ≡ q y) x xs a) i)

  none_found : (p : X → Bool) (xs : List X) → All (λ x. p x ≡ false) xs → find p xs ≡ None
  none_found p [] a = refl
  none_found p (x ∷ xs) a = λ i. cond (all_head (λ y. p y ≡ false) x xs a i) (Some x) (none_found p xs (all_tail (λ y. p y ≡ false) x xs a) i)

  pub none_passes : (p : X → Bool) (xs : List X) → find p xs ≡ None → All (λ x. p x ≡ false) xs
  none_passes p [] e = all_none (λ x. p x ≡ false)
  none_passes p (x ∷ xs) e = by (none_passes p xs) (p x) refl e
    where
      by : (find p xs ≡ None → All (λ y. p y ≡ false) xs) → (b : Bool) → p x ≡ b → cond b (Some x) (find p xs) ≡ None → All (λ y. p y ≡ false) (x ∷ xs)
      by more true s e = not_both x (Some x) e refl
      by more false s e = all_cons (λ y. p y ≡ false) x xs s (more e)

  -- where one test finds an element that the other passes, the other finds one
  found_too : (p q : X → Bool) (xs : List X) (x : X) → find p xs ≡ Some x → q x ≡ true → is_some (find q xs) ≡ true
  found_too p q [] x e s = not_both x None refl e
  found_too p q (y ∷ ys) x e s = by (λ f. found_too p q ys x f s) (p y) e
    where
      found : is_some (find q ys) ≡ true → (b : Bool) → is_some (cond b (Some y) (find q ys)) ≡ true
      found more true = refl
      found more false = more

      by : (find p ys ≡ Some x → is_some (find q ys) ≡ true) → (b : Bool) → cond b (Some y) (find p ys) ≡ Some x → is_some (cond (q y) (Some y) (find q ys)) ≡ true
      by more true e = subst (λ b. is_some (cond b (Some y) (find q ys)) ≡ true) (sym (ap q (some_is y x e) ∙ s)) refl
      by more false e = found (more e) (q y)

all_map : {X Y : Type 0} (P : Y → Type 0) (f : X → Y) (xs : List X) → All (λ x. P (f x)) xs → All P (map f xs)
all_map P f [] a = all_none P
all_map P f (x ∷ xs) a = all_cons P (f x) (map f xs) (all_head (λ y. P (f y)) x xs a) (all_map P f xs (all_tail (λ y. P (f y)) x xs a))

-- ---- texts

same : (t : List ℕ) → bytes_eq t t ≡ true
same t = (bytes_eq_decides t t).1 refl

alike_itself : (t : List ℕ) → str_eq_ignore_ascii_case t t ≡ true
alike_itself t = (bytes_eq-Decides (str_to_ascii_lowercase t) (str_to_ascii_lowercase t)).1 refl

lower_lower : (t : List ℕ) → str_to_ascii_lowercase (str_to_ascii_lowercase t) ≡ str_to_ascii_lowercase t
lower_lower [] = refl
lower_lower (b ∷ bs) = λ i. lowercase-lowercase b i ∷ lower_lower bs i

alike_lower : (t : List ℕ) → str_eq_ignore_ascii_case t (str_to_ascii_lowercase t) ≡ true
alike_lower t = (bytes_eq-Decides (str_to_ascii_lowercase t) (str_to_ascii_lowercase (str_to_ascii_lowercase t))).1 (sym (lower_lower t))

abbrev named : List ℕ → TypeRow → Bool
named t row = list_any (λ name. str_eq_ignore_ascii_case name t) row.names

-- ---- tables

abbrev names_none : List TypeRow → List ℕ → Bool
names_none rows name = not (is_some (row_named rows name))

none_is : (o : Option TypeRow) → not (is_some o) ≡ true → o ≡ None
none_is None e = refl
none_is (Some x) e = absurd (true≢false (sym e))

-- a row whose names name none of the others is not named as one of these is
pub apart : (row : TypeRow) (rows : List TypeRow) → list_all (names_none rows) row.names ≡ true → (t : List ℕ) → named t row ≡ true → row_named rows t ≡ None
apart row rows e t s =
    let found = picked (λ name. names_none rows name ≡ true) (λ name. str_eq_ignore_ascii_case name t) row.names (all_pass (names_none rows) row.names e) s in
    sym (named_alike rows found.0 t found.1) ∙ none_is (row_named rows found.0) found.2

own_names : (names : List (List ℕ)) → All (λ name. list_any (λ one. str_eq_ignore_ascii_case one name) names ≡ true) names
own_names names k d h = list_any_at (λ one. str_eq_ignore_ascii_case one (get_or names k d)) names k d h (alike_itself (get_or names k d))

all_passed : {X : Type 0} (p : X → Bool) (xs : List X) → All (λ x. p x ≡ true) xs → list_all p xs ≡ true
all_passed p [] a = refl
all_passed p (x ∷ xs) a = λ i. all_head (λ y. p y ≡ true) x xs a i && all_passed p xs (all_tail (λ y. p y ≡ true) x xs a) i

all_two : {X : Type 0} (P Q : X → Type 0) (xs : List X) → All P xs → All Q xs → All (λ x. P x × Q x) xs
all_two P Q xs a b k d h = (a k d h, b k d h)

-- each row is the one that its key names
pub keyed : (rows : List TypeRow) → is_table rows ≡ true → All (λ row. row_named rows row.key ≡ Some row) rows
keyed [] e = all_none (λ row. row_named [] row.key ≡ Some row)
keyed (row ∷ rows) e =
    all_cons (λ one. row_named (row ∷ rows) one.key ≡ Some one) row rows
    (ap (λ b. cond b (Some row) (row_named rows row.key)) (left own others here))
    (all_so (λ one. row_named rows one.key ≡ Some one) (λ one. row_named (row ∷ rows) one.key ≡ Some one) rows later (keyed rows (right (own && others) (is_table rows) e)))
  where
    own : Bool
    own = named row.key row

    others : Bool
    others = list_all (names_none rows) row.names

    here : (own && others) ≡ true
    here = left (own && others) (is_table rows) e

    later : (one : TypeRow) → row_named rows one.key ≡ Some one → row_named (row ∷ rows) one.key ≡ Some one
    later one s = by (named one.key row) refl
      where
        by : (b : Bool) → named one.key row ≡ b → cond b (Some row) (row_named rows one.key) ≡ Some one
        by true n = not_both one (row_named rows one.key) (apart row rows (right own others here) one.key n) s
        by false n = s

some_behind : (b : Bool) (row : TypeRow) (o : Option TypeRow) → is_some o ≡ true → is_some (cond b (Some row) o) ≡ true
some_behind true row o e = refl
some_behind false row o e = e

-- ---- what the definition calls the type

or_true : (b : Bool) → (b || true) ≡ true
or_true true = refl
or_true false = refl

or_false : (b : Bool) → (b || false) ≡ b
or_false true = refl
or_false false = refl

module _ (d : TypeDefinition) where
  -- the number is one of its names
  names_number : names_it d d.number ≡ true
  names_number = list_any-append (λ name. str_eq_ignore_ascii_case name d.number) d.names (d.number ∷ []) ∙ ap (λ b. list_any (λ name. str_eq_ignore_ascii_case name d.number) d.names || (b || false)) (alike_itself d.number) ∙ or_true _

  names_primary : (names : List (List ℕ)) → list_any (λ name. str_eq_ignore_ascii_case name (str_to_ascii_lowercase (primary_name d names))) (names ++ d.number ∷ []) ≡ true
  names_primary [] = ap (λ b. b || false) (alike_lower d.number)
  names_primary (name ∷ names) = ap (λ b. b || list_any (λ one. str_eq_ignore_ascii_case one (str_to_ascii_lowercase name)) (names ++ d.number ∷ [])) (alike_lower name)

  -- a text that it calls the type is a name of it or the number
  names_split : (t : List ℕ) → names_it d t ≡ (list_any (λ name. str_eq_ignore_ascii_case name t) d.names || str_eq_ignore_ascii_case d.number t)
  names_split t = list_any-append (λ name. str_eq_ignore_ascii_case name t) d.names (d.number ∷ []) ∙ ap (λ b. list_any (λ name. str_eq_ignore_ascii_case name t) d.names || b) (or_false _)

free_of : (rows : List TypeRow) (d : TypeDefinition) (name : List ℕ) → may_be_given rows d name ≡ true → is_free (row_named rows d.number) (row_named rows name) ≡ true
free_of rows d name e =
    right (not (is_reserved name)) (is_free (row_named rows d.number) (row_named rows name))
    (right (is_descr name && _) (not (is_reserved name) && is_free (row_named rows d.number) (row_named rows name)) e)

module _ (rows : List TypeRow) (d : TypeDefinition) (given : list_all (may_be_given rows d) d.names ≡ true) where
  free_names : All (λ name. is_free (row_named rows d.number) (row_named rows name) ≡ true) d.names
  free_names = all_so (λ name. may_be_given rows d name ≡ true) (λ name. is_free (row_named rows d.number) (row_named rows name) ≡ true) d.names (free_of rows d) (all_pass (may_be_given rows d) d.names given)

-- ---- a type that is known has a row by its key

has_row : (rows : List TypeRow) (t : List ℕ) → is_some (row_named rows t) ≡ true → is_some (row_of rows (attr_of rows t)) ≡ true
has_row rows t e = by (row_named rows t) refl e
  where
    by : (o : Option TypeRow) → row_named rows t ≡ o → is_some o ≡ true → is_some (find (λ row. bytes_eq row.key (key_in o t)) rows) ≡ true
    by (Some x) s e = found_too (named t) (λ (row : TypeRow). bytes_eq row.key x.key) rows x s (same x.key)
    by None s e = absurd (true≢false (sym e))

-- ---- a new type

first_stays : {X : Type 0} (o other : Option X) → is_some o ≡ true → option_or o other ≡ o
first_stays (Some x) other e = refl
first_stays None other e = absurd (true≢false (sym e))

free_none : (o : Option TypeRow) → is_free None o ≡ true → o ≡ None
free_none None e = refl
free_none (Some x) e = absurd (true≢false (sym e))

module _ (rows : List TypeRow) (d : TypeDefinition) (of_values : Rule) (given : list_all (may_be_given rows d) d.names ≡ true) (fresh : row_named rows d.number ≡ None) where
  abbrev pub row : TypeRow
  row = new_row d of_values

  abbrev pub now : List TypeRow
  now = rows ++ row ∷ []

  -- none of its names names anything
  unnamed : (t : List ℕ) → names_it d t ≡ true → row_named rows t ≡ None
  unnamed t e =
      let new : All (λ name. row_named rows name ≡ None) (names_given d) =
      all_append (λ name. row_named rows name ≡ None) d.names (d.number ∷ [])
      (all_so (λ name. is_free (row_named rows d.number) (row_named rows name) ≡ true) (λ name. row_named rows name ≡ None) d.names (λ name f. free_none (row_named rows name) (subst (λ o. is_free o (row_named rows name) ≡ true) fresh f)) (free_names rows d given))
      (all_cons (λ name. row_named rows name ≡ None) d.number [] fresh (all_none (λ name. row_named rows name ≡ None))) in
      let found = picked (λ name. row_named rows name ≡ None) (λ name. str_eq_ignore_ascii_case name t) (names_given d) new e in
      sym (named_alike rows found.0 t found.1) ∙ found.2

  named_now : (t : List ℕ) → row_named now t ≡ option_or (row_named rows t) (cond (names_it d t) (Some row) None)
  named_now t = find-append (named t) rows (row ∷ [])

  named_before : (t : List ℕ) → is_some (row_named rows t) ≡ true → row_named now t ≡ row_named rows t
  named_before t e = named_now t ∙ first_stays (row_named rows t) _ e

  named_new : (t : List ℕ) → names_it d t ≡ true → row_named now t ≡ Some row
  named_new t e = named_now t ∙ (λ i. option_or (unnamed t e i) (cond (e i) (Some row) None))

  attr_before : (t : List ℕ) → is_some (row_named rows t) ≡ true → attr_of now t ≡ attr_of rows t
  attr_before t e = λ i. record { attr_type = key_in (named_before t e i) t; options = [] }

  row_before : (t : List ℕ) → is_some (row_named rows t) ≡ true → row_of now (attr_of now t) ≡ row_of rows (attr_of rows t)
  row_before t e =
      ap (row_of now) (attr_before t e)
      ∙ find-append (λ (one : TypeRow). bytes_eq one.key (attr_of rows t).attr_type) rows (row ∷ [])
      ∙ first_stays (row_of rows (attr_of rows t)) _ (has_row rows t e)

  keeps_before : KeepsTypes rows now
  keeps_before = record {
    known = λ t e. ap is_some (named_before t e) ∙ e;
    key = λ t e. ap (λ o. key_in o t) (named_before t e);
    rule = λ t e. ap rule_in (row_before t e);
    single = λ t e. ap single_in (row_before t e);
  }

  own_key : row_named now row.key ≡ Some row
  own_key = named_new row.key (names_primary d d.names)

  table_from : (some : List TypeRow) → is_table some ≡ true → ((t : List ℕ) → is_some (row_named some t) ≡ true → names_it d t ≡ false) → is_table (some ++ row ∷ []) ≡ true
  table_from [] e differ = λ i. (names_primary d d.names i && all_passed (λ name. true) row.names (λ k d h. refl) i) && true
  table_from (one ∷ some) e differ = λ i. (left own others here i && all_passed (names_none (some ++ row ∷ [])) one.names (all_so (λ name. (names_none some name ≡ true) × (named name one ≡ true)) (λ name. names_none (some ++ row ∷ []) name ≡ true) one.names stays (all_two (λ name. names_none some name ≡ true) (λ name. named name one ≡ true) one.names (all_pass (names_none some) one.names (right own others here)) (own_names one.names))) i) && table_from some (right (own && others) (is_table some) e) (λ t s. differ t (some_behind (named t one) one (row_named some t) s)) i
    where
      own : Bool
      own = named one.key one

      others : Bool
      others = list_all (names_none some) one.names

      here : (own && others) ≡ true
      here = left (own && others) (is_table some) e

      stays : (name : List ℕ) → (names_none some name ≡ true) × (named name one ≡ true) → names_none (some ++ row ∷ []) name ≡ true
      stays name p =
          let none : row_named some name ≡ None = none_is (row_named some name) p.0 in
          let other : names_it d name ≡ false = differ name (ap (λ b. is_some (cond b (Some one) (row_named some name))) p.1) in
          ap (λ o. not (is_some o)) (find-append (named name) some (row ∷ []) ∙ (λ i. option_or (none i) (cond (other i) (Some row) None)))

  table_now : is_table rows ≡ true → is_table now ≡ true
  table_now e = table_from rows e differ
    where
      differ : (t : List ℕ) → is_some (row_named rows t) ≡ true → names_it d t ≡ false
      differ t s = by (names_it d t) refl
        where
          by : (b : Bool) → names_it d t ≡ b → b ≡ false
          by true n = absurd (true≢false (sym s ∙ ap is_some (unnamed t n)))
          by false n = refl

  -- no other type has its key
  new_key : is_table rows ≡ true → find (λ (one : TypeRow). bytes_eq one.key row.key) rows ≡ None
  new_key is = none_found (λ (one : TypeRow). bytes_eq one.key row.key) rows (all_so (λ (one : TypeRow). row_named rows one.key ≡ Some one) (λ (one : TypeRow). bytes_eq one.key row.key ≡ false) rows differs (keyed rows is))
    where
      differs : (one : TypeRow) → row_named rows one.key ≡ Some one → bytes_eq one.key row.key ≡ false
      differs one s = by (bytes_eq one.key row.key) refl
        where
          by : (b : Bool) → bytes_eq one.key row.key ≡ b → b ≡ false
          by false e = refl
          by true e = not_both one (row_named rows one.key) (ap (row_named rows) ((bytes_eq_decides one.key row.key).0 e) ∙ unnamed row.key (names_primary d d.names)) s

  number_new : row_named now d.number ≡ Some row
  number_new = named_new d.number (names_number d)

  row_new : is_table rows ≡ true → row_of now (attr_of now d.number) ≡ Some row
  row_new is =
      ap (λ o. find (λ (one : TypeRow). bytes_eq one.key (key_in o d.number)) now) number_new
      ∙ find-append (λ (one : TypeRow). bytes_eq one.key row.key) rows (row ∷ [])
      ∙ (λ i. option_or (new_key is i) (cond (same row.key i) (Some row) None))

  pub adds_new : is_table rows ≡ true → rule_by rows d.equality d.sup ≡ Some of_values → (is_table now ≡ true) × IsAddition rows d now
  adds_new is by_rule = (
    table_now is,
    record {
      keeps = keeps_before;
      named = λ t e. ap (λ o. key_in o t) (named_new t e) ∙ sym (ap (λ o. key_given o d) fresh);
      others = λ t e none. named_now t ∙ (λ i. option_or (none i) (cond (e i) (Some row) None));
      rule = λ _. by_rule ∙ sym (ap (λ o. Some (rule_in o)) (row_new is));
      single = λ _. ap single_in (row_new is);
    },
  )

-- ---- more names of a known type

module _ (rows : List TypeRow) (d : TypeDefinition) (numbered : TypeRow) (given : list_all (may_be_given rows d) d.names ≡ true) (known : row_named rows d.number ≡ Some numbered) where
  abbrev pub gained : List (List ℕ)
  gained = new_names rows d

  abbrev pub grown : TypeRow → TypeRow
  grown = gaining d gained

  abbrev pub now_known : List TypeRow
  now_known = map grown rows

  abbrev pub wider : TypeRow → TypeRow
  wider one = record { key = one.key; names = one.names ++ gained; rule = one.rule; single = one.single }

  key_stays : (one : TypeRow) → (grown one).key ≡ one.key
  key_stays one = by (named d.number one)
    where
      by : (b : Bool) → (cond b (wider one) one).key ≡ one.key
      by true = refl
      by false = refl

  rule_stays : (one : TypeRow) → (grown one).rule ≡ one.rule
  rule_stays one = by (named d.number one)
    where
      by : (b : Bool) → (cond b (wider one) one).rule ≡ one.rule
      by true = refl
      by false = refl

  single_stays : (one : TypeRow) → (grown one).single ≡ one.single
  single_stays one = by (named d.number one)
    where
      by : (b : Bool) → (cond b (wider one) one).single ≡ one.single
      by true = refl
      by false = refl

  abbrev pub is_gained : List ℕ → Bool
  is_gained t = list_any (λ name. str_eq_ignore_ascii_case name t) gained

  pub names_grown : (t : List ℕ) (one : TypeRow) → named t (grown one) ≡ (named t one || (named d.number one && is_gained t))
  names_grown t one = by (named d.number one)
    where
      by : (b : Bool) → named t (cond b (wider one) one) ≡ (named t one || (b && is_gained t))
      by true = list_any-append (λ name. str_eq_ignore_ascii_case name t) one.names gained
      by false = sym (or_false (named t one))

  pub gained_new : (t : List ℕ) → is_gained t ≡ true → row_named rows t ≡ None
  gained_new t e =
      let found = picked (λ name. not (is_some (row_named rows name)) ≡ true) (λ name. str_eq_ignore_ascii_case name t) gained (all_kept (λ name. not (is_some (row_named rows name))) d.names) e in
      sym (named_alike rows found.0 t found.1) ∙ none_is (row_named rows found.0) found.2

  -- of a text that names nothing, whether it is gained is whether it is one of the names
  gained_if : (t : List ℕ) → row_named rows t ≡ None → is_gained t ≡ list_any (λ name. str_eq_ignore_ascii_case name t) d.names
  gained_if t none = any-filter_same (λ name. str_eq_ignore_ascii_case name t) (λ name. not (is_some (row_named rows name))) true (λ name e. ap (λ o. not (is_some o)) (named_alike rows name t e ∙ none)) d.names

  old_in : (some : List TypeRow) (t : List ℕ) → is_gained t ≡ false → row_named (map grown some) t ≡ option_map grown (row_named some t)
  old_in some t e =
      find_map grown (named t) some
      ∙ (λ i. option_map grown (find (λ one. (names_grown t one ∙ ap (λ b. named t one || (named d.number one && b)) e ∙ and_none (named t one) (named d.number one)) i) some))
    where
      and_none : (a b : Bool) → (a || (b && false)) ≡ a
      and_none a true = or_false a
      and_none a false = or_false a

  named_old : (t : List ℕ) → is_gained t ≡ false → row_named now_known t ≡ option_map grown (row_named rows t)
  named_old t e = old_in rows t e

  named_gained : (t : List ℕ) → is_gained t ≡ true → row_named now_known t ≡ Some (grown numbered)
  named_gained t e =
      find_map grown (named t) rows
      ∙ ap (option_map grown) (find_alike (λ one. named t (grown one)) (named d.number) rows (all_so (λ one. named t one ≡ false) (λ one. named t (grown one) ≡ named d.number one) rows alike (none_passes (named t) rows (gained_new t e))))
      ∙ ap (option_map grown) known
    where
      and_all : (b : Bool) → (b && true) ≡ b
      and_all true = refl
      and_all false = refl

      alike : (one : TypeRow) → named t one ≡ false → named t (grown one) ≡ named d.number one
      alike one s = names_grown t one ∙ (λ i. s i || (named d.number one && e i)) ∙ and_all (named d.number one)

  named_kept : (t : List ℕ) → is_some (row_named rows t) ≡ true → row_named now_known t ≡ option_map grown (row_named rows t)
  named_kept t e = by (is_gained t) refl
    where
      by : (b : Bool) → is_gained t ≡ b → row_named now_known t ≡ option_map grown (row_named rows t)
      by true s = absurd (true≢false (sym e ∙ ap is_some (gained_new t s)))
      by false s = named_old t s

  some_grown : (o : Option TypeRow) → is_some (option_map grown o) ≡ is_some o
  some_grown None = refl
  some_grown (Some one) = refl

  key_grown : (t : List ℕ) (o : Option TypeRow) → key_in (option_map grown o) t ≡ key_in o t
  key_grown t None = refl
  key_grown t (Some one) = key_stays one

  rule_grown : (o : Option TypeRow) → rule_in (option_map grown o) ≡ rule_in o
  rule_grown None = refl
  rule_grown (Some one) = rule_stays one

  single_grown : (o : Option TypeRow) → single_in (option_map grown o) ≡ single_in o
  single_grown None = refl
  single_grown (Some one) = single_stays one

  key_kept : (t : List ℕ) → is_some (row_named rows t) ≡ true → type_key_of now_known t ≡ type_key_of rows t
  key_kept t e = ap (λ o. key_in o t) (named_kept t e) ∙ key_grown t (row_named rows t)

  row_kept : (t : List ℕ) → is_some (row_named rows t) ≡ true → row_of now_known (attr_of now_known t) ≡ option_map grown (row_of rows (attr_of rows t))
  row_kept t e =
      ap (λ key. find (λ (one : TypeRow). bytes_eq one.key key) now_known) (key_kept t e)
      ∙ find_map grown (λ (one : TypeRow). bytes_eq one.key (type_key_of rows t)) rows
      ∙ (λ i. option_map grown (find (λ one. bytes_eq (key_stays one i) (type_key_of rows t)) rows))

  keeps_known : KeepsTypes rows now_known
  keeps_known = record {
    known = λ t e. ap is_some (named_kept t e) ∙ some_grown (row_named rows t) ∙ e;
    key = key_kept;
    rule = λ t e. ap rule_in (row_kept t e) ∙ rule_grown (row_of rows (attr_of rows t));
    single = λ t e. ap single_in (row_kept t e) ∙ single_grown (row_of rows (attr_of rows t));
  }

  grown_from : (some : List TypeRow) → is_table some ≡ true → ((t : List ℕ) → is_some (row_named some t) ≡ true → is_gained t ≡ false) → is_table (map grown some) ≡ true
  grown_from [] e old = refl
  grown_from (one ∷ some) e old = λ i. (own_grown i && names_apart (named d.number one) refl i) && grown_from some (right (own && others) (is_table some) e) (λ t s. old t (some_behind (named t one) one (row_named some t) s)) i
    where
      own : Bool
      own = named one.key one

      others : Bool
      others = list_all (names_none some) one.names

      here : (own && others) ≡ true
      here = left (own && others) (is_table some) e

      own_grown : named (grown one).key (grown one) ≡ true
      own_grown = ap (λ key. named key (grown one)) (key_stays one) ∙ names_grown one.key one ∙ ap (λ b. b || (named d.number one && is_gained one.key)) (left own others here)

      stays : (name : List ℕ) → (names_none some name ≡ true) × (named name one ≡ true) → names_none (map grown some) name ≡ true
      stays name p =
          let none : row_named some name ≡ None = none_is (row_named some name) p.0 in
          let is_old : is_gained name ≡ false = old name (ap (λ b. is_some (cond b (Some one) (row_named some name))) p.1) in
          ap (λ o. not (is_some o)) (old_in some name is_old ∙ ap (option_map grown) none)

      old_apart : list_all (names_none (map grown some)) one.names ≡ true
      old_apart = all_passed (names_none (map grown some)) one.names (all_so (λ name. (names_none some name ≡ true) × (named name one ≡ true)) (λ name. names_none (map grown some) name ≡ true) one.names stays (all_two (λ name. names_none some name ≡ true) (λ name. named name one ≡ true) one.names (all_pass (names_none some) one.names (right own others here)) (own_names one.names)))

      -- what the row gains names no later row, since the number doesn't
      new_stays : named d.number one ≡ true → (name : List ℕ) → is_gained name ≡ true → names_none (map grown some) name ≡ true
      new_stays n name g = ap (λ o. not (is_some o)) (find_map grown (named name) some ∙ ap (option_map grown) (none_found (λ other. named name (grown other)) some (all_so (λ other. (named name other ≡ false) × (named d.number other ≡ false)) (λ other. named name (grown other) ≡ false) some fails (all_two (λ other. named name other ≡ false) (λ other. named d.number other ≡ false) some (none_passes (named name) some unknown) (none_passes (named d.number) some (apart one some (right own others here) d.number n))))))
        where
          fails : (other : TypeRow) → (named name other ≡ false) × (named d.number other ≡ false) → named name (grown other) ≡ false
          fails other p = names_grown name other ∙ (λ i. p.0 i || (p.1 i && is_gained name))

          unknown : row_named some name ≡ None
          unknown = by (row_named some name) refl
            where
              by : (o : Option TypeRow) → row_named some name ≡ o → o ≡ None
              by None s = refl
              by (Some other) s = absurd (true≢false (sym g ∙ old name (some_behind (named name one) one (row_named some name) (ap is_some s))))

      names_apart : (b : Bool) → named d.number one ≡ b → list_all (names_none (map grown some)) (cond b (wider one) one).names ≡ true
      names_apart false n = old_apart
      names_apart true n = list_all-append (names_none (map grown some)) one.names gained ∙ (λ i. old_apart i && all_passed (names_none (map grown some)) gained (all_so (λ name. is_gained name ≡ true) (λ name. names_none (map grown some) name ≡ true) gained (new_stays n) (own_names gained)) i)

  table_now_known : is_table rows ≡ true → is_table now_known ≡ true
  table_now_known e = grown_from rows e old
    where
      old : (t : List ℕ) → is_some (row_named rows t) ≡ true → is_gained t ≡ false
      old t s = by (is_gained t) refl
        where
          by : (b : Bool) → is_gained t ≡ b → b ≡ false
          by true g = absurd (true≢false (sym s ∙ ap is_some (gained_new t g)))
          by false g = refl

  -- each of its names names it
  named_it : (t : List ℕ) → names_it d t ≡ true → type_key_of now_known t ≡ numbered.key
  named_it t e = by (row_named rows t) refl
    where
      number_is : (b c : Bool) → str_eq_ignore_ascii_case d.number t ≡ c → row_named rows t ≡ None → (b || c) ≡ true → b ≡ true
      number_is true c s none h = refl
      number_is false true s none h = not_both numbered (row_named rows t) none (sym (named_alike rows d.number t s) ∙ known)
      number_is false false s none h = h

      free : All (λ name. is_free (Some numbered) (row_named rows name) ≡ true) (names_given d)
      free =
          all_append (λ name. is_free (Some numbered) (row_named rows name) ≡ true) d.names (d.number ∷ [])
          (subst (λ o. All (λ name. is_free o (row_named rows name) ≡ true) d.names) known (free_names rows d given))
          (all_cons (λ name. is_free (Some numbered) (row_named rows name) ≡ true) d.number [] (ap (is_free (Some numbered)) known ∙ same numbered.key) (all_none (λ name. is_free (Some numbered) (row_named rows name) ≡ true)))

      by : (o : Option TypeRow) → row_named rows t ≡ o → type_key_of now_known t ≡ numbered.key
      by None none =
          let is : is_gained t ≡ true = gained_if t none ∙ number_is (list_any (λ name. str_eq_ignore_ascii_case name t) d.names) (str_eq_ignore_ascii_case d.number t) refl none (sym (names_split d t) ∙ e) in
          ap (λ o. key_in o t) (named_gained t is) ∙ key_stays numbered
      by (Some one) s =
          let found = picked (λ name. is_free (Some numbered) (row_named rows name) ≡ true) (λ name. str_eq_ignore_ascii_case name t) (names_given d) free e in
          let alike : is_free (Some numbered) (Some one) ≡ true = ap (is_free (Some numbered)) (sym s ∙ sym (named_alike rows found.0 t found.1)) ∙ found.2 in
          key_kept t (ap is_some s) ∙ ap (λ o. key_in o t) s ∙ sym ((bytes_eq_decides numbered.key one.key).0 alike)

  first_false : (a b : Bool) → (a || b) ≡ false → a ≡ false
  first_false false b h = refl
  first_false true b h = absurd (true≢false h)

  pub adds_names : is_table rows ≡ true → (is_table now_known ≡ true) × IsAddition rows d now_known
  adds_names is = (
    table_now_known is,
    record {
      keeps = keeps_known;
      named = λ t e. named_it t e ∙ sym (ap (λ o. key_given o d) known);
      others = λ t e none. named_old t (gained_if t none ∙ first_false _ _ (sym (names_split d t) ∙ e)) ∙ ap (option_map grown) none;
      rule = λ none. not_both numbered (row_named rows d.number) none known;
      single = λ none. not_both numbered (row_named rows d.number) none known;
    },
  )

-- ---- the whole

pub is_addition : (rows : List TypeRow) (d : TypeDefinition) (now : List TypeRow) → is_table rows ≡ true → table_with rows d ≡ Some now → (is_table now ≡ true) × IsAddition rows d now
is_addition rows d now is e = by (may_be_added rows d) refl e
  where
    with : (given : list_all (may_be_given rows d) d.names ≡ true) (o : Option TypeRow) → row_named rows d.number ≡ o → with_names rows d o ≡ Some now → (is_table now ≡ true) × IsAddition rows d now
    with given (Some numbered) known e = subst (λ r. (is_table r ≡ true) × IsAddition rows d r) (some_is _ now e) (adds_names rows d numbered given known is)
    with given None fresh e = ruled (rule_by rows d.equality d.sup) refl e
      where
        ruled : (o : Option Rule) → rule_by rows d.equality d.sup ≡ o → option_map (λ of_values. rows ++ new_row d of_values ∷ []) o ≡ Some now → (is_table now ≡ true) × IsAddition rows d now
        ruled (Some of_values) s e = subst (λ r. (is_table r ≡ true) × IsAddition rows d r) (some_is _ now e) (adds_new rows d of_values given fresh is s)
        ruled None s e = not_both now None refl e

    by : (b : Bool) → may_be_added rows d ≡ b → cond b (with_names rows d (row_named rows d.number)) None ≡ Some now → (is_table now ≡ true) × IsAddition rows d now
    by true added e = with (right (nat_le (length d.number) 512) (list_all (may_be_given rows d) d.names) added) (row_named rows d.number) refl e
    by false added e = not_both now None refl e
