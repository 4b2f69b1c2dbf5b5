-- What is read is what the grammar relates.
use Rattle.std.proofs.Common.{◌≡◌, ℕ, zero, suc, ◌+◌, ◌*◌, ◌≤◌, Bool, true, false, cond, not, List, [], ◌∷◌, ◌++◌, length, get_or, replicate, Option, Some, None, Ok, Err, refl, ap, sym, subst, ◌∙◌, append_assoc, arith}
use Rattle.std.specs.Prelude.{◌==◌, ◌&&◌, nat_lt}
use Rattle.std.specs.List.{onto_first, join_with_byte, before_first, after_first, position_or_len}
use Rattle.std.specs.Option.{option_map}
use Rattle.std.proofs.lemmas.List.Sums.{split_at_first, passes_at_first}
use Rattle.std.proofs.lemmas.Bool.{ltb-true, eqb-true, eqb-false, and_parts}
use Rattle.std.specs.Prelude.{IfOk, Result}
use Rattle.dir_names.specs.declared.fault.NameFault.{NameFault}
use Rattle.dir_names.specs.declared.fault.NameFault.TheVariants.{BadDescription, ReservedName, BadValue, BadDn, NameLimit, Memory, BadType}
use Rattle.dir_names.specs.Outcome.{Gives}
use Rattle.dir_names.specs.declared.name.reading.Place.TheVariants.{Outside, AfterBackslash, AfterDigit}
use Rattle.dir_names.specs.declared.name.reading.Step.TheVariants.{Space, Byte, Inside, Refused}
use Rattle.dir_names.specs.Descriptions.{is_type, is_reserved}
use Rattle.dir_names.specs.Names.{SpelledPair, SpelledRdn, SpelledName}
use Rattle.dir_names.specs.Names.Reading.{begins_with_hash, name_of, name_within_limits, only_rdn, only_rdn_of, pair_from, pair_of, pieces, rdn_of, rdn_within_limit, value_of}
use Rattle.dir_names.specs.Inside.Steps.{with_space, value_after_step, value_from}
use Rattle.dir_names.specs.Results.{option_collect, option_cons}
use Rattle.dir_names.specs.Names.Limits.{is_rdn_within_limit, is_within_limits, ok_if_within}
use Rattle.dir_names.specs.Names.Escapes.{is_hex, hex_of, is_refused, is_escapable}
use Rattle.dir_names.specs.ValueKeys.Spaces.{without_leading_spaces, without_trailing_spaces}
use Rattle.dir_names.specs.Names.Spells.{SpellsByte, SpellsBytes, BeginsValue, SpellsPair, SpellsRdn, SpellsRdns, Spells}
use Rattle.dir_names.specs.Names.Spells.{digits, sign, plain, none, byte, inner_space, trailing_space, empty, begins, pair, last_pair, pair_before, last_rdn, rdn_before, nothing, rdns}
use Rattle.dir_names.proofs.PieceLemmas.{onto, some_piece}
use Rattle.dir_names.proofs.SpellsReads.{spells_reads, only_rdn_reads}

-- ---- values

-- what was mapped to a value
mapped : {A B : Type 0} (f : A → B) (x : Option A) (y : B) → option_map f x ≡ Some y → (z : A) × (x ≡ Some z) × (f z ≡ y)
mapped f None y e = absurd (cc)
mapped f (Some z) y e = (z, refl, cc)

-- texts of at most n bytes

module _ (n : ℕ) (rec : (text value : List ℕ) → length text ≤ n → value_from Outside text ≡ Some value → SpellsBytes text value) where
  -- a byte that a text stands for, before the rest
  before : (x : List ℕ) (b : ℕ) (t value : List ℕ) → SpellsByte x b → length t ≤ n → option_map (λ bs. b ∷ bs) (value_from Outside t) ≡ Some value → SpellsBytes (x ++ t) value
  before x b t value s h e =
      let m = mapped (λ bs. b ∷ bs) (value_from Outside t) value e in
      subst (SpellsBytes (x ++ t)) m.2 (byte x b t m.0 s (rec t m.0 h m.1))

  second : (h : ℕ) → is_hex h ≡ true → (t value : List ℕ) → length t ≤ suc n → value_from (AfterDigit (hex_of h)) t ≡ Some value → SpellsBytes (92 ∷ h ∷ t) value
  second h e [] value l f = absurd (cc)
  second h e (d ∷ t) value l f = by (is_hex d) refl f
    where
      by : (x : Bool) → is_hex d ≡ x → value_after_step (cond x (Byte (hex_of h * 16 + hex_of d)) Refused) (λ next. value_from next t) ≡ Some value → SpellsBytes (92 ∷ h ∷ d ∷ t) value
      by true g k = before (92 ∷ h ∷ d ∷ []) (hex_of h * 16 + hex_of d) t value (digits h d e g) (omega arith) k
      by false g k = absurd (cc)

  escape : (t value : List ℕ) → length t ≤ suc n → value_from AfterBackslash t ≡ Some value → SpellsBytes (92 ∷ t) value
  escape [] value l f = absurd (cc)
  escape (d ∷ t) value l f = by (is_hex d) refl (is_escapable d) refl f
    where
      by : (x : Bool) → is_hex d ≡ x → (y : Bool) → is_escapable d ≡ y → value_after_step (cond x (Inside (AfterDigit (hex_of d))) (cond y (Byte d) Refused)) (λ next. value_from next t) ≡ Some value → SpellsBytes (92 ∷ d ∷ t) value
      by true g y k m = second d g t value (omega arith) m
      by false g true k m = before (92 ∷ d ∷ []) d t value (sign d k) (omega arith) m
      by false g false k m = absurd (cc)

  spaced : (t value : List ℕ) → length t ≤ n → option_map with_space (value_from Outside t) ≡ Some value → SpellsBytes (32 ∷ t) value
  spaced t value h e =
      let m = mapped with_space (value_from Outside t) value e in
      subst (SpellsBytes (32 ∷ t)) m.2 (by m.0 (rec t m.0 h m.1))
    where
      by : (v : List ℕ) → SpellsBytes t v → SpellsBytes (32 ∷ t) (with_space v)
      by [] s = trailing_space t s
      by (b ∷ bs) s = inner_space t b bs s

  outside : (b : ℕ) (t value : List ℕ) → length t ≤ n → value_from Outside (b ∷ t) ≡ Some value → SpellsBytes (b ∷ t) value
  outside b t value h e = by (b == 32) refl (b == 92) refl (is_refused b) refl e
    where
      by : (x : Bool) → (b == 32) ≡ x → (y : Bool) → (b == 92) ≡ y → (z : Bool) → is_refused b ≡ z → value_after_step (cond x Space (cond y (Inside AfterBackslash) (cond z Refused (Byte b)))) (λ next. value_from next t) ≡ Some value → SpellsBytes (b ∷ t) value
      by true p y q z r k = subst (λ c. SpellsBytes (c ∷ t) value) (sym (eqb-true b 32 p)) (spaced t value h k)
      by false p true q z r k = subst (λ c. SpellsBytes (c ∷ t) value) (sym (eqb-true b 92 q)) (escape t value (omega arith) k)
      by false p false q true r k = absurd (cc)
      by false p false q false r k = before (b ∷ []) b t value (plain b r (eqb-false b 32 p)) h k

spells_within : (n : ℕ) (text value : List ℕ) → length text ≤ n → value_from Outside text ≡ Some value → SpellsBytes text value
spells_within n [] value h e = let same : [] ≡ value = cc in subst (SpellsBytes []) same none
spells_within zero (b ∷ t) value h e = absurd (omega arith)
spells_within (suc n) (b ∷ t) value h e = outside n (λ x v k f. spells_within n x v k f) b t value (omega arith) e

pub reads_bytes : (text value : List ℕ) → value_from Outside text ≡ Some value → SpellsBytes text value
reads_bytes text value e = spells_within (length text) text value (omega arith) e

-- ---- pairs

front_split : (bs : List ℕ) → (n : ℕ) × (bs ≡ replicate n 32 ++ without_leading_spaces bs)
front_split [] = (0, refl)
front_split (b ∷ bs) = by (b == 32) refl (front_split bs)
  where
    by : (t : Bool) → (b == 32) ≡ t → ((n : ℕ) × (bs ≡ replicate n 32 ++ without_leading_spaces bs)) → (n : ℕ) × (b ∷ bs ≡ replicate n 32 ++ cond t (without_leading_spaces bs) (b ∷ bs))
    by true e w = (suc w.0, λ i. eqb-true b 32 e i ∷ w.1 i)
    by false e w = (0, refl)

all_spaces : (bs : List ℕ) → length (without_trailing_spaces bs) ≡ 0 → (n : ℕ) × (bs ≡ replicate n 32)
all_spaces [] e = (0, refl)
all_spaces (b ∷ bs) e = by (b == 32) refl (length (without_trailing_spaces bs) == 0) refl e (λ h. all_spaces bs h)
  where
    by : (t : Bool) → (b == 32) ≡ t → (u : Bool) → (length (without_trailing_spaces bs) == 0) ≡ u → length (cond (t && u) [] (b ∷ without_trailing_spaces bs)) ≡ 0 → (length (without_trailing_spaces bs) ≡ 0 → (n : ℕ) × (bs ≡ replicate n 32)) → (n : ℕ) × (b ∷ bs ≡ replicate n 32)
    by true p true q h rec = let w = rec (eqb-true (length (without_trailing_spaces bs)) 0 q) in (suc w.0, λ i. eqb-true b 32 p i ∷ w.1 i)
    by true p false q h rec = absurd (omega arith)
    by false p u q h rec = absurd (omega arith)

end_split : (bs : List ℕ) → (n : ℕ) × (bs ≡ without_trailing_spaces bs ++ replicate n 32)
end_split [] = (0, refl)
end_split (b ∷ bs) = by (b == 32 && length (without_trailing_spaces bs) == 0) refl (end_split bs)
  where
    by : (t : Bool) → (b == 32 && length (without_trailing_spaces bs) == 0) ≡ t → ((n : ℕ) × (bs ≡ without_trailing_spaces bs ++ replicate n 32)) → (n : ℕ) × (b ∷ bs ≡ cond t [] (b ∷ without_trailing_spaces bs) ++ replicate n 32)
    by true e w =
        let parts = and_parts (b == 32) (length (without_trailing_spaces bs) == 0) e in
        let rest = all_spaces bs (eqb-true (length (without_trailing_spaces bs)) 0 parts.1) in
        (suc rest.0, λ i. eqb-true b 32 parts.0 i ∷ rest.1 i)
    by false e w = (w.0, ap (λ l. b ∷ l) w.1)

begins_front : (bs : List ℕ) → begins_with_hash (without_leading_spaces bs) ≡ false → BeginsValue (without_leading_spaces bs)
begins_front [] e = empty
begins_front (b ∷ bs) e = by (b == 32) refl e (λ h. begins_front bs h)
  where
    by : (t : Bool) → (b == 32) ≡ t → begins_with_hash (cond t (without_leading_spaces bs) (b ∷ bs)) ≡ false → (begins_with_hash (without_leading_spaces bs) ≡ false → BeginsValue (without_leading_spaces bs)) → BeginsValue (cond t (without_leading_spaces bs) (b ∷ bs))
    by true p h rec = rec h
    by false p h rec = begins b bs (eqb-false b 32 p) (eqb-false b 35 h)

false_from_not : (b : Bool) → not b ≡ true → b ≡ false
false_from_not true e = absurd (cc)
false_from_not false e = refl

module _ (text : List ℕ) where
  abbrev kind_text : List ℕ
  kind_text = before_first (λ b. b == 61) text

  abbrev value_text : List ℕ
  value_text = after_first (λ b. b == 61) text

  spelled_value : (attr_type value : List ℕ) → value_of (without_leading_spaces value_text) ≡ Some value → BeginsValue (without_leading_spaces value_text) × SpellsBytes (without_leading_spaces value_text) value
  spelled_value attr_type value e = by (begins_with_hash (without_leading_spaces value_text)) refl e
    where
      by : (t : Bool) → begins_with_hash (without_leading_spaces (after_first (λ b. b == 61) text)) ≡ t → cond t None (value_from Outside (without_leading_spaces (after_first (λ b. b == 61) text))) ≡ Some value → BeginsValue (without_leading_spaces (after_first (λ b. b == 61) text)) × SpellsBytes (without_leading_spaces (after_first (λ b. b == 61) text)) value
      by true p h = absurd (cc)
      by false p h = (begins_front (after_first (λ b. b == 61) text) p, reads_bytes (without_leading_spaces (after_first (λ b. b == 61) text)) value h)

  -- the text, put together of its parts
  parted : text ≡ kind_text ++ 61 ∷ value_text → (attr_type value : List ℕ) → attr_type ≡ without_trailing_spaces (without_leading_spaces kind_text) → is_type attr_type ≡ true → is_reserved attr_type ≡ false → BeginsValue (without_leading_spaces value_text) → SpellsBytes (without_leading_spaces value_text) value → SpellsPair text (attr_type, value)
  parted e attr_type value k typed free start s =
      let front = front_split kind_text in
      let end = end_split (without_leading_spaces kind_text) in
      let after = front_split value_text in
      let whole : text ≡ replicate front.0 32 ++ (attr_type ++ (replicate end.0 32 ++ 61 ∷ (replicate after.0 32 ++ without_leading_spaces value_text))) =
      e ∙ (λ i. front.1 i ++ 61 ∷ after.1 i) ∙ (λ i. (replicate front.0 32 ++ end.1 i) ++ 61 ∷ (replicate after.0 32 ++ without_leading_spaces value_text))
      ∙ (λ i. (replicate front.0 32 ++ (sym k i ++ replicate end.0 32)) ++ 61 ∷ (replicate after.0 32 ++ without_leading_spaces value_text))
      ∙ append_assoc (replicate front.0 32) (attr_type ++ replicate end.0 32) (61 ∷ (replicate after.0 32 ++ without_leading_spaces value_text))
      ∙ ap (λ l. replicate front.0 32 ++ l) (append_assoc attr_type (replicate end.0 32) (61 ∷ (replicate after.0 32 ++ without_leading_spaces value_text))) in
      subst (λ t. SpellsPair t (attr_type, value)) (sym whole) (pair front.0 end.0 after.0 attr_type (without_leading_spaces value_text) value typed free start s)

  joined_text : nat_lt (position_or_len (λ b. b == 61) text) (length text) ≡ true → text ≡ kind_text ++ 61 ∷ value_text
  joined_text e =
      let inside = ltb-true (position_or_len (λ b. b == 61) text) (length text) e in
      split_at_first (λ b. b == 61) text 0 inside
      ∙ ap (λ c. before_first (λ b. b == 61) text ++ c ∷ after_first (λ b. b == 61) text) (eqb-true (get_or text (position_or_len (λ b. b == 61) text) 0) 61 (passes_at_first (λ b. b == 61) text 0 inside))

pub reads_pair : (text : List ℕ) (p : SpelledPair) → pair_of text ≡ Some p → SpellsPair text p
reads_pair text p e = by (nat_lt (position_or_len (λ b. b == 61) text) (length text)) refl e
  where
    typed : text ≡ before_first (λ b. b == 61) text ++ 61 ∷ after_first (λ b. b == 61) text → (attr_type : List ℕ) → attr_type ≡ without_trailing_spaces (without_leading_spaces (before_first (λ b. b == 61) text)) → (t : Bool) → (is_type attr_type && not (is_reserved attr_type)) ≡ t → cond t (option_map (λ bytes. (attr_type, bytes)) (value_of (without_leading_spaces (after_first (λ b. b == 61) text)))) None ≡ Some p → SpellsPair text p
    typed w attr_type k true g h =
        let m = mapped (λ bytes. (attr_type, bytes)) (value_of (without_leading_spaces (after_first (λ b. b == 61) text))) p h in
        let parts = and_parts (is_type attr_type) (not (is_reserved attr_type)) g in
        let v = spelled_value text attr_type m.0 m.1 in
        subst (SpellsPair text) m.2 (parted text w attr_type m.0 k parts.0 (false_from_not (is_reserved attr_type) parts.1) v.0 v.1)
    typed w attr_type k false g h = absurd (cc)

    by : (t : Bool) → nat_lt (position_or_len (λ b. b == 61) text) (length text) ≡ t → pair_from (without_trailing_spaces (without_leading_spaces (before_first (λ b. b == 61) text))) (cond t (Some (after_first (λ b. b == 61) text)) None) ≡ Some p → SpellsPair text p
    by true g h =
        let attr_type = without_trailing_spaces (without_leading_spaces (before_first (λ b. b == 61) text)) in
        typed (joined_text text g) attr_type refl (is_type attr_type && not (is_reserved attr_type)) refl h
    by false g h = absurd (cc)

-- ---- RDNs and names

join_cut : (separator : ℕ) (ps : List (List ℕ)) → ps ≡ onto [] ps → join_with_byte separator ([] ∷ ps) ≡ separator ∷ join_with_byte separator ps
join_cut separator [] e = absurd (cc)
join_cut separator (p ∷ ps) e = refl

join_first : (separator b : ℕ) (ps : List (List ℕ)) → ps ≡ onto [] ps → join_with_byte separator (onto_first b ps) ≡ b ∷ join_with_byte separator ps
join_first separator b [] e = absurd (cc)
join_first separator b (p ∷ []) e = refl
join_first separator b (p ∷ q ∷ qs) e = refl

pub pieces_join : (separator : ℕ) (escaped : Bool) (text : List ℕ) → join_with_byte separator (pieces separator escaped text) ≡ text
pieces_join separator escaped [] = refl
pieces_join separator escaped (b ∷ bs) = by (not escaped && (b == separator)) refl (pieces_join separator false bs) (pieces_join separator (not escaped && (b == 92)) bs)
  where
    by : (t : Bool) → (not escaped && (b == separator)) ≡ t → join_with_byte separator (pieces separator false bs) ≡ bs → join_with_byte separator (pieces separator (not escaped && (b == 92)) bs) ≡ bs → join_with_byte separator (cond t ([] ∷ pieces separator false bs) (onto_first b (pieces separator (not escaped && (b == 92)) bs))) ≡ b ∷ bs
    by true e h k =
        join_cut separator (pieces separator false bs) (some_piece separator false bs)
        ∙ (λ i. sym (eqb-true b separator (and_parts (not escaped) (b == separator) e).1) i ∷ h i)
    by false e h k = join_first separator b (pieces separator (not escaped && (b == 92)) bs) (some_piece separator (not escaped && (b == 92)) bs) ∙ ap (λ l. b ∷ l) k

-- both parts of what was read
both_read : {B : Type 0} (x : Option B) (xs : Option (List B)) (ys : List B) → option_cons x xs ≡ Some ys → (y : B) × (zs : List B) × (x ≡ Some y) × (xs ≡ Some zs) × (y ∷ zs ≡ ys)
both_read None xs ys e = absurd (cc)
both_read (Some y) None ys e = absurd (cc)
both_read (Some y) (Some zs) ys e = (y, zs, refl, refl, cc)

rdn_from : (text : List ℕ) (more : List (List ℕ)) (ps : SpelledRdn) → option_collect pair_of (text ∷ more) ≡ Some ps → SpellsRdn (join_with_byte 43 (text ∷ more)) ps
rdn_from text [] ps e =
    let m = both_read (pair_of text) (Some []) ps e in
    let none : [] ≡ m.1 = (let same = m.3 in cc) in
    subst (SpellsRdn text) (ap (λ zs. m.0 ∷ zs) none ∙ m.4) (last_pair text m.0 (reads_pair text m.0 m.2))
rdn_from text (next ∷ more) ps e =
    let m = both_read (pair_of text) (option_collect pair_of (next ∷ more)) ps e in
    subst (SpellsRdn (join_with_byte 43 (text ∷ next ∷ more))) m.4 (pair_before text m.0 (join_with_byte 43 (next ∷ more)) m.1 (reads_pair text m.0 m.2) (rdn_from next more m.1 m.3))

pub reads_rdn : (text : List ℕ) (ps : SpelledRdn) → rdn_of text ≡ Some ps → SpellsRdn text ps
reads_rdn text ps e = subst (λ t. SpellsRdn t ps) (pieces_join 43 false text) (by (pieces 43 false text) (some_piece 43 false text) e)
  where
    by : (xs : List (List ℕ)) → xs ≡ onto [] xs → option_collect pair_of xs ≡ Some ps → SpellsRdn (join_with_byte 43 xs) ps
    by [] h f = absurd (cc)
    by (x ∷ xs) h f = rdn_from x xs ps f

rdns_from : (text : List ℕ) (more : List (List ℕ)) (name : SpelledName) → option_collect rdn_of (text ∷ more) ≡ Some name → SpellsRdns (join_with_byte 44 (text ∷ more)) name
rdns_from text [] name e =
    let m = both_read (rdn_of text) (Some []) name e in
    let none : [] ≡ m.1 = (let same = m.3 in cc) in
    subst (SpellsRdns text) (ap (λ zs. m.0 ∷ zs) none ∙ m.4) (last_rdn text m.0 (reads_rdn text m.0 m.2))
rdns_from text (next ∷ more) name e =
    let m = both_read (rdn_of text) (option_collect rdn_of (next ∷ more)) name e in
    subst (SpellsRdns (join_with_byte 44 (text ∷ next ∷ more))) m.4 (rdn_before text m.0 (join_with_byte 44 (next ∷ more)) m.1 (reads_rdn text m.0 m.2) (rdns_from next more m.1 m.3))

reads_rdns : (text : List ℕ) (name : SpelledName) → option_collect rdn_of (pieces 44 false text) ≡ Some name → SpellsRdns text name
reads_rdns text name e = subst (λ t. SpellsRdns t name) (pieces_join 44 false text) (by (pieces 44 false text) (some_piece 44 false text) e)
  where
    by : (xs : List (List ℕ)) → xs ≡ onto [] xs → option_collect rdn_of xs ≡ Some name → SpellsRdns (join_with_byte 44 xs) name
    by [] h f = absurd (cc)
    by (x ∷ xs) h f = rdns_from x xs name f

pub reads_spells : (text : List ℕ) (name : SpelledName) → name_of text ≡ Some name → Spells text name
reads_spells [] name e = let same : [] ≡ name = cc in subst (Spells []) same nothing
reads_spells (b ∷ bs) name e = rdns (b ∷ bs) name (reads_rdns (b ∷ bs) name e)

-- ---- what the answers of `read` say in the grammar's words

limited_ok : {A : Type 0} (is_within : A → Bool) (o : Option A) (x : A) → ok_if_within is_within o ≡ Ok x → (o ≡ Some x) × (is_within x ≡ true)
limited_ok is_within None x e = absurd (cc)
limited_ok is_within (Some y) x e = by (is_within y) refl e
  where
    by : (b : Bool) → is_within y ≡ b → cond b (Ok y) (Err NameLimit) ≡ Ok x → (Some y ≡ Some x) × (is_within x ≡ true)
    by true g h = let same : y ≡ x = cc in (ap Some same, ap is_within (sym same) ∙ g)
    by false g h = absurd (cc)

limited_bad : {A : Type 0} (is_within : A → Bool) (o : Option A) → ok_if_within is_within o ≡ Err BadDn → o ≡ None
limited_bad is_within None e = refl
limited_bad is_within (Some y) e = by (is_within y) e
  where
    by : (b : Bool) → cond b (Ok y) (Err NameLimit) ≡ Err BadDn → Some y ≡ None
    by true h = absurd (cc)
    by false h = absurd (cc)

limited_past : {A : Type 0} (is_within : A → Bool) (o : Option A) → ok_if_within is_within o ≡ Err NameLimit → (x : A) × (o ≡ Some x) × (is_within x ≡ false)
limited_past is_within None e = absurd (cc)
limited_past {A} is_within (Some y) e = by (is_within y) refl e
  where
    by : (b : Bool) → is_within y ≡ b → cond b (Ok y) (Err NameLimit) ≡ Err NameLimit → (x : A) × (Some y ≡ Some x) × (is_within x ≡ false)
    by true g h = absurd (cc)
    by false g h = (y, refl, g)

pub read_spelled : (text : List ℕ) (name : SpelledName) → name_within_limits text ≡ Ok name → Spells text name × (is_within_limits name ≡ true)
read_spelled text name e = let w = limited_ok is_within_limits (name_of text) name e in (reads_spells text name w.0, w.1)

pub read_no_name : (text : List ℕ) → name_within_limits text ≡ Err BadDn → (name : SpelledName) → Spells text name → ⊥
read_no_name text e name s =
    let none = limited_bad is_within_limits (name_of text) e in
    let some = spells_reads text name s in
    cc

pub read_past : (text : List ℕ) → name_within_limits text ≡ Err NameLimit → (name : SpelledName) × Spells text name × (is_within_limits name ≡ false)
read_past text e = let w = limited_past is_within_limits (name_of text) e in (w.0, reads_spells text w.0 w.1, w.2)

-- the same of a call's answer
module _ (text : List ℕ) where
  pub answer_spelled : (r : Result SpelledName NameFault) → Gives (λ name. name) r (name_within_limits text) → IfOk r (λ name. Spells text name × (is_within_limits name ≡ true))
  answer_spelled (Ok name) g = read_spelled text name g
  answer_spelled (Err e) g = tt

  pub answer_no_name : (r : Result SpelledName NameFault) → Gives (λ name. name) r (name_within_limits text) → r ≡ Err BadDn → (name : SpelledName) → Spells text name → ⊥
  answer_no_name (Ok name) g e = absurd (cc)
  answer_no_name (Err BadDn) g e = read_no_name text g
  answer_no_name (Err BadDescription) g e = absurd (cc)
  answer_no_name (Err ReservedName) g e = absurd (cc)
  answer_no_name (Err BadValue) g e = absurd (cc)
  answer_no_name (Err NameLimit) g e = absurd (cc)
  answer_no_name (Err Memory) g e = absurd (cc)
  answer_no_name (Err BadType) g e = absurd (cc)

  pub answer_past : (r : Result SpelledName NameFault) → Gives (λ name. name) r (name_within_limits text) → r ≡ Err NameLimit → (name : SpelledName) × Spells text name × (is_within_limits name ≡ false)
  answer_past (Ok name) g e = absurd (cc)
  answer_past (Err NameLimit) g e = read_past text g
  answer_past (Err BadDescription) g e = absurd (cc)
  answer_past (Err ReservedName) g e = absurd (cc)
  answer_past (Err BadValue) g e = absurd (cc)
  answer_past (Err BadDn) g e = absurd (cc)
  answer_past (Err Memory) g e = absurd (cc)
  answer_past (Err BadType) g e = absurd (cc)

-- ---- one RDN

pub reads_only_rdn : (text : List ℕ) (rdn : SpelledRdn) → only_rdn_of text ≡ Some rdn → SpellsRdn text rdn
reads_only_rdn text rdn e = by (pieces 44 false text) (pieces_join 44 false text) e
  where
    by : (ps : List (List ℕ)) → join_with_byte 44 ps ≡ text → only_rdn ps ≡ Some rdn → SpellsRdn text rdn
    by [] j f = absurd (cc)
    by (p ∷ []) j f = subst (λ t. SpellsRdn t rdn) j (reads_rdn p rdn f)
    by (p ∷ q ∷ ps) j f = absurd (cc)

module _ (text : List ℕ) where
  pub rdn_spelled : (r : Result SpelledRdn NameFault) → Gives (λ rdn. rdn) r (rdn_within_limit text) → IfOk r (λ rdn. SpellsRdn text rdn × (is_rdn_within_limit rdn ≡ true))
  rdn_spelled (Ok rdn) g = let w = limited_ok is_rdn_within_limit (only_rdn_of text) rdn g in (reads_only_rdn text rdn w.0, w.1)
  rdn_spelled (Err e) g = tt

  none_spelled : rdn_within_limit text ≡ Err BadDn → (rdn : SpelledRdn) → SpellsRdn text rdn → ⊥
  none_spelled e rdn s =
      let none = limited_bad is_rdn_within_limit (only_rdn_of text) e in
      let some = only_rdn_reads text rdn s in
      cc

  pub rdn_no_name : (r : Result SpelledRdn NameFault) → Gives (λ rdn. rdn) r (rdn_within_limit text) → r ≡ Err BadDn → (rdn : SpelledRdn) → SpellsRdn text rdn → ⊥
  rdn_no_name (Ok rdn) g e = absurd (cc)
  rdn_no_name (Err BadDn) g e = none_spelled g
  rdn_no_name (Err BadDescription) g e = absurd (cc)
  rdn_no_name (Err ReservedName) g e = absurd (cc)
  rdn_no_name (Err BadValue) g e = absurd (cc)
  rdn_no_name (Err NameLimit) g e = absurd (cc)
  rdn_no_name (Err Memory) g e = absurd (cc)
  rdn_no_name (Err BadType) g e = absurd (cc)

  rdn_large : rdn_within_limit text ≡ Err NameLimit → (rdn : SpelledRdn) × SpellsRdn text rdn × (is_rdn_within_limit rdn ≡ false)
  rdn_large e = let w = limited_past is_rdn_within_limit (only_rdn_of text) e in (w.0, reads_only_rdn text w.0 w.1, w.2)

  pub rdn_past : (r : Result SpelledRdn NameFault) → Gives (λ rdn. rdn) r (rdn_within_limit text) → r ≡ Err NameLimit → (rdn : SpelledRdn) × SpellsRdn text rdn × (is_rdn_within_limit rdn ≡ false)
  rdn_past (Ok rdn) g e = absurd (cc)
  rdn_past (Err NameLimit) g e = rdn_large g
  rdn_past (Err BadDescription) g e = absurd (cc)
  rdn_past (Err ReservedName) g e = absurd (cc)
  rdn_past (Err BadValue) g e = absurd (cc)
  rdn_past (Err BadDn) g e = absurd (cc)
  rdn_past (Err Memory) g e = absurd (cc)
  rdn_past (Err BadType) g e = absurd (cc)

-- ---- and what the grammar relates, within the limits, is answered

within : {A : Type 0} (is_within : A → Bool) (o : Option A) (x : A) → o ≡ Some x → is_within x ≡ true → ok_if_within is_within o ≡ Ok x
within is_within o x e w = ap (ok_if_within is_within) e ∙ ap (λ b. cond b (Ok x) (Err NameLimit)) w

pub name_exact : (text : List ℕ) (r : Result SpelledName NameFault) → Gives (λ name. name) r (name_within_limits text) → (name : SpelledName) → Spells text name → is_within_limits name ≡ true → Gives (λ name. name) r (Ok name)
name_exact text r g name s w = subst (λ (a : Result SpelledName NameFault). Gives (λ (n : SpelledName). n) r a) (within is_within_limits (name_of text) name (spells_reads text name s) w) g

pub rdn_exact : (text : List ℕ) (r : Result SpelledRdn NameFault) → Gives (λ rdn. rdn) r (rdn_within_limit text) → (rdn : SpelledRdn) → SpellsRdn text rdn → is_rdn_within_limit rdn ≡ true → Gives (λ rdn. rdn) r (Ok rdn)
rdn_exact text r g rdn s w = subst (λ (a : Result SpelledRdn NameFault). Gives (λ (n : SpelledRdn). n) r a) (within is_rdn_within_limit (only_rdn_of text) rdn (only_rdn_reads text rdn s) w) g
