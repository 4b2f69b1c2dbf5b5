-- Pieces of a text: the search from the left finds them if any cut has them, and the test of a cut is the fact.
use Rattle.std.proofs.Common.{◌≡◌, ℕ, zero, suc, ◌+◌, ◌-◌, ◌≤◌, ◌<◌, Bool, true, false, cond, List, [], ◌∷◌, ◌++◌, length, take, drop, get_or, Option, Some, None, refl, sym, ap, ◌∙◌}
use Rattle.std.specs.Prelude.{◌&&◌, ◌||◌, nat_eq}
use Rattle.std.specs.List.{list_any, starts_with, ends_with}
use Rattle.std.proofs.Common.{arith, Decides, length-append}
use Rattle.std.proofs.lemmas.Bool.Decides.{Decides-eqb}
use Rattle.std.proofs.lemmas.List.{drop_all, drop_at, drop_more, take_at}
use Rattle.std.proofs.lemmas.Slice.Eq.{starts_is, ends_is}
use Rattle.memchr.specs.Find.{Nowhere, OccursAt}
use Rattle.memchr.proofs.lemmas.MatchLemmas.{OccursAt-from_part, OccursAt-part, OccursAt-split}
use Rattle.dir_names.specs.Orders.{bytes_eq, bytes_eq_decides}
use Rattle.dir_acl.specs.declared.filter.Pieces.{Pieces}
use Rattle.dir_acl.specs.Inside.FirstPiece.{after_piece}
use Rattle.dir_acl.proofs.Grammar.Sound.{first_true, second_true}
use Rattle.dir_acl.specs.Substrings.{HasMiddles, HasPieces, has_middles, has_pieces, tails}

-- what is looked for in one tail of a text
abbrev is_here : List ℕ → List (List ℕ) → List ℕ → List ℕ → Bool
is_here piece pieces last tail = starts_with nat_eq tail piece && has_middles pieces last (drop (length piece) tail)

or_right : (x y : Bool) → y ≡ true → (x || y) ≡ true
or_right true y e = refl
or_right false y e = e

-- what is found after a text's first byte is found in the text
after_byte : (ms : List (List ℕ)) (last : List ℕ) (b : ℕ) (bs : List ℕ) → has_middles ms last bs ≡ true → has_middles ms last (b ∷ bs) ≡ true
after_byte [] last b bs e = or_right (bytes_eq last (b ∷ bs)) _ e
after_byte (m ∷ ms) last b bs e = or_right (is_here m ms last (b ∷ bs)) _ e

after_one : (ms : List (List ℕ)) (last text : List ℕ) → has_middles ms last (drop 1 text) ≡ true → has_middles ms last text ≡ true
after_one ms last [] e = e
after_one ms last (b ∷ bs) e = after_byte ms last b bs e

one_dropped : (n : ℕ) (text : List ℕ) → drop (suc n) text ≡ drop 1 (drop n text)
one_dropped zero [] = refl
one_dropped zero (b ∷ bs) = refl
one_dropped (suc n) [] = refl
one_dropped (suc n) (b ∷ bs) = one_dropped n bs

-- the same after as many bytes more
later : (n : ℕ) (ms : List (List ℕ)) (last : List ℕ) (b : ℕ) (bs : List ℕ) → has_middles ms last (drop n bs) ≡ true → has_middles ms last (drop n (b ∷ bs)) ≡ true
later zero ms last b bs e = after_byte ms last b bs e
later (suc n) ms last b bs e = after_one ms last (drop n bs) (ap (has_middles ms last) (sym (one_dropped n bs)) ∙ e)

-- where the piece comes later, the rest may as well begin earlier
earlier : (m : List ℕ) (ms : List (List ℕ)) (last text : List ℕ) → has_middles (m ∷ ms) last text ≡ true → has_middles ms last (drop (length m) text) ≡ true
earlier m ms last [] e = by (starts_with nat_eq [] m) (has_middles ms last (drop (length m) [])) refl e
  where
    by : (s h : Bool) → has_middles ms last (drop (length m) []) ≡ h → ((s && h) || false) ≡ true → has_middles ms last (drop (length m) []) ≡ true
    by true true w e = w
    by true false w e = absurd (cc)
    by false h w e = absurd (cc)
earlier m ms last (b ∷ bs) e = by (λ f. later (length m) ms last b bs (earlier m ms last bs f)) (starts_with nat_eq (b ∷ bs) m) (has_middles ms last (drop (length m) (b ∷ bs))) refl e
  where
    by : (has_middles (m ∷ ms) last bs ≡ true → has_middles ms last (drop (length m) (b ∷ bs)) ≡ true) → (s h : Bool) → has_middles ms last (drop (length m) (b ∷ bs)) ≡ h
        → ((s && h) || has_middles (m ∷ ms) last bs) ≡ true → has_middles ms last (drop (length m) (b ∷ bs)) ≡ true
    by rest true true w e = w
    by rest true false w e = rest e
    by rest false h w e = rest e

same_bool : (x y : Bool) → (x ≡ true → y ≡ true) → (y ≡ true → x ≡ true) → x ≡ y
same_bool true y f g = sym (f refl)
same_bool false true f g = g refl
same_bool false false f g = refl

here_first : (m : List ℕ) (ms : List (List ℕ)) (last text : List ℕ) → starts_with nat_eq text m ≡ true → has_middles (m ∷ ms) last text ≡ has_middles ms last (drop (length m) text)
here_first m ms last text s = same_bool (has_middles (m ∷ ms) last text) (has_middles ms last (drop (length m) text)) (earlier m ms last text) (by text s)
  where
    by : (text : List ℕ) → starts_with nat_eq text m ≡ true → has_middles ms last (drop (length m) text) ≡ true → has_middles (m ∷ ms) last text ≡ true
    by [] s e = λ i. (s i && e i) || false
    by (b ∷ bs) s e = λ i. (s i && e i) || has_middles (m ∷ ms) last bs

-- what is found after the piece where it comes first
abbrev pub found_after : Option (List ℕ) → List (List ℕ) → List ℕ → Bool
found_after None ms last = false
found_after (Some rest) ms last = has_middles ms last rest

pub search_step : (m : List ℕ) (ms : List (List ℕ)) (last text : List ℕ) → has_middles (m ∷ ms) last text ≡ found_after (after_piece m text) ms last
search_step m ms last [] = by (starts_with nat_eq [] m) refl
  where
    by : (s : Bool) → starts_with nat_eq [] m ≡ s → has_middles (m ∷ ms) last [] ≡ found_after (cond s (Some (drop (length m) [])) None) ms last
    by true w = here_first m ms last [] w
    by false w = ap (λ s. (s && has_middles ms last (drop (length m) [])) || false) w
search_step m ms last (b ∷ bs) = by (search_step m ms last bs) (starts_with nat_eq (b ∷ bs) m) refl
  where
    by : has_middles (m ∷ ms) last bs ≡ found_after (after_piece m bs) ms last → (s : Bool) → starts_with nat_eq (b ∷ bs) m ≡ s
        → has_middles (m ∷ ms) last (b ∷ bs) ≡ found_after (cond s (Some (drop (length m) (b ∷ bs))) (after_piece m bs)) ms last
    by rest true w = here_first m ms last (b ∷ bs) w
    by rest false w = ap (λ s. (s && has_middles ms last (drop (length m) (b ∷ bs))) || has_middles (m ∷ ms) last bs) w ∙ rest

-- one piece of the middle, and the later ones
pub middles_at : (ms : List (List ℕ)) (last rest : List ℕ) (i : ℕ) (piece : List ℕ) → i < length ms → piece ≡ get_or ms i piece → has_middles (drop i ms) last rest ≡ found_after (after_piece piece rest) (drop (i + 1) ms) last
middles_at ms last rest i piece inside item =
    ap (λ l. has_middles l last rest) (drop_more ms i piece inside ∙ ap (λ m. m ∷ drop (i + 1) ms) (sym item)) ∙ search_step piece (drop (i + 1) ms) last rest

-- ---- the test of a cut is the fact

nat_eq_decides : (a b : ℕ) → Decides (nat_eq a b) (a ≡ b)
nat_eq_decides a b = Decides-eqb a b

-- a tail that is so
in_tails : (p : List ℕ → Bool) (text : List ℕ) → list_any p (tails text) ≡ true → (between : List ℕ) × (tail : List ℕ) × (text ≡ between ++ tail) × (p tail ≡ true)
in_tails p [] e = by (p []) refl e
  where
    by : (t : Bool) → p [] ≡ t → (t || false) ≡ true → (between : List ℕ) × (tail : List ℕ) × ([] ≡ between ++ tail) × (p tail ≡ true)
    by true w e = ([], [], refl, w)
    by false w e = absurd (cc)
in_tails p (b ∷ bs) e = by (in_tails p bs) (p (b ∷ bs)) refl e
  where
    by : (list_any p (tails bs) ≡ true → (between : List ℕ) × (tail : List ℕ) × (bs ≡ between ++ tail) × (p tail ≡ true)) → (t : Bool) → p (b ∷ bs) ≡ t → (t || list_any p (tails bs)) ≡ true
        → (between : List ℕ) × (tail : List ℕ) × (b ∷ bs ≡ between ++ tail) × (p tail ≡ true)
    by rest true w e = ([], b ∷ bs, refl, w)
    by rest false w e = let r = rest e in (b ∷ r.0, r.1, ap (λ l. b ∷ l) r.2, r.3)

tail_itself : (p : List ℕ → Bool) (tail : List ℕ) → p tail ≡ true → list_any p (tails tail) ≡ true
tail_itself p [] e = ap (λ t. t || false) e
tail_itself p (b ∷ bs) e = ap (λ t. t || list_any p (tails bs)) e

in_tails_of : (p : List ℕ → Bool) (between tail : List ℕ) → p tail ≡ true → list_any p (tails (between ++ tail)) ≡ true
in_tails_of p [] tail e = tail_itself p tail e
in_tails_of p (b ∷ bs) tail e = or_right (p (b ∷ bs ++ tail)) _ (in_tails_of p bs tail e)

starts_so : (text piece : List ℕ) → starts_with nat_eq text piece ≡ true → text ≡ piece ++ drop (length piece) text
starts_so text piece e = (starts_is nat_eq_decides text piece (starts_with nat_eq text piece) refl).0 e

starts_if : (piece after : List ℕ) → starts_with nat_eq (piece ++ after) piece ≡ true
starts_if piece after = (starts_is nat_eq_decides (piece ++ after) piece (starts_with nat_eq (piece ++ after) piece) refl).1 after refl

pub middles_fact : (ms : List (List ℕ)) (last text : List ℕ) → has_middles ms last text ≡ true → HasMiddles text ms last
middles_fact [] last text e =
    let found = in_tails (λ tail. bytes_eq last tail) text e in
    (found.0, found.2 ∙ ap (λ l. found.0 ++ l) (sym ((bytes_eq_decides last found.1).0 found.3)))
middles_fact (m ∷ ms) last text e =
    let found = in_tails (is_here m ms last) text e in
    let starts = starts_so found.1 m (first_true (starts_with nat_eq found.1 m) _ found.3) in
    (found.0, drop (length m) found.1, found.2 ∙ ap (λ l. found.0 ++ l) starts, middles_fact ms last (drop (length m) found.1) (second_true (starts_with nat_eq found.1 m) _ found.3))

pub middles_test : (ms : List (List ℕ)) (last text : List ℕ) → HasMiddles text ms last → has_middles ms last text ≡ true
middles_test [] last text h =
    ap (λ t. list_any (λ tail. bytes_eq last tail) (tails t)) h.1 ∙ in_tails_of (λ tail. bytes_eq last tail) h.0 last ((bytes_eq_decides last last).1 refl)
middles_test (m ∷ ms) last text h =
    let rest : has_middles ms last (drop (length m) (m ++ h.1)) ≡ true = ap (has_middles ms last) (drop_at m h.1 (length m) refl) ∙ middles_test ms last h.1 h.3 in
    ap (λ t. list_any (is_here m ms last) (tails t)) h.2 ∙ in_tails_of (is_here m ms last) h.0 (m ++ h.1) (λ i. starts_if m h.1 i && rest i)

pub pieces_fact : (text : List ℕ) (pieces : Pieces) → has_pieces pieces text ≡ true → HasPieces text pieces
pieces_fact text pieces e =
    (drop (length pieces.first) text, starts_so text pieces.first (first_true (starts_with nat_eq text pieces.first) _ e), middles_fact pieces.middle pieces.last (drop (length pieces.first) text) (second_true (starts_with nat_eq text pieces.first) _ e))

pub pieces_test : (text : List ℕ) (pieces : Pieces) → HasPieces text pieces → has_pieces pieces text ≡ true
pieces_test text pieces h =
    let rest : has_middles pieces.middle pieces.last (drop (length pieces.first) (pieces.first ++ h.0)) ≡ true =
    ap (has_middles pieces.middle pieces.last) (drop_at pieces.first h.0 (length pieces.first) refl) ∙ middles_test pieces.middle pieces.last h.0 h.2 in
    ap (has_pieces pieces) h.1 ∙ (λ i. starts_if pieces.first h.0 i && rest i)

-- ---- the last piece

pub last_step : (last text : List ℕ) → has_middles [] last text ≡ ends_with nat_eq text last
last_step last text =
    let ends = ends_is nat_eq_decides text last (ends_with nat_eq text last) refl in
    same_bool (has_middles [] last text) (ends_with nat_eq text last)
    (λ e. let fact = middles_fact [] last text e in ends.1 fact.0 fact.1)
    (λ e. middles_test [] last text (take (length text - length last) text, ends.0 e))

-- after the last piece of the middle
pub middles_end : (ms : List (List ℕ)) (last rest : List ℕ) (i : ℕ) → length ms ≤ i → has_middles (drop i ms) last rest ≡ ends_with nat_eq rest last
middles_end ms last rest i past = ap (λ l. has_middles l last rest) (drop_all i ms past) ∙ last_step last rest

-- ---- the place of a piece

here_after : (piece text : List ℕ) → starts_with nat_eq text piece ≡ true → after_piece piece text ≡ Some (drop (length piece) text)
here_after piece [] e = ap (λ t. cond t (Some (drop (length piece) [])) None) e
here_after piece (b ∷ bs) e = ap (λ t. cond t (Some (drop (length piece) (b ∷ bs))) (after_piece piece bs)) e

later_after : (piece : List ℕ) (b : ℕ) (bs : List ℕ) → starts_with nat_eq (b ∷ bs) piece ≡ false → after_piece piece (b ∷ bs) ≡ after_piece piece bs
later_after piece b bs e = ap (λ t. cond t (Some (drop (length piece) (b ∷ bs))) (after_piece piece bs)) e

-- a text that begins with the piece has it at its first place, and the other way
occurs_here : (piece text : List ℕ) → starts_with nat_eq text piece ≡ true → OccursAt text piece 0
occurs_here piece text e =
    let split = starts_so text piece e in
    OccursAt-from_part text piece 0 (omega (arith, ap length split, length-append piece (drop (length piece) text))) (ap (take (length piece)) split ∙ take_at piece (drop (length piece) text) (length piece) refl)

begins_there : (piece text : List ℕ) → OccursAt text piece 0 → starts_with nat_eq text piece ≡ true
begins_there piece text occurs = (starts_is nat_eq_decides text piece (starts_with nat_eq text piece) refl).1 (drop (0 + length piece) text) (OccursAt-split text piece 0 occurs)

-- a place in a text is one place further on with one byte before the text
place_after_byte : (piece : List ℕ) (b : ℕ) (bs : List ℕ) (k : ℕ) → OccursAt bs piece k → OccursAt (b ∷ bs) piece (suc k)
place_after_byte piece b bs k occurs = OccursAt-from_part (b ∷ bs) piece (suc k) (omega (arith, occurs.fits)) (OccursAt-part bs piece k occurs)

place_without_byte : (piece : List ℕ) (b : ℕ) (bs : List ℕ) (k : ℕ) → OccursAt (b ∷ bs) piece (suc k) → OccursAt bs piece k
place_without_byte piece b bs k occurs = OccursAt-from_part bs piece k (omega (arith, occurs.fits)) (OccursAt-part (b ∷ bs) piece (suc k) occurs)

nowhere_without_byte : (piece : List ℕ) (b : ℕ) (bs : List ℕ) (m n : ℕ) → n + 1 ≤ m → Nowhere (OccursAt (b ∷ bs) piece) 0 m → Nowhere (OccursAt bs piece) 0 n
nowhere_without_byte piece b bs m n within none k low high occurs = none (suc k) (omega arith) (omega arith) (place_after_byte piece b bs k occurs)

-- what follows the piece at the first place where it occurs
pub after_first : (piece text : List ℕ) (k : ℕ) → Nowhere (OccursAt text piece) 0 k → OccursAt text piece k → after_piece piece text ≡ Some (drop (k + length piece) text)
after_first piece text zero none occurs =
    let same : length piece ≡ 0 + length piece = omega arith in
    here_after piece text (begins_there piece text occurs) ∙ ap (λ n. Some (drop n text)) same
after_first piece [] (suc k) none occurs = absurd (omega (arith, occurs.fits))
after_first piece (b ∷ bs) (suc k) none occurs =
    by (after_first piece bs k (nowhere_without_byte piece b bs (suc k) k (omega arith) none) (place_without_byte piece b bs k occurs)) (starts_with nat_eq (b ∷ bs) piece) refl
  where
    by : after_piece piece bs ≡ Some (drop (k + length piece) bs) → (s : Bool) → starts_with nat_eq (b ∷ bs) piece ≡ s → after_piece piece (b ∷ bs) ≡ Some (drop (suc k + length piece) (b ∷ bs))
    by rest true w = absurd (none 0 (omega arith) (omega arith) (occurs_here piece (b ∷ bs) w))
    by rest false w =
        let further : suc (k + length piece) ≡ suc k + length piece = omega arith in
        later_after piece b bs w ∙ rest ∙ ap (λ n. Some (drop n (b ∷ bs))) further

pub after_none : (piece text : List ℕ) → Nowhere (OccursAt text piece) 0 (length text + 1) → after_piece piece text ≡ None
after_none piece [] none = by (starts_with nat_eq [] piece) refl
  where
    by : (s : Bool) → starts_with nat_eq [] piece ≡ s → after_piece piece [] ≡ None
    by true w = absurd (none 0 (omega arith) (omega arith) (occurs_here piece [] w))
    by false w = ap (λ t. cond t (Some (drop (length piece) [])) None) w
after_none piece (b ∷ bs) none = by (after_none piece bs (nowhere_without_byte piece b bs (length (b ∷ bs) + 1) (length bs + 1) (omega arith) none)) (starts_with nat_eq (b ∷ bs) piece) refl
  where
    by : after_piece piece bs ≡ None → (s : Bool) → starts_with nat_eq (b ∷ bs) piece ≡ s → after_piece piece (b ∷ bs) ≡ None
    by rest true w = absurd (none 0 (omega arith) (omega arith) (occurs_here piece (b ∷ bs) w))
    by rest false w = later_after piece b bs w ∙ rest
