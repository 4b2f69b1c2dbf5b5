-- How long a printed RDN is at most: a byte of a value prints as three or fewer.
use Rattle.std.proofs.Common.{◌≡◌, ℕ, ◌+◌, ◌*◌, ◌<◌, ◌≤◌, Bool, true, false, cond, List, [], ◌∷◌, length, get_or, drop, sym, ap, ◌∙◌, arith}
use Rattle.std.specs.Prelude.{◌==◌, ◌||◌}
use Rattle.std.proofs.Math.ListN.{drop_of_length-le}
use Rattle.std.proofs.lemmas.Bool.{le-leb}
use Rattle.std.proofs.lemmas.List.{drop_more, length-append}
use Rattle.dir_names.specs.Names.{SpelledPair, SpelledRdn}
use Rattle.dir_names.specs.Names.Printing.{escape_of, is_special, printed_byte, printed_pair, printed_rdn, printed_rest, printed_value}
use Rattle.dir_names.specs.Names.Limits.{is_rdn_within_limit}

-- the most bytes that a pair takes, with a separator
abbrev pub pair_room : SpelledPair → ℕ
pair_room p = (length p.0 + 3 * length p.1) + 2

abbrev pub room : SpelledRdn → ℕ
room [] = 0
room (p ∷ ps) = pair_room p + room ps

either_way : (c : Bool) (xs ys : List ℕ) (n : ℕ) → length xs ≤ n → length ys ≤ n → length (cond c xs ys) ≤ n
either_way true xs ys n x y = x
either_way false xs ys n x y = y

shown_room : (b : ℕ) → length (printed_byte b) ≤ 3
shown_room b = either_way (is_special b) (escape_of b) (b ∷ []) 3 (omega arith) (omega arith)

escaped_room : (c : Bool) (b : ℕ) → length (cond c (escape_of b) (printed_byte b)) ≤ 3
escaped_room c b = either_way c (escape_of b) (printed_byte b) 3 (omega arith) (shown_room b)

rest_room : (bs : List ℕ) → length (printed_rest bs) ≤ 3 * length bs
rest_room [] = omega arith
rest_room (b ∷ []) = omega (arith, escaped_room (b == 32) b)
rest_room (b ∷ c ∷ bs) = omega (arith, length-append (printed_byte b) (printed_rest (c ∷ bs)), shown_room b, rest_room (c ∷ bs))

value_room : (bs : List ℕ) → length (printed_value bs) ≤ 3 * length bs
value_room [] = omega arith
value_room (b ∷ bs) = omega (arith, length-append (cond (b == 32 || b == 35) (escape_of b) (printed_byte b)) (printed_rest bs), escaped_room (b == 32 || b == 35) b, rest_room bs)

printed_room : (p : SpelledPair) → length (printed_pair p) + 1 ≤ pair_room p
printed_room p = omega (arith, length-append p.0 (61 ∷ printed_value p.1), value_room p.1)

rdn_room : (ps : SpelledRdn) → length (printed_rdn ps) ≤ room ps
rdn_room [] = omega arith
rdn_room (p ∷ []) = omega (arith, printed_room p)
rdn_room (p ∷ q ∷ ps) = omega (arith, length-append (printed_pair p) (43 ∷ printed_rdn (q ∷ ps)), printed_room p, rdn_room (q ∷ ps))

-- the room that is left beside the pairs before the next, and beside that one
pub room_at : (ps : SpelledRdn) (i : ℕ) (p : SpelledPair) → i < length ps → p ≡ get_or ps i p → room (drop i ps) ≡ pair_room p + room (drop (i + 1) ps)
room_at ps i p inside item = ap room (drop_more ps i p inside ∙ ap (λ q. q ∷ drop (i + 1) ps) (sym item))

pub small_at_end : (ps : SpelledRdn) (i left : ℕ) → length ps ≤ i → room ps + left ≡ 4096 + room (drop i ps) → is_rdn_within_limit ps ≡ true
small_at_end ps i left past so_far =
    let none : room (drop i ps) ≡ 0 = ap room (drop_of_length-le ps past) in
    le-leb (length (printed_rdn ps)) 4096 (omega (arith, rdn_room ps, so_far, none))
