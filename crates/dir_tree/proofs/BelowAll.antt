-- A key above the last of values in rising order: it would be inserted after all of them.
use Rattle.std.proofs.Common.{◌≡◌, ◌-◌, ℕ, true, List, [], length, get_or, map, Err, Result, refl, ap, ◌∙◌, arith, Vec}
use Rattle.std.specs.Ordering.{is_lt}
use Rattle.std.specs.declared.cmp.Ordering.{Ordering}
use Rattle.std.specs.declared.cmp.Ordering.TheVariants.{Less, Equal, Greater}
use Rattle.dir_names.proofs.Placed.{so}
use Rattle.dir_names.specs.Sorted.{place}
use Rattle.dir_names.specs.Values.{value_key_cmp, value_key_cmp_total}
use Rattle.dir_names.specs.declared.value.ValueKey.{ValueKey}
use Rattle.dir_tree.specs.Inside.Stored.{are_rising, value_pair}
use Rattle.dir_tree.specs.Inside.Pieces.{AreFilled, IsPieceFor, joined, piece_items}
use Rattle.dir_tree.proofs.FoundInPieces.{found_past}
use Rattle.dir_tree.proofs.PlaceInPieces.{place_after}

-- the key of a value
abbrev pub key_of_value : ValueKey × List ℕ → ValueKey
key_of_value value = (value_pair value).0

-- the place of a key among values
abbrev pub place_among : ValueKey → List (ValueKey × List ℕ) → Result ℕ ℕ
place_among key values = place value_key_cmp key (map (λ value. (value_pair value).0) values)

less : (o : Ordering) → is_lt o ≡ true → o ≡ Less
less Less e = refl
less Equal e = absurd (cc)
less Greater e = absurd (cc)

pub after_values : (key : ValueKey) (values : List (ValueKey × List ℕ)) → are_rising values ≡ true → ((e : ValueKey × List ℕ) → is_lt (value_key_cmp (get_or values (length values - 1) e).0 key) ≡ true) → place_among key values ≡ Err (length values)
after_values key values rising below =
    let e : ValueKey × List ℕ = (key, []) in
    place_after value_key_cmp_total (λ value. (value_pair value).0) key values e (so _ rising)
    (λ i last. let at : i ≡ length values - 1 = omega arith in ap (λ n. value_key_cmp (get_or values n e).0 key) at ∙ less _ (below e))

module _ {Z : Type 0} where
  pub after_pieces : (key : ValueKey) (most : ℕ) (ps : List (Vec (ValueKey × List ℕ) Z)) → AreFilled most ps → are_rising (joined ps) ≡ true →
      ((d : Vec (ValueKey × List ℕ) Z) (e : ValueKey × List ℕ) → let values = piece_items (get_or ps (length ps - 1) d) in is_lt (value_key_cmp (get_or values (length values - 1) e).0 key) ≡ true) →
      place_among key (joined ps) ≡ Err (length (joined ps))
  after_pieces key most ps filled rising below =
      let belongs : IsPieceFor value_key_cmp key_of_value ps key (length ps) = record { there = omega arith; below = λ some d e. less _ (below d e); not_below = λ more. absurd (omega arith) } in
      found_past value_key_cmp_total key_of_value key most ps (length ps) belongs filled rising (key, []) refl
