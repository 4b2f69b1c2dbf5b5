-- The name that a text spells, as a computation: the text is split at the separators that no backslash escapes, and each piece is read
-- (RFC 4514, section 3, with spaces allowed around separators). `Names.Spells` has the grammar itself, and the contract of `Dn::read` says that the two agree.
use Rattle.std.specs.Prelude.{ℕ, Bool, false, cond, not, ◌&&◌, ◌==◌, List, [], ◌∷◌, Option, Some, None, option_map, Result}
use Rattle.std.specs.List.{onto_first, before_first}
use Rattle.dir_names.specs.declared.fault.NameFault.{NameFault}
use Rattle.dir_names.specs.declared.name.reading.Place.TheVariants.{Outside}
use Rattle.dir_names.specs.Ascii.{sharp, plus, comma, equals_sign, backslash}
use Rattle.dir_names.specs.Cut.{after_first_separator}
use Rattle.dir_names.specs.Descriptions.{is_type, is_reserved}
use Rattle.dir_names.specs.Inside.Steps.{value_from}
use Rattle.dir_names.specs.Names.{SpelledPair, SpelledRdn, SpelledName}
use Rattle.dir_names.specs.Names.Limits.{is_rdn_within_limit, is_within_limits, ok_if_within}
use Rattle.dir_names.specs.Results.{option_collect}
use Rattle.dir_names.specs.ValueKeys.Spaces.{without_leading_spaces, without_trailing_spaces}

-- ---- values

abbrev pub begins_with_hash : List ℕ → Bool
begins_with_hash [] = false
begins_with_hash (b ∷ bs) = b == sharp

-- the value of a text without leading spaces
abbrev pub value_of : List ℕ → Option (List ℕ)
value_of text = cond (begins_with_hash text) None (value_from Outside text)

-- ---- pairs, RDNs and names

-- the pieces between separators; `escaped` says whether a backslash escapes the first byte
abbrev pub pieces : ℕ → Bool → List ℕ → List (List ℕ)
pieces separator escaped [] = [] ∷ []
pieces separator escaped (b ∷ bs) = cond (not escaped && b == separator) ([] ∷ pieces separator false bs) (onto_first b (pieces separator (not escaped && b == backslash) bs))

-- a type without spaces at its ends, and the value after the `=`
abbrev pub pair_from : List ℕ → Option (List ℕ) → Option SpelledPair
pair_from attr_type None = None
pair_from attr_type (Some value) = cond (is_type attr_type && not (is_reserved attr_type)) (option_map (λ bytes. (attr_type, bytes)) (value_of (without_leading_spaces value))) None

abbrev pub pair_of : List ℕ → Option SpelledPair
pair_of text = pair_from (without_trailing_spaces (without_leading_spaces (before_first (λ b. b == equals_sign) text))) (after_first_separator equals_sign text)

abbrev pub rdn_of : List ℕ → Option SpelledRdn
rdn_of text = option_collect pair_of (pieces plus false text)

abbrev pub name_of : List ℕ → Option SpelledName
name_of [] = Some []
name_of (b ∷ bs) = option_collect rdn_of (pieces comma false (b ∷ bs))

-- exactly one RDN
abbrev pub only_rdn : List (List ℕ) → Option SpelledRdn
only_rdn [] = None
only_rdn (piece ∷ []) = rdn_of piece
only_rdn (piece ∷ other ∷ more) = None

abbrev pub only_rdn_of : List ℕ → Option SpelledRdn
only_rdn_of text = only_rdn (pieces comma false text)

-- ---- within the limits

abbrev pub name_within_limits : List ℕ → Result SpelledName NameFault
name_within_limits text = ok_if_within is_within_limits (name_of text)

abbrev pub rdn_within_limit : List ℕ → Result SpelledRdn NameFault
rdn_within_limit text = ok_if_within is_rdn_within_limit (only_rdn_of text)
