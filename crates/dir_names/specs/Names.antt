-- Names as spelled (RFC 4514, section 2): lists of RDNs, leaf first, each a list of pairs of type and value.
--     Spells      which name a text spells, as the grammar; Escapes has its characters
--     Reading     the same as a computation
--     Printing    the text of a name
--     Limits      how long a name may be
--     Sound       which lists are names
-- Every `Rdn` and `Dn` is sound and within the limits.
pub mod Escapes
pub mod Limits
pub mod Printing
pub mod Reading
pub mod Sound
pub mod Spells
use Rattle.std.specs.Prelude.{◌≡◌, ℕ, Bool, ◌&&◌, List, Decides}
use Rattle.std.specs.Cmp.{IsEquivalence, IsPartialEquivalence, partial_equiv_from_equiv, and_equiv, on_equiv, nat_eq_equiv}
use Rattle.std.specs.Cmp.Lexicographic.{pointwise, lists_equiv, pointwise_decides}
use Rattle.std.proofs.Common.{ap}
use Rattle.std.specs.Cmp.{first_so, second_so}
use Rattle.dir_names.specs.Orders.{bytes_eq, bytes_eq_decides}

-- a type and a value, as spelled
abbrev pub SpelledPair : Type 0
SpelledPair = List ℕ × List ℕ

abbrev pub SpelledRdn : Type 0
SpelledRdn = List SpelledPair

abbrev pub SpelledName : Type 0
SpelledName = List SpelledRdn

abbrev pub spelled_pair_eq : SpelledPair → SpelledPair → Bool
spelled_pair_eq p q = bytes_eq p.0 q.0 && bytes_eq p.1 q.1

abbrev pub rdn_eq : SpelledRdn → SpelledRdn → Bool
rdn_eq = pointwise spelled_pair_eq

abbrev pub name_eq : SpelledName → SpelledName → Bool
name_eq = pointwise rdn_eq

bytes_eq_laws : IsEquivalence bytes_eq
bytes_eq_laws = lists_equiv nat_eq_equiv

pub rdn_eq_laws : IsEquivalence rdn_eq
rdn_eq_laws = lists_equiv (and_equiv (on_equiv (λ (p : SpelledPair). p.0) bytes_eq_laws) (on_equiv (λ (p : SpelledPair). p.1) bytes_eq_laws))

pub name_eq_laws : IsEquivalence name_eq
name_eq_laws = lists_equiv rdn_eq_laws

pub partial_rdn_eq_laws : IsPartialEquivalence rdn_eq
partial_rdn_eq_laws = partial_equiv_from_equiv rdn_eq_laws

pub partial_name_eq_laws : IsPartialEquivalence name_eq
partial_name_eq_laws = partial_equiv_from_equiv name_eq_laws

spelled_pair_eq_decides : (p q : SpelledPair) → Decides (spelled_pair_eq p q) (p ≡ q)
spelled_pair_eq_decides p q = (
  λ e i. ((bytes_eq_decides p.0 q.0).0 (first_so _ (bytes_eq p.1 q.1) e) i, (bytes_eq_decides p.1 q.1).0 (second_so (bytes_eq p.0 q.0) _ e) i),
  λ e i. (bytes_eq_decides p.0 q.0).1 (ap (λ u. u.0) e) i && (bytes_eq_decides p.1 q.1).1 (ap (λ u. u.1) e) i,
)

-- names that `==` finds equal are spelled alike
pub rdn_eq_decides : (x y : SpelledRdn) → Decides (rdn_eq x y) (x ≡ y)
rdn_eq_decides = pointwise_decides spelled_pair_eq_decides

pub name_eq_decides : (x y : SpelledName) → Decides (name_eq x y) (x ≡ y)
name_eq_decides = pointwise_decides rdn_eq_decides
