-- An attribute description as it was spelled, with what it means.
use Rattle.std.specs.Prelude.{◌≡◌, ℕ, Bool, ◌&&◌, List, Decides}
use Rattle.std.specs.Cmp.{IsEquivalence, IsPartialEquivalence, partial_equiv_from_equiv, and_equiv, on_equiv, nat_eq_equiv, first_so, second_so}
use Rattle.std.specs.Cmp.Lexicographic.{pointwise, lists_equiv, pointwise_decides}
use Rattle.std.proofs.Common.{ap}
use Rattle.dir_names.specs.Attr.{Attr}
use Rattle.dir_names.specs.Orders.{bytes_eq, bytes_eq_decides, attr_eq, attr_eq_decides, attr_cmp, attr_cmp_total, attr_cmp_ties, tied_equiv}

pub record Described : Type 0 where
  pub spelling : List ℕ
  pub key : Attr

-- the same spelling, and the same meaning
abbrev pub described_eq : Described → Described → Bool
described_eq a b = bytes_eq a.spelling b.spelling && attr_eq a.key b.key

pub described_eq_laws : IsEquivalence described_eq
described_eq_laws = and_equiv (on_equiv (λ (d : Described). d.spelling) (lists_equiv nat_eq_equiv)) (on_equiv (λ (d : Described). d.key) (tied_equiv attr_cmp attr_cmp_total attr_cmp_ties))

pub partial_described_eq_laws : IsPartialEquivalence described_eq
partial_described_eq_laws = partial_equiv_from_equiv described_eq_laws

-- lists of lines, each a description and a value
abbrev pub line_eq : Described × List ℕ → Described × List ℕ → Bool
line_eq a b = described_eq a.0 b.0 && bytes_eq a.1 b.1

abbrev pub lines_eq : List (Described × List ℕ) → List (Described × List ℕ) → Bool
lines_eq = pointwise line_eq

pub lines_eq_laws : IsEquivalence lines_eq
lines_eq_laws = lists_equiv (and_equiv (on_equiv (λ (l : Described × List ℕ). l.0) described_eq_laws) (on_equiv (λ (l : Described × List ℕ). l.1) (lists_equiv nat_eq_equiv)))

pub partial_lines_eq_laws : IsPartialEquivalence lines_eq
partial_lines_eq_laws = partial_equiv_from_equiv lines_eq_laws

-- `==` decides equality
pub described_eq_decides : (a b : Described) → Decides (described_eq a b) (a ≡ b)
described_eq_decides a b = (
  λ e i. record { spelling = (bytes_eq_decides a.spelling b.spelling).0 (first_so _ (attr_eq a.key b.key) e) i; key = (attr_eq_decides a.key b.key).0 (second_so (bytes_eq a.spelling b.spelling) _ e) i },
  λ e i. (bytes_eq_decides a.spelling b.spelling).1 (ap (λ (d : Described). d.spelling) e) i && (attr_eq_decides a.key b.key).1 (ap (λ (d : Described). d.key) e) i,
)

line_eq_decides : (l m : Described × List ℕ) → Decides (line_eq l m) (l ≡ m)
line_eq_decides l m = (
  λ e i. ((described_eq_decides l.0 m.0).0 (first_so _ (bytes_eq l.1 m.1) e) i, (bytes_eq_decides l.1 m.1).0 (second_so (described_eq l.0 m.0) _ e) i),
  λ e i. (described_eq_decides l.0 m.0).1 (ap (λ u. u.0) e) i && (bytes_eq_decides l.1 m.1).1 (ap (λ u. u.1) e) i,
)

pub lines_eq_decides : (x y : List (Described × List ℕ)) → Decides (lines_eq x y) (x ≡ y)
lines_eq_decides = pointwise_decides line_eq_decides
