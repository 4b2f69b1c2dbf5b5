-- The orders of texts, of the keys of attributes, of RDNs, of names and of values, each with its laws:
--     _total      a total order
--     _eq, _ties  `==`, which holds exactly where the order answers `Equal`
--     _exact      the order answers `Equal` for equal values only
--     _decides    `==` decides equality
-- Texts are ordered by their bytes, and lists by their elements, a prefix first.
use Rattle.std.specs.Prelude.{◌≡◌, ℕ, Bool, ◌&&◌, List, nat_eq, Decides}
use Rattle.std.proofs.Common.{sym, ap, subst, ◌∙◌}
use Rattle.std.specs.declared.cmp.Ordering.{Ordering}
use Rattle.std.specs.declared.cmp.Ordering.TheVariants.{Equal}
use Rattle.std.specs.Ordering.{nat_cmp, ordering_then, eq_by_cmp, is_eq}
use Rattle.std.specs.Cmp.{IsTotalOrder, IsPartialEquivalence, IsEquivalence, on_total, then_total, nat_cmp_total, both_tied, unsigned_ties, eq_by_cmp_equiv, partial_equiv_from_equiv, tied_itself, Equal-is}
use Rattle.std.specs.Cmp.Lexicographic.{pointwise, slice_cmp, lists_total, lists_ties}
use Rattle.std.specs.FinMap.{IsAntisymmetric, nat_cmp-IsAntisymmetric, slice_cmp-IsAntisymmetric}
use Rattle.std.proofs.lemmas.Map.Lookups.{exact_pairs}
use Rattle.dir_names.specs.Attr.{Attr}

-- ---- texts

abbrev pub bytes_cmp : List ℕ → List ℕ → Ordering
bytes_cmp = slice_cmp nat_cmp

abbrev pub bytes_eq : List ℕ → List ℕ → Bool
bytes_eq = pointwise nat_eq

pub bytes_cmp_total : IsTotalOrder bytes_cmp
bytes_cmp_total = lists_total nat_cmp_total

pub bytes_cmp_ties : (x y : List ℕ) → bytes_eq x y ≡ eq_by_cmp bytes_cmp x y
bytes_cmp_ties = lists_ties nat_cmp unsigned_ties

pub bytes_cmp_exact : IsAntisymmetric bytes_cmp
bytes_cmp_exact = slice_cmp-IsAntisymmetric nat_cmp-IsAntisymmetric

-- ---- lists of texts

abbrev pub texts_cmp : List (List ℕ) → List (List ℕ) → Ordering
texts_cmp = slice_cmp bytes_cmp

abbrev pub texts_eq : List (List ℕ) → List (List ℕ) → Bool
texts_eq = pointwise bytes_eq

pub texts_cmp_total : IsTotalOrder texts_cmp
texts_cmp_total = lists_total bytes_cmp_total

pub texts_cmp_ties : (x y : List (List ℕ)) → texts_eq x y ≡ eq_by_cmp texts_cmp x y
texts_cmp_ties = lists_ties bytes_cmp bytes_cmp_ties

pub texts_cmp_exact : IsAntisymmetric texts_cmp
texts_cmp_exact = slice_cmp-IsAntisymmetric bytes_cmp_exact

-- ---- keys of attribute descriptions: by type, then by options

abbrev pub attr_cmp : Attr → Attr → Ordering
attr_cmp a b = ordering_then (bytes_cmp a.attr_type b.attr_type) (texts_cmp a.options b.options)

abbrev pub attr_eq : Attr → Attr → Bool
attr_eq a b = bytes_eq a.attr_type b.attr_type && texts_eq a.options b.options

pub attr_cmp_total : IsTotalOrder attr_cmp
attr_cmp_total = then_total (on_total (λ (a : Attr). a.attr_type) bytes_cmp_total) (on_total (λ (a : Attr). a.options) texts_cmp_total)

pub attr_cmp_ties : (a b : Attr) → attr_eq a b ≡ eq_by_cmp attr_cmp a b
attr_cmp_ties a b = both_tied _ _ (bytes_cmp a.attr_type b.attr_type) (texts_cmp a.options b.options) (bytes_cmp_ties a.attr_type b.attr_type) (texts_cmp_ties a.options b.options)

pub attr_cmp_exact : IsAntisymmetric attr_cmp
attr_cmp_exact a b e =
    let same : ◌≡◌ {A = List ℕ × List (List ℕ)} (a.attr_type, a.options) (b.attr_type, b.options) = exact_pairs bytes_cmp texts_cmp bytes_cmp_exact texts_cmp_exact (a.attr_type, a.options) (b.attr_type, b.options) e in
    λ i. record { attr_type = (same i).0; options = (same i).1 }

-- ---- keys of RDNs: lists of pairs of attribute and value, in order

abbrev pub pair_cmp : Attr × List ℕ → Attr × List ℕ → Ordering
pair_cmp p q = ordering_then (attr_cmp p.0 q.0) (bytes_cmp p.1 q.1)

abbrev pub pair_eq : Attr × List ℕ → Attr × List ℕ → Bool
pair_eq p q = attr_eq p.0 q.0 && bytes_eq p.1 q.1

pub pair_cmp_total : IsTotalOrder pair_cmp
pair_cmp_total = then_total (on_total (λ (p : Attr × List ℕ). p.0) attr_cmp_total) (on_total (λ (p : Attr × List ℕ). p.1) bytes_cmp_total)

pub pair_cmp_ties : (p q : Attr × List ℕ) → pair_eq p q ≡ eq_by_cmp pair_cmp p q
pair_cmp_ties p q = both_tied _ _ (attr_cmp p.0 q.0) (bytes_cmp p.1 q.1) (attr_cmp_ties p.0 q.0) (bytes_cmp_ties p.1 q.1)

pub pair_cmp_exact : IsAntisymmetric pair_cmp
pair_cmp_exact = exact_pairs attr_cmp bytes_cmp attr_cmp_exact bytes_cmp_exact

abbrev pub rdn_key_cmp : List (Attr × List ℕ) → List (Attr × List ℕ) → Ordering
rdn_key_cmp = slice_cmp pair_cmp

abbrev pub rdn_key_eq : List (Attr × List ℕ) → List (Attr × List ℕ) → Bool
rdn_key_eq = pointwise pair_eq

pub rdn_key_cmp_total : IsTotalOrder rdn_key_cmp
rdn_key_cmp_total = lists_total pair_cmp_total

pub rdn_key_cmp_ties : (x y : List (Attr × List ℕ)) → rdn_key_eq x y ≡ eq_by_cmp rdn_key_cmp x y
rdn_key_cmp_ties = lists_ties pair_cmp pair_cmp_ties

pub rdn_key_cmp_exact : IsAntisymmetric rdn_key_cmp
rdn_key_cmp_exact = slice_cmp-IsAntisymmetric pair_cmp_exact

-- ---- keys of names: lists of keys of RDNs, root first, so that a name comes before all names below it

abbrev pub dn_key_cmp : List (List (Attr × List ℕ)) → List (List (Attr × List ℕ)) → Ordering
dn_key_cmp = slice_cmp rdn_key_cmp

abbrev pub dn_key_eq : List (List (Attr × List ℕ)) → List (List (Attr × List ℕ)) → Bool
dn_key_eq = pointwise rdn_key_eq

pub dn_key_cmp_total : IsTotalOrder dn_key_cmp
dn_key_cmp_total = lists_total rdn_key_cmp_total

pub dn_key_cmp_ties : (x y : List (List (Attr × List ℕ))) → dn_key_eq x y ≡ eq_by_cmp dn_key_cmp x y
dn_key_cmp_ties = lists_ties rdn_key_cmp rdn_key_cmp_ties

pub dn_key_cmp_exact : IsAntisymmetric dn_key_cmp
dn_key_cmp_exact = slice_cmp-IsAntisymmetric rdn_key_cmp_exact

-- ---- `==` decides equality

pub exact_decides : {K : Type 0} {E : K → K → Bool} (R : K → K → Ordering) → IsTotalOrder R → ((x y : K) → E x y ≡ eq_by_cmp R x y) → IsAntisymmetric R → (x y : K) → Decides (E x y) (x ≡ y)
exact_decides R o t same x y =
    (λ e. same x y ((Equal-is (R x y)).0 (sym (t x y) ∙ e)), λ e. t x y ∙ ap is_eq (subst (λ z. R x z ≡ Equal) e (tied_itself o x)))

pub bytes_eq_decides : (x y : List ℕ) → Decides (bytes_eq x y) (x ≡ y)
bytes_eq_decides = exact_decides bytes_cmp bytes_cmp_total bytes_cmp_ties bytes_cmp_exact

pub attr_eq_decides : (x y : Attr) → Decides (attr_eq x y) (x ≡ y)
attr_eq_decides = exact_decides attr_cmp attr_cmp_total attr_cmp_ties attr_cmp_exact

pub rdn_key_eq_decides : (x y : List (Attr × List ℕ)) → Decides (rdn_key_eq x y) (x ≡ y)
rdn_key_eq_decides = exact_decides rdn_key_cmp rdn_key_cmp_total rdn_key_cmp_ties rdn_key_cmp_exact

pub dn_key_eq_decides : (x y : List (List (Attr × List ℕ))) → Decides (dn_key_eq x y) (x ≡ y)
dn_key_eq_decides = exact_decides dn_key_cmp dn_key_cmp_total dn_key_cmp_ties dn_key_cmp_exact

-- ---- a test that holds exactly where a total order answers `Equal` is an equivalence

pub tied_equiv : {K : Type 0} {E : K → K → Bool} (R : K → K → Ordering) → IsTotalOrder R → ((x y : K) → E x y ≡ eq_by_cmp R x y) → IsEquivalence E
tied_equiv {K} {E} R o t =
    let same : ◌≡◌ {A = K → K → Bool} E (eq_by_cmp R) = λ i x y. t x y i in
    subst IsEquivalence (sym same) (eq_by_cmp_equiv o)

pub tied_per : {K : Type 0} {E : K → K → Bool} (R : K → K → Ordering) → IsTotalOrder R → ((x y : K) → E x y ≡ eq_by_cmp R x y) → IsPartialEquivalence E
tied_per R o t = partial_equiv_from_equiv (tied_equiv R o t)
