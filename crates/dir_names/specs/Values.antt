-- The order of the keys of values, with its laws as in `Orders`: texts by their bytes, then names.
use Rattle.std.specs.Prelude.{◌≡◌, ℕ, Bool, false, List, refl, Option, Some, None, Decides}
use Rattle.std.proofs.Common.{ap, true≢false}
use Rattle.std.specs.declared.cmp.Ordering.{Ordering}
use Rattle.std.specs.declared.cmp.Ordering.TheVariants.{Less, Equal, Greater}
use Rattle.std.specs.Ordering.{eq_by_cmp, ordering_reverse, is_lt, is_gt}
use Rattle.std.specs.Cmp.{IsTotalOrder}
use Rattle.std.specs.FinMap.{IsAntisymmetric}
use Rattle.dir_names.specs.declared.value.ValueKey.{ValueKey}
use Rattle.dir_names.specs.declared.value.ValueKey.TheVariants.{Text, Name}
use Rattle.dir_names.specs.Keys.{DnKeys}
use Rattle.dir_names.specs.Orders.{bytes_cmp, bytes_eq, bytes_cmp_total, bytes_cmp_ties, bytes_cmp_exact, dn_key_cmp, dn_key_eq, dn_key_cmp_total, dn_key_cmp_ties, dn_key_cmp_exact, exact_decides}

abbrev pub value_key_cmp : ValueKey → ValueKey → Ordering
value_key_cmp (Text x) (Text y) = bytes_cmp x y
value_key_cmp (Text x) (Name y) = Less
value_key_cmp (Name x) (Text y) = Greater
value_key_cmp (Name x) (Name y) = dn_key_cmp x y

abbrev pub value_key_eq : ValueKey → ValueKey → Bool
value_key_eq (Text x) (Text y) = bytes_eq x y
value_key_eq (Text x) (Name y) = false
value_key_eq (Name x) (Text y) = false
value_key_eq (Name x) (Name y) = dn_key_eq x y

antisymm : (x y : ValueKey) → value_key_cmp x y ≡ ordering_reverse (value_key_cmp y x)
antisymm (Text x) (Text y) = bytes_cmp_total.antisymm x y
antisymm (Text x) (Name y) = refl
antisymm (Name x) (Text y) = refl
antisymm (Name x) (Name y) = dn_key_cmp_total.antisymm x y

trans : (x y z : ValueKey) → value_key_cmp x y ≡ Less → value_key_cmp y z ≡ Less → value_key_cmp x z ≡ Less
trans (Text x) (Text y) (Text z) p q = bytes_cmp_total.trans x y z p q
trans (Text x) (Text y) (Name z) p q = refl
trans (Text x) (Name y) (Text z) p q = absurd (true≢false (ap is_gt q))
trans (Text x) (Name y) (Name z) p q = refl
trans (Name x) (Text y) z p q = absurd (true≢false (ap is_gt p))
trans (Name x) (Name y) (Text z) p q = absurd (true≢false (ap is_gt q))
trans (Name x) (Name y) (Name z) p q = dn_key_cmp_total.trans x y z p q

congr : (x y z : ValueKey) → value_key_cmp x y ≡ Equal → value_key_cmp x z ≡ value_key_cmp y z
congr (Text x) (Text y) (Text z) p = bytes_cmp_total.congr x y z p
congr (Text x) (Text y) (Name z) p = refl
congr (Text x) (Name y) z p = absurd (true≢false (ap is_lt p))
congr (Name x) (Text y) z p = absurd (true≢false (ap is_gt p))
congr (Name x) (Name y) (Text z) p = refl
congr (Name x) (Name y) (Name z) p = dn_key_cmp_total.congr x y z p

pub value_key_cmp_total : IsTotalOrder value_key_cmp
value_key_cmp_total = record { antisymm = antisymm; trans = trans; congr = congr }

pub value_key_cmp_ties : (x y : ValueKey) → value_key_eq x y ≡ eq_by_cmp value_key_cmp x y
value_key_cmp_ties (Text x) (Text y) = bytes_cmp_ties x y
value_key_cmp_ties (Text x) (Name y) = refl
value_key_cmp_ties (Name x) (Text y) = refl
value_key_cmp_ties (Name x) (Name y) = dn_key_cmp_ties x y

pub value_key_cmp_exact : IsAntisymmetric value_key_cmp
value_key_cmp_exact (Text x) (Text y) e = ap (λ b. Text b) (bytes_cmp_exact x y e)
value_key_cmp_exact (Text x) (Name y) e = absurd (true≢false (ap is_lt e))
value_key_cmp_exact (Name x) (Text y) e = absurd (true≢false (ap is_gt e))
value_key_cmp_exact (Name x) (Name y) e = ap (λ k. Name k) (dn_key_cmp_exact x y e)

pub value_key_eq_decides : (x y : ValueKey) → Decides (value_key_eq x y) (x ≡ y)
value_key_eq_decides = exact_decides value_key_cmp value_key_cmp_total value_key_cmp_ties value_key_cmp_exact

-- the bytes of a key under every rule but Name
abbrev pub text_of : ValueKey → Option (List ℕ)
text_of (Text bytes) = Some bytes
text_of (Name key) = None

-- the key of the name under the rule Name
abbrev pub name_of_key : ValueKey → Option DnKeys
name_of_key (Text bytes) = None
name_of_key (Name key) = Some key
