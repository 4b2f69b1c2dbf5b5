-- An attribute in which the part before modifications becomes that after them is the attribute after them.
use Rattle.std.proofs.Common.{◌≡◌, ℕ, Bool, true, false, cond, List, Option, Some, None, is_some, refl, sym, ap, ◌∙◌}
use Rattle.std.specs.FinMap as fin
use Rattle.dir_names.specs.Orders.{bytes_eq, bytes_eq_decides}
use Rattle.dir_names.specs.declared.value.ValueKey.{ValueKey}
use Rattle.dir_tree.specs.Content.{Stored, StoredValues}
use Rattle.dir_change.specs.Modify.{values_without}
use Rattle.dir_change.proofs.ValueSets.{distinct_entries, found_entries, get_with, get_without, or_else, same_values}
use Rattle.dir_change.specs.Inside.Patched.{patched, patched_values}
use Rattle.dir_change.specs.Inside.Looked.{AreSlotsAlike, IsPartOf, Looked}

pub get_patched : (values gone come : StoredValues) (v : ValueKey) → fin.get (patched_values values gone come) v ≡ or_else (fin.get come v) (cond (is_some (fin.get gone v)) None (fin.get values v))
get_patched values gone come v =
    get_with (fin.entries come) (values_without values (fin.entries gone)) (distinct_entries come) v
    ∙ (λ i. or_else (found_entries come v i) (get_without values (fin.entries gone) v i))
    ∙ ap (λ o. or_else (fin.get come v) (cond (is_some o) None (fin.get values v))) (found_entries gone v)

all_gone : (a b : StoredValues) → patched_values a a b ≡ b
all_gone a b = same_values (patched_values a a b) b (λ v. get_patched a a b v ∙ by (fin.get b v) (fin.get a v))
  where
    by : (o u : Option (List ℕ)) → or_else o (cond (is_some u) None u) ≡ o
    by None None = refl
    by None (Some x) = refl
    by (Some y) u = refl

patched_whole : (s t : Option Stored) → patched s s t ≡ t
patched_whole s None = refl
patched_whole None (Some b) = refl
patched_whole (Some a) (Some b) = by (bytes_eq a.spelling b.spelling) refl
  where
    by : (c : Bool) → bytes_eq a.spelling b.spelling ≡ c → cond c (Some (record { spelling = a.spelling; values = patched_values a.values a.values b.values })) (Some b) ≡ Some b
    by false e = refl
    by true e = λ i. Some (record { spelling = (bytes_eq_decides a.spelling b.spelling).0 e i; values = all_gone a.values b.values i })

module _ (test : ValueKey → Bool) (first : Stored) (one : ValueKey) (a f b g : Stored) (was : IsPartOf test first one a f) (is : IsPartOf test first one b g) where
  part_patched : patched_values a.values f.values g.values ≡ b.values
  part_patched = same_values (patched_values a.values f.values g.values) b.values (λ v. get_patched a.values f.values g.values v ∙ by v (test v) refl)
    where
      inside_by : (o u : Option (List ℕ)) → or_else o (cond (is_some u) None u) ≡ o
      inside_by None None = refl
      inside_by None (Some x) = refl
      inside_by (Some y) u = refl

      by : (v : ValueKey) (t : Bool) → test v ≡ t → or_else (fin.get g.values v) (cond (is_some (fin.get f.values v)) None (fin.get a.values v)) ≡ fin.get b.values v
      by v true t = (λ i. or_else (is.inside v t i) (cond (is_some (was.inside v t i)) None (fin.get a.values v))) ∙ inside_by (fin.get b.values v) (fin.get a.values v)
      by v false t = (λ i. or_else (is.nothing_else v t i) (cond (is_some (was.nothing_else v t i)) None (fin.get a.values v))) ∙ was.outside v t ∙ sym (is.outside v t)

  pub attribute_patched : patched (Some a) (Some f) (Some g) ≡ Some b
  attribute_patched =
      ap (λ c. cond c (Some (record { spelling = a.spelling; values = patched_values a.values f.values g.values })) (Some g)) ((bytes_eq_decides f.spelling g.spelling).1 (was.spelled ∙ was.spelled_first ∙ sym is.spelled_first ∙ sym is.spelled))
      ∙ (λ i. Some (record { spelling = (was.spelled_first ∙ sym is.spelled_first) i; values = part_patched i }))

pub patched_is : (o : Option Looked) (s f t g : Option Stored) → AreSlotsAlike o s f → AreSlotsAlike o t g → patched s f g ≡ t
patched_is None s f t g was is = (λ i. patched s (sym was i) (sym is i)) ∙ patched_whole s t
patched_is (Some p) None f t g was is = absurd was
patched_is (Some p) (Some a) None t g was is = absurd was
patched_is (Some p) (Some a) (Some f) None g was is = absurd is
patched_is (Some p) (Some a) (Some f) (Some b) None was is = absurd is
patched_is (Some p) (Some a) (Some f) (Some b) (Some g) was is = attribute_patched p.test p.first p.one a f b g was is
