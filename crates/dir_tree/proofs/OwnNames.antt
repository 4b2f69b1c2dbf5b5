-- Own names: what an entry keeps of its name passes each test that all RDNs of the name pass; and which own names count whole.
use Rattle.std.proofs.Common.{◌≡◌, ◌≤◌, Bool, true, false, cond, List, [], ◌∷◌, length, take, reverse, Some, refl, sym, ap, ◌∙◌, arith}
use Rattle.std.specs.Prelude.{◌&&◌}
use Rattle.std.specs.List.{list_all}
use Rattle.std.proofs.lemmas.List.{length-reverse, take_all}
use Rattle.dir_names.specs.declared.schema.TypeRow.{TypeRow}
use Rattle.dir_names.specs.Keys.{DnKeys}
use Rattle.dir_names.specs.NameKeys.{name_key, rdn_key}
use Rattle.dir_names.specs.Names.{SpelledRdn, SpelledName}
use Rattle.dir_names.specs.Orders.{dn_key_eq}
use Rattle.dir_names.proofs.Both.{left}
use Rattle.dir_names.proofs.Collected.{collect_length}
use Rattle.dir_tree.specs.SpelledNames.{own_depth, own_rdns}
use Rattle.dir_tree.specs.WellFormed.{own_part}

pub all_own_of : (p : SpelledRdn → Bool) (suffix k : DnKeys) (name : SpelledName) → list_all p name ≡ true → list_all p (own_rdns suffix k name) ≡ true
all_own_of p suffix k name e = by (dn_key_eq k suffix)
  where
    first : (name : SpelledName) → list_all p name ≡ true → list_all p (take 1 name) ≡ true
    first [] h = refl
    first (x ∷ xs) h = ap (λ b. b && true) (left (p x) (list_all p xs) h)

    by : (b : Bool) → list_all p (cond b name (take 1 name)) ≡ true
    by true = e
    by false = first name e

-- an own name that has the key that its place asks for counts whole
pub own_whole : (rows : List TypeRow) (suffix k : DnKeys) (own : SpelledName) → name_key rows own ≡ Some (own_part suffix k) → take (own_depth suffix k) own ≡ own
own_whole rows suffix k own named = take_all (own_depth suffix k) own (by (dn_key_eq k suffix) (sym (length-reverse own) ∙ collect_length (rdn_key rows) (reverse own) (own_part suffix k) named))
  where
    one_at_most : (k : DnKeys) → length (take 1 k) ≤ 1
    one_at_most [] = omega arith
    one_at_most (x ∷ xs) = omega arith

    by : (b : Bool) → length own ≡ length (cond b k (take 1 (reverse k))) → length own ≤ cond b (length k) 1
    by true e = omega (arith, e)
    by false e = let one = one_at_most (reverse k) in omega (arith, e, one)
