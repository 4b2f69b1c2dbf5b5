-- What follows one key in another.
use Rattle.std.proofs.Common.{◌≡◌, Bool, true, false, cond, [], ◌∷◌, ◌++◌, length, take, drop, Option, Some, None, is_some, refl, sym, ap, ◌∙◌, append_assoc, true≢false}
use Rattle.std.proofs.lemmas.List.{take-append-drop}
use Rattle.std.proofs.Math.Seq.{take-append_seam}
use Rattle.dir_names.specs.Below.{is_at_or_below}
use Rattle.dir_names.specs.Keys.{DnKeys}
use Rattle.dir_names.specs.Orders.{dn_key_eq_decides, rdn_key_eq, rdn_key_eq_decides}
use Rattle.dir_tree.specs.Moves.{rest_below}

pub rest_is : (above k rest : DnKeys) → rest_below above k ≡ Some rest → k ≡ above ++ rest
rest_is [] k rest e = cc
rest_is (part ∷ above) [] rest e = absurd (cc)
rest_is (part ∷ above) (first ∷ k) rest e = by (rest_is above k rest) (rdn_key_eq part first) refl e
  where
    by : (rest_below above k ≡ Some rest → k ≡ above ++ rest) → (b : Bool) → rdn_key_eq part first ≡ b → cond b (rest_below above k) None ≡ Some rest → first ∷ k ≡ part ∷ above ++ rest
    by more false t h = absurd (cc)
    by more true t h =
        let same : part ≡ first = (rdn_key_eq_decides part first).0 t in
        λ i. sym same i ∷ more h i

pub rest_of : (above rest : DnKeys) → rest_below above (above ++ rest) ≡ Some rest
rest_of [] rest = refl
rest_of (part ∷ above) rest = ap (λ b. cond b (rest_below above (above ++ rest)) None) ((rdn_key_eq_decides part part).1 refl) ∙ rest_of above rest

-- a key at or below another, whatever follows it
pub rest_joined : (above k rest more : DnKeys) → rest_below above k ≡ Some rest → rest_below above (k ++ more) ≡ Some (rest ++ more)
rest_joined above k rest more e = ap (λ z. rest_below above (z ++ more)) (rest_is above k rest e) ∙ ap (rest_below above) (append_assoc above rest more) ∙ rest_of above (rest ++ more)

-- the same as a test
pub is_below : (above k : DnKeys) → is_at_or_below k above ≡ is_some (rest_below above k)
is_below above k = by (rest_below above k) refl (is_at_or_below k above) refl
  where
    by : (o : Option DnKeys) → rest_below above k ≡ o → (b : Bool) → is_at_or_below k above ≡ b → b ≡ is_some o
    by (Some rest) t true u = refl
    by (Some rest) t false u = absurd (true≢false (sym ((dn_key_eq_decides (take (length above) k) above).1 (ap (take (length above)) (rest_is above k rest t) ∙ take-append_seam above rest)) ∙ u))
    by None t false u = refl
    by None t true u =
        let same : k ≡ above ++ drop (length above) k = sym (take-append-drop (length above) k) ∙ ap (λ z. z ++ drop (length above) k) ((dn_key_eq_decides (take (length above) k) above).0 u) in
        absurd (not_both (sym t ∙ ap (rest_below above) same ∙ rest_of above (drop (length above) k)))
      where
        not_both : ◌≡◌ {A = Option DnKeys} None (Some (drop (length above) k)) → ⊥
        not_both e = cc
