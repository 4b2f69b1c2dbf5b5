-- What the tests on keys mean.
use Rattle.std.proofs.Common.{◌≡◌, Bool, [], ◌∷◌, ◌++◌, drop, length, refl, sym, ap, ◌∙◌, Decides}
use Rattle.std.specs.List.{Contains, list_all, list_any, starts_with}
use Rattle.std.proofs.lemmas.List.{same_from_push}
use Rattle.std.proofs.lemmas.List.Elements.{Decides-contains}
use Rattle.std.proofs.lemmas.Bool.Decides.{Decides-by_and, Decides-by_or, Decides-and}
use Rattle.std.proofs.lemmas.Slice.Eq.{starts_is}
use Rattle.dir_names.specs.Attr.{Attr}
use Rattle.dir_names.specs.Covers.{Covers, covers}
use Rattle.dir_names.specs.Keys.{DnKeys, RdnKeys, IsAtOrBelow, IsParent}
use Rattle.dir_names.specs.Orders.{bytes_eq, bytes_eq_decides, rdn_key_eq, rdn_key_eq_decides, dn_key_eq, dn_key_eq_decides}

pub covers_decides : (a b : Attr) → Decides (covers a b) (Covers a b)
covers_decides a b =
    Decides-and _ _ (bytes_eq_decides a.attr_type b.attr_type)
    (Decides-by_and (λ option. list_any (λ other. bytes_eq other option) b.options) (Contains b.options) (list_all (λ option. list_any (λ other. bytes_eq other option) b.options))
    (λ option. Decides-contains b.options option _ (Decides-by_or (λ other. bytes_eq other option) (λ other. other ≡ option) (list_any (λ other. bytes_eq other option)) (λ other. bytes_eq_decides other option) refl (λ _ _. refl) b.options))
    refl (λ _ _. refl) a.options)

pub at_or_below_decides : (key above : DnKeys) (r : Bool) → r ≡ starts_with rdn_key_eq key above → Decides r (IsAtOrBelow key above)
at_or_below_decides key above r e =
    let s = starts_is rdn_key_eq_decides key above r e in
    (λ t. (drop (length above) key, s.0 t), λ w. s.1 w.0 w.1)

-- the last part and the parts above it, as `split_last` gives them
pub is_parent_decides : (above key : DnKeys) (part : RdnKeys) (rest : DnKeys) (r : Bool) → key ≡ rest ++ part ∷ [] → r ≡ dn_key_eq rest above → Decides r (IsParent above key)
is_parent_decides above key part rest r e t =
    let d = dn_key_eq_decides rest above in (
      λ h. (part, e ∙ ap (λ z. z ++ part ∷ []) (d.0 (sym t ∙ h))),
      λ w. t ∙ d.1 ((same_from_push rest above part w.0 (sym e ∙ w.1)).0),
    )
