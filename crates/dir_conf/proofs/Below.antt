-- Whether a name is at or below another, as a test.
use Rattle.std.proofs.Common.{◌≡◌, ◌++◌, Bool, true, false, length, take, drop, refl, sym, ap, ◌∙◌}
use Rattle.std.proofs.lemmas.List.{take-append-drop}
use Rattle.std.proofs.Math.Seq.{take-append_seam}
use Rattle.dir_names.specs.Below.{is_at_or_below}
use Rattle.dir_names.specs.Keys.{DnKeys, IsAtOrBelow}
use Rattle.dir_names.specs.Orders.{dn_key_eq_decides}

is_true : (key above : DnKeys) → IsAtOrBelow key above → is_at_or_below key above ≡ true
is_true key above h = (dn_key_eq_decides (take (length above) key) above).1 (ap (take (length above)) h.1 ∙ take-append_seam above h.0)

is_so : (key above : DnKeys) → is_at_or_below key above ≡ true → IsAtOrBelow key above
is_so key above e = (drop (length above) key, sym (take-append-drop (length above) key) ∙ ap (λ z. z ++ drop (length above) key) ((dn_key_eq_decides (take (length above) key) above).0 e))

pub decided : (key above : DnKeys) (r : Bool) → (r ≡ true → IsAtOrBelow key above) → (IsAtOrBelow key above → r ≡ true) → r ≡ is_at_or_below key above
decided key above true to from = sym (is_true key above (to refl))
decided key above false to from = by (is_at_or_below key above) refl
  where
    by : (b : Bool) → is_at_or_below key above ≡ b → false ≡ b
    by true e = from (is_so key above e)
    by false e = refl
