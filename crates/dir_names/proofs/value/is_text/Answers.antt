use Rattle.std.proofs.Common.{◌≡◌, Bool, true, false, not, ◌&&◌, length, refl, sym, ap, ◌∙◌}
use Rattle.std.specs.Bool.{◌==◌}
use Rattle.std.specs.Str.{is_utf8}
use Rattle.std.proofs.lemmas.Str.{is_utf8-from_IsUtf8}
use Rattle.dir_names.proofs.AsciiFolding.{not_utf8}
use Rattle.dir_names.proofs.value.is_text.Goals as goal

and_true : (a b : Bool) → b ≡ true → a ≡ (a && b)
and_true true b e = sym e
and_true false b e = refl

and_false : (a b : Bool) → b ≡ false → false ≡ (a && b)
and_false true b e = sym e
and_false false b e = refl

pub returns-in-Ok : goal.returns-in-Ok
returns-in-Ok c =
    let text = c.args.value.now in
    ap not c.is_empty.ensures ∙ and_true (not (length text == 0)) (is_utf8 text) (is_utf8-from_IsUtf8 text c.in-Ok.ensures.cases.1)

pub returns-in-Err : goal.returns-in-Err
returns-in-Err c =
    let text = c.args.value.now in
    and_false (not (length text == 0)) (is_utf8 text) (not_utf8 text c.in-Err.ensures.cases.0)
