-- Lemmas on many calls.
use Rattle.std.proofs.Common.{◌≡◌, ℕ, List, [], ◌∷◌, ◌++◌, refl, sym, ap, subst, ◌∙◌, append_assoc, length-append, zero, suc, arith, Option, Ok}
use Rattle.std.proofs.KnownBytes.{Consumes-trans}
use Rattle.dir_names.specs.declared.schema.TypeRow.{TypeRow}
use Rattle.dir_ldif.specs.declared.faults.StreamFault.TheVariants.{LineTooLong}
use Rattle.dir_ldif.specs.declared.reader.Core.{Core}
use Rattle.dir_ldif.specs.declared.reader.Place.TheVariants.{Reading}
use Rattle.dir_ldif.specs.Reader.Answers.{answers_ahead, answers_at, EndsSoon, hand}
use Rattle.dir_ldif.specs.ManyCalls.{GivesNoEnd, ReadCallsAreUsed, ReadingEndsSoon, ReadingStopsThere, CompletesNone}

-- the call that met the line
at_once : (rows : List TypeRow) (old new : Core) (left left' left'' : Option (List ℕ)) → old ≡ new → left ≡ left' → EndsSoon LineTooLong rows new left' left'' → EndsSoon LineTooLong rows old left left''
at_once rows old new left left' left'' same known h =
    subst (λ c. EndsSoon LineTooLong rows c left left'') (sym same) (subst (λ l. EndsSoon LineTooLong rows new l left'') (sym known) h)

seam : (hand bytes used hand' bytes' front last : List ℕ) → hand ++ bytes ≡ used ++ hand' → hand' ++ bytes' ≡ front ++ last → hand ++ (bytes ++ bytes') ≡ (used ++ front) ++ last
seam hand bytes used hand' bytes' front last p q =
    sym (append_assoc hand bytes bytes') ∙ ap (λ t. t ++ bytes') p ∙ append_assoc used hand' bytes' ∙ ap (λ t. used ++ t) q ∙ sym (append_assoc used front last)

pub run-soon : ReadingEndsSoon
run-soon [] rows old new left left' left'' run h =
    let e = at_once rows old new left left' left'' run.0 run.1 h in
    (e.0, e.1, e.2, answers_ahead rows old e.1, e.3, e.4, e.5, refl, e.6)
run-soon (found ∷ more) rows old new left left' left'' run h =
    let mid = run.0 in
    let step = run.2 in
    let e = run-soon more rows mid new run.1 left' left'' run.3 h in (
      step.0 ++ e.0,
      step.1 ++ e.1,
      e.2,
      e.3,
      Consumes-trans left run.1 left'' step.0 e.0 step.2 e.4,
      seam (hand old) step.0 step.1 (hand mid) e.0 e.1 e.2 step.3 e.5,
      e.6,
      step.4 e.1 ∙ ap (λ t. Ok found ∷ t) e.7,
      e.8,
    )

-- ---- the source failed, or gave no end

settles_at_once : (rows : List TypeRow) (old new : Core) (left left' left'' : Option (List ℕ)) → old ≡ new → left ≡ left' → CompletesNone rows new left' left'' → CompletesNone rows old left left''
settles_at_once rows old new left left' left'' same known h =
    subst (λ c. CompletesNone rows c left left'') (sym same) (subst (λ l. CompletesNone rows new l left'') (sym known) h)

seam_after : (hand bytes used hand' bytes' text : List ℕ) → hand ++ bytes ≡ used ++ hand' → hand ++ ((bytes ++ bytes') ++ text) ≡ used ++ (hand' ++ (bytes' ++ text))
seam_after hand bytes used hand' bytes' text p =
    ap (λ t. hand ++ t) (append_assoc bytes bytes' text) ∙ sym (append_assoc hand bytes (bytes' ++ text)) ∙ ap (λ t. t ++ (bytes' ++ text)) p ∙ append_assoc used hand' (bytes' ++ text)

pub run-stops : ReadingStopsThere
run-stops [] rows old new left left' left'' run h =
    let e = settles_at_once rows old new left left' left'' run.0 run.1 h in
    (e.0, λ text. answers_at Reading rows old (e.0 ++ text), e.1, λ text. refl, e.2)
run-stops (found ∷ more) rows old new left left' left'' run h =
    let mid = run.0 in
    let step = run.2 in
    let e = run-stops more rows mid new run.1 left' left'' run.3 h in (
      step.0 ++ e.0,
      e.1,
      Consumes-trans left run.1 left'' step.0 e.0 step.2 e.2,
      λ text. ap (answers_ahead rows old) (seam_after (hand old) step.0 step.1 (hand mid) e.0 text step.3) ∙ step.4 (hand mid ++ (e.0 ++ text)) ∙ ap (λ t. Ok found ∷ t) (e.3 text),
      e.4,
    )

-- ---- the read calls

no_end_at_once : (old new : Core) (left left' left'' : Option (List ℕ)) → old ≡ new → left ≡ left' → GivesNoEnd new left' left'' → GivesNoEnd old left left''
no_end_at_once old new left left' left'' same known h = subst (λ c. GivesNoEnd c left left'') (sym same) (subst (λ l. GivesNoEnd new l left'') (sym known) h)

pub run-uses : ReadCallsAreUsed
run-uses zero old new left left' left'' calls h = no_end_at_once old new left left' left'' calls.0 calls.1 h
run-uses (suc n) old new left left' left'' calls h =
    let step = calls.2 in
    let e = run-uses n calls.0 new calls.1 left' left'' calls.3 h in
    (step.0 ++ e.0, Consumes-trans left calls.1 left'' step.0 e.0 step.1 e.1, omega (arith, step.2, e.2, length-append step.0 e.0))
