-- Lemmas on folding a line.
use Rattle.std.proofs.Common.{◌≡◌, ℕ, zero, suc, true, ◌+◌, ◌-◌, ◌<◌, ◌≤◌, List, [], ◌∷◌, ◌++◌, length, refl, sym, ap, ◌∙◌, append_assoc, append-nil, length-append, arith}
use Rattle.dir_ldif.specs.LineText.{fold_from, is_plain, written_line}

-- a prefix that there is room for stays as it is
pub fold_from-fits : (front rest : List ℕ) (room : ℕ) → length front ≤ room → fold_from room (front ++ rest) ≡ front ++ fold_from (room - length front) rest
unfolding fold_from
fold_from-fits [] rest room h = let e : room ≡ room - 0 = omega arith in ap (λ r. fold_from r rest) e
fold_from-fits (x ∷ xs) rest zero h = absurd (omega arith)
fold_from-fits (x ∷ xs) rest (suc room) h =
    let e : suc room - length (x ∷ xs) ≡ room - length xs = omega arith in
    rw e (ap (λ t. x ∷ t) (fold_from-fits xs rest room (omega arith)))

-- where a prefix fills the room, the rest goes on in a new physical line
pub fold_from-full : (front rest : List ℕ) (room : ℕ) → length front ≡ room → 0 < length rest → fold_from room (front ++ rest) ≡ front ++ 10 ∷ 32 ∷ fold_from 75 rest
unfolding fold_from
fold_from-full [] [] room e h = absurd (omega arith)
fold_from-full [] (r ∷ rs) zero e h = refl
fold_from-full [] (r ∷ rs) (suc room) e h = absurd (omega arith)
fold_from-full (x ∷ xs) rest zero e h = absurd (omega arith)
fold_from-full (x ∷ xs) rest (suc room) e h = ap (λ t. x ∷ t) (fold_from-full xs rest room (omega arith) h)

-- one turn of the writer: a prefix that fills the room, and the beginning of a new physical line
pub fold_from-turn : (out first second front after rest wanted : List ℕ) (room : ℕ) → first ≡ out ++ front → second ≡ first ++ 10 ∷ 32 ∷ [] → length front ≡ room
    → 0 < length after → out ++ fold_from room ((front ++ after) ++ rest) ≡ wanted → second ++ fold_from 75 (after ++ rest) ≡ wanted
fold_from-turn out first second front after rest wanted room a b k h e =
    let longer : 0 < length (after ++ rest) = omega (arith, length-append after rest) in
    let full = fold_from-full front (after ++ rest) room k longer in
    let tail = fold_from 75 (after ++ rest) in
    let whole : ((out ++ front) ++ 10 ∷ 32 ∷ []) ++ tail ≡ out ++ (front ++ 10 ∷ 32 ∷ tail) =
    append_assoc (out ++ front) (10 ∷ 32 ∷ []) tail ∙ append_assoc out front (10 ∷ 32 ∷ tail) in
    rw (b, a) (whole ∙ ap (λ t. out ++ t) (sym full) ∙ ap (λ t. out ++ fold_from room t) (sym (append_assoc front after rest)) ∙ e)

-- the last turn: what there is room for
pub fold_from-end : (out last front rest wanted : List ℕ) (room : ℕ) → last ≡ out ++ front → length front ≤ room → out ++ fold_from room (front ++ rest) ≡ wanted
    → last ++ fold_from (room - length front) rest ≡ wanted
fold_from-end out last front rest wanted room a k e =
    rw a (append_assoc out front _ ∙ ap (λ t. out ++ t) (sym (fold_from-fits front rest room k)) ∙ e)

-- a line that was written in two parts, and its end
pub folded_whole : (before between after name text : List ℕ) (room left : ℕ) → ((rest : List ℕ) → between ++ fold_from room rest ≡ before ++ fold_from 76 (name ++ rest))
    → ((rest : List ℕ) → after ++ fold_from left rest ≡ between ++ fold_from room (text ++ rest)) → after ++ 10 ∷ [] ≡ before ++ fold_from 76 (name ++ text)
unfolding fold_from
folded_whole before between after name text room left a b = b [] ∙ a (text ++ []) ∙ ap (λ t. before ++ fold_from 76 (name ++ t)) (append-nil text)

-- a line with a plain value that fits in one physical line
pub written_line-short : (out name value : List ℕ) → is_plain value ≡ true → length name + length value ≤ 74
    → (((out ++ name) ++ 58 ∷ 32 ∷ []) ++ value) ++ 10 ∷ [] ≡ out ++ written_line name value
unfolding fold_from
written_line-short out name [] plain fits = cc
written_line-short out name (b ∷ bs) plain fits =
    let value = b ∷ bs in
    let line = name ++ 58 ∷ 32 ∷ value in
    let long : length line ≤ 76 = omega (arith, length-append name (58 ∷ 32 ∷ value)) in
    let flat : (((out ++ name) ++ 58 ∷ 32 ∷ []) ++ value) ++ 10 ∷ [] ≡ out ++ (line ++ 10 ∷ []) =
    append_assoc ((out ++ name) ++ 58 ∷ 32 ∷ []) value (10 ∷ []) ∙ append_assoc (out ++ name) (58 ∷ 32 ∷ []) (value ++ 10 ∷ []) ∙ append_assoc out name (58 ∷ 32 ∷ value ++ 10 ∷ []) ∙ ap (λ t. out ++ t) (sym (append_assoc name (58 ∷ 32 ∷ value) (10 ∷ []))) in
    rw plain (flat ∙ ap (λ t. out ++ t) (sym (fold_from-fits line [] 76 long) ∙ ap (λ t. fold_from 76 t) (append-nil line)))
