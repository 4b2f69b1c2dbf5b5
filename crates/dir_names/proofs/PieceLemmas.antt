-- A text split at its first separator that no backslash escapes.
use Rattle.std.proofs.Common.{◌≡◌, ℕ, ◌+◌, ◌<◌, ◌≤◌, Bool, true, false, cond, not, ◌&&◌, List, [], ◌∷◌, ◌++◌, take, drop, length, get_or, None, refl, sym, ap, ◌∙◌, append_assoc}
use Rattle.std.specs.Prelude.{◌==◌}
use Rattle.std.specs.List.{onto_first}
use Rattle.std.proofs.lemmas.List.{append-nil, drop_more, take_more, take_all}
use Rattle.std.proofs.Math.ListN.{drop_of_length-le}
use Rattle.dir_names.specs.Names.Reading.{pieces, only_rdn}

-- a text before the first piece
abbrev pub onto : List ℕ → List (List ℕ) → List (List ℕ)
onto front [] = front ∷ []
onto front (piece ∷ rest) = (front ++ piece) ∷ rest

onto_more : (front : List ℕ) (b : ℕ) (rest : List (List ℕ)) → onto front (onto_first b rest) ≡ onto (front ++ b ∷ []) rest
onto_more front b [] = refl
onto_more front b (piece ∷ rest) = ap (λ p. p ∷ rest) (sym (append_assoc front (b ∷ []) piece))

module _ (separator : ℕ) where
  pub some_piece : (e : Bool) (text : List ℕ) → pieces separator e text ≡ onto [] (pieces separator e text)
  some_piece e [] = refl
  some_piece e (b ∷ bs) =
      by (not e && (b == separator)) (pieces separator (not e && (b == 92)) bs)
    where
      by : (t : Bool) (ps : List (List ℕ)) → cond t ([] ∷ pieces separator false bs) (onto_first b ps) ≡ onto [] (cond t ([] ∷ pieces separator false bs) (onto_first b ps))
      by true ps = refl
      by false [] = refl
      by false (p ∷ ps) = refl

  pub pieces_none : (text : List ℕ) → pieces separator false text ≡ onto (take 0 text) (pieces separator false (drop 0 text))
  pieces_none text = some_piece false text

  module _ (text : List ℕ) (i : ℕ) (e : Bool) (b : ℕ) (inside : i < length text) (item : b ≡ get_or text i 0) (so_far : pieces separator false text ≡ onto (take i text) (pieces separator e (drop i text))) where
    opened : pieces separator false text ≡ onto (take i text) (pieces separator e (b ∷ drop (i + 1) text))
    opened = so_far ∙ ap (λ l. onto (take i text) (pieces separator e l)) (drop_more text i 0 inside ∙ ap (λ c. c ∷ drop (i + 1) text) (sym item))

    pub pieces_cut : (not e && (b == separator)) ≡ true → pieces separator false text ≡ take i text ∷ pieces separator false (drop (i + 1) text)
    pieces_cut t =
        opened ∙ ap (λ x. onto (take i text) (cond x ([] ∷ pieces separator false (drop (i + 1) text)) (onto_first b (pieces separator (not e && (b == 92)) (drop (i + 1) text))))) t
        ∙ ap (λ p. p ∷ pieces separator false (drop (i + 1) text)) (append-nil (take i text))

    pub pieces_more : (not e && (b == separator)) ≡ false → pieces separator false text ≡ onto (take (i + 1) text) (pieces separator (not e && (b == 92)) (drop (i + 1) text))
    pieces_more t =
        opened ∙ ap (λ x. onto (take i text) (cond x ([] ∷ pieces separator false (drop (i + 1) text)) (onto_first b (pieces separator (not e && (b == 92)) (drop (i + 1) text))))) t
        ∙ onto_more (take i text) b (pieces separator (not e && (b == 92)) (drop (i + 1) text))
        ∙ ap (λ f. onto f (pieces separator (not e && (b == 92)) (drop (i + 1) text))) (ap (λ c. take i text ++ c ∷ []) item ∙ sym (take_more text i 0 inside))

  pub pieces_all : (text : List ℕ) (i : ℕ) (e : Bool) → length text ≤ i → pieces separator false text ≡ onto (take i text) (pieces separator e (drop i text)) → pieces separator false text ≡ text ∷ []
  pieces_all text i e past so_far =
      so_far ∙ ap (λ l. onto (take i text) (pieces separator e l)) (drop_of_length-le text past) ∙ ap (λ p. p ∷ []) (append-nil (take i text) ∙ take_all i text past)

-- a text with a separator is no single piece
pub only_more : (piece : List ℕ) (separator : ℕ) (text : List ℕ) → only_rdn (piece ∷ pieces separator false text) ≡ None
only_more piece separator text = ap (λ ps. only_rdn (piece ∷ ps)) (some_piece separator false text) ∙ by (pieces separator false text)
  where
    by : (ps : List (List ℕ)) → only_rdn (piece ∷ onto [] ps) ≡ None
    by [] = refl
    by (p ∷ ps) = refl
