-- Which filter a text spells, as the grammar (RFC 4515, section 3, without extensible matches; RFC 4526, section 2). `Filters.Reading` computes the
-- same, and the law `reading_is_the_grammar` says that the two agree.
pub mod Packed
pub mod Reading
use Rattle.std.specs.Prelude.{◌≡◌, ℕ, zero, suc, Bool, true, false, cond, not, ◌&&◌, ◌||◌, ◌==◌, List, [], ◌∷◌, ◌++◌, map, Some}
use Rattle.std.specs.List.{list_any}
use Rattle.dir_names.specs.declared.schema.TypeRow.{TypeRow}
use Rattle.dir_acl.specs.declared.filter.Test.{Test}
use Rattle.dir_acl.specs.Signs.{open_parenthesis, close_parenthesis, ampersand, vertical_bar, exclamation_mark}
use Rattle.dir_acl.specs.Tests.{test_of}

-- ---- filters as trees

mutual
  pub data Tree : Type 0 where
    conjunction : Trees → Tree
    disjunction : Trees → Tree
    negation : Tree → Tree
    test : Test → Tree

  pub data Trees : Type 0 where
    none : Trees
    first : Tree → Trees → Trees

abbrev pub trees_of : List Tree → Trees
trees_of [] = none
trees_of (t ∷ ts) = first t (trees_of ts)

-- ---- the grammar

-- a test's text: it has no `)`, and doesn't begin as a list of filters or a negation does
abbrev pub begins_filters : ℕ → Bool
begins_filters b = b == ampersand || (b == vertical_bar || b == exclamation_mark)

abbrev pub begins_test : List ℕ → Bool
begins_test [] = true
begins_test (b ∷ bs) = not (begins_filters b)

abbrev pub is_test_text : List ℕ → Bool
is_test_text text = begins_test text && not (list_any (λ b. b == close_parenthesis) text)

abbrev mutual
  -- `(&` filters `)`, `(|` filters `)`, `(!` one filter `)`, or `(` a test `)`
  pub Spells : List TypeRow → List ℕ → Tree → Type 0
  Spells rows text (conjunction ts) = (filters : List ℕ) × (text ≡ open_parenthesis ∷ ampersand ∷ filters ++ close_parenthesis ∷ []) × SpellsEach rows filters ts
  Spells rows text (disjunction ts) = (filters : List ℕ) × (text ≡ open_parenthesis ∷ vertical_bar ∷ filters ++ close_parenthesis ∷ []) × SpellsEach rows filters ts
  Spells rows text (negation t) = (filter : List ℕ) × (text ≡ open_parenthesis ∷ exclamation_mark ∷ filter ++ close_parenthesis ∷ []) × Spells rows filter t
  Spells rows text (test t) = (item : List ℕ) × (text ≡ open_parenthesis ∷ item ++ close_parenthesis ∷ []) × (is_test_text item ≡ true) × (test_of rows item ≡ Some t)

  -- any number of filters, one after the other
  pub SpellsEach : List TypeRow → List ℕ → Trees → Type 0
  SpellsEach rows text none = text ≡ []
  SpellsEach rows text (first t ts) = (one : List ℕ) × (rest : List ℕ) × (text ≡ one ++ rest) × Spells rows one t × SpellsEach rows rest ts

-- some prefix of the text could begin a filter, and ends in a `(` below so many others
pub data IsTooDeep (rows : List TypeRow) : ℕ → List ℕ → Type 0 where
  here : (text rest : List ℕ) → text ≡ open_parenthesis ∷ rest → IsTooDeep rows zero text
  in_conjunction : (n : ℕ) (text filters rest : List ℕ) (ts : Trees) → text ≡ open_parenthesis ∷ ampersand ∷ filters ++ rest → SpellsEach rows filters ts → IsTooDeep rows n rest → IsTooDeep rows (suc n) text
  in_disjunction : (n : ℕ) (text filters rest : List ℕ) (ts : Trees) → text ≡ open_parenthesis ∷ vertical_bar ∷ filters ++ rest → SpellsEach rows filters ts → IsTooDeep rows n rest → IsTooDeep rows (suc n) text
  in_negation : (n : ℕ) (text rest : List ℕ) → text ≡ open_parenthesis ∷ exclamation_mark ∷ rest → IsTooDeep rows n rest → IsTooDeep rows (suc n) text

-- a text that doesn't begin with `(` is read as if it stood in parentheses
abbrev pub begins_with_parenthesis : List ℕ → Bool
begins_with_parenthesis [] = false
begins_with_parenthesis (b ∷ bs) = b == open_parenthesis

abbrev pub in_parentheses : List ℕ → List ℕ
in_parentheses text = cond (begins_with_parenthesis text) text (open_parenthesis ∷ text ++ close_parenthesis ∷ [])
