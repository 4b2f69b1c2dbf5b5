-- The text of a name's key, put together from the RDNs, root first.
use Rattle.std.proofs.Common.{◌≡◌, ℕ, ◌+◌, ◌<◌, List, [], ◌∷◌, ◌++◌, length, reverse, take, get_or, Option, Some, None, Ok, refl, sym, ap, ◌∙◌, append_assoc}
use Rattle.std.specs.Option.{option_and_then, option_map}
use Rattle.std.proofs.Math.Seq.{take-length}
use Rattle.std.proofs.lemmas.List.{append-nil, reverse-append, take_more}
use Rattle.dir_names.specs.declared.fault.NameFault.{NameFault}
use Rattle.dir_names.specs.declared.schema.TypeRow.{TypeRow}
use Rattle.dir_names.specs.Attr.{Attr}
use Rattle.dir_names.specs.Inside.SortKeys.{key_or_empty}
use Rattle.dir_names.specs.Inside.SortTexts.{name_sort, rdn_sort}
use Rattle.dir_names.specs.Keys.{DnKeys, RdnKeys}
use Rattle.dir_names.specs.NameKeys.{name_key, pair_key, rdn_key, set_if_distinct}
use Rattle.dir_names.specs.Names.{SpelledName, SpelledPair, SpelledRdn}
use Rattle.dir_names.specs.Outcome.{IsNameFaultOf, ok_or_bad_dn}
use Rattle.dir_names.specs.Results.{option_collect, option_cons}
use Rattle.dir_names.proofs.AllLemmas.{prefixed, all_none, all_more, all_fails, fails_through, ok_some}

-- the text of the names whose parts have been read, and of one part more
pub sort_more : (parts : DnKeys) (k : RdnKeys) → name_sort (parts ++ k ∷ []) ≡ name_sort parts ++ 1 ∷ rdn_sort k
sort_more [] k = ap (λ l. 1 ∷ l) (append-nil (rdn_sort k))
sort_more (p ∷ parts) k = ap (λ l. (1 ∷ rdn_sort p) ++ l) (sort_more parts k) ∙ sym (append_assoc (1 ∷ rdn_sort p) (name_sort parts) (1 ∷ rdn_sort k))

module _ (rows : List TypeRow) (name : SpelledName) where
  -- the first RDNs are still to be read, and the text is that of the keys of the others
  abbrev pub IsSorted : ℕ → List ℕ → Type 0
  IsSorted at text = (done : DnKeys) × (name_key rows name ≡ prefixed done (option_collect (rdn_key rows) (reverse (take at name)))) × (text ≡ name_sort done)

  pub sorted_start : IsSorted (length name) []
  sorted_start = ([], all_none (rdn_key rows) (reverse name) ∙ ap (λ n. prefixed [] (option_collect (rdn_key rows) (reverse n))) (sym (take-length name)), refl)

  before : (at : ℕ) (x : SpelledRdn) → at < length name → x ≡ get_or name at x → reverse (take (at + 1) name) ≡ x ∷ reverse (take at name)
  before at x inside is = ap reverse (take_more name at x inside ∙ ap (λ r. take at name ++ r ∷ []) (sym is)) ∙ reverse-append (take at name) (x ∷ [])

  module _ (at : ℕ) (x : SpelledRdn) (inside : at < length name) (is : x ≡ get_or name at x) (text : List ℕ) (so_far : IsSorted (at + 1) text) where
    reads : name_key rows name ≡ prefixed so_far.0 (option_collect (rdn_key rows) (x ∷ reverse (take at name)))
    reads = so_far.1 ∙ ap (λ r. prefixed so_far.0 (option_collect (rdn_key rows) r)) (before at x inside is)

    pub sorted_more : (k : RdnKeys) → rdn_key rows x ≡ Some k → IsSorted at (text ++ 1 ∷ rdn_sort k)
    sorted_more k e =
        (so_far.0 ++ k ∷ [], all_more (rdn_key rows) (reverse name) so_far.0 x (reverse (take at name)) reads k e, ap (λ t. t ++ 1 ∷ rdn_sort k) so_far.2 ∙ sym (sort_more so_far.0 k))

    pub sorted_fails : rdn_key rows x ≡ None → name_key rows name ≡ None
    sorted_fails = all_fails (rdn_key rows) (reverse name) so_far.0 x (reverse (take at name)) reads

  pub sorted_done : (text : List ℕ) → IsSorted 0 text → option_map name_sort (name_key rows name) ≡ Some text
  sorted_done text s = ap (option_map name_sort) s.1 ∙ ap (λ parts. Some (name_sort parts)) (append-nil s.0) ∙ ap Some (sym s.2)

-- ---- what a text tells of the key

pub map_none : {A B : Type 0} (f : A → B) (o : Option A) → option_map f o ≡ None → o ≡ None
map_none f None e = refl
map_none f (Some x) e = absurd (cc)

pub none_map : {A B : Type 0} (f : A → B) (o : Option A) → o ≡ None → option_map f o ≡ None
none_map f o e = ap (option_map f) e

pub some_text : (o : Option RdnKeys) (old text : List ℕ) → ok_or_bad_dn (option_map (λ k. old ++ 1 ∷ rdn_sort k) o) ≡ Ok text → (k : RdnKeys) × (o ≡ Some k) × (text ≡ old ++ 1 ∷ rdn_sort k)
some_text None old text e = absurd (cc)
some_text (Some k) old text e = (k, refl, cc)

pub kept_is : (o : Option DnKeys) (text : List ℕ) → ok_or_bad_dn (option_map name_sort o) ≡ Ok text → (ok_or_bad_dn o ≡ Ok (key_or_empty o)) × (text ≡ name_sort (key_or_empty o))
kept_is None text e = absurd (cc)
kept_is (Some key) text e = (refl, cc)

pub kept_fails : (e : NameFault) (o : Option DnKeys) → IsNameFaultOf e (ok_or_bad_dn (option_map name_sort o)) → IsNameFaultOf e (ok_or_bad_dn o)
kept_fails e o f = fails_through e (option_map name_sort o) o (map_none name_sort o) f

-- an RDN of one pair
pub only_pair : (rows : List TypeRow) (p : SpelledPair) → rdn_key rows (p ∷ []) ≡ option_map (λ k. k ∷ []) (pair_key rows p)
only_pair rows p = by (pair_key rows p)
  where
    by : (o : Option (Attr × List ℕ)) → option_and_then set_if_distinct (option_cons o (Some [])) ≡ option_map (λ k. k ∷ []) o
    by None = refl
    by (Some k) = refl

pub only_some : (rows : List TypeRow) (p : SpelledPair) (k : Attr × List ℕ) → ok_or_bad_dn (pair_key rows p) ≡ Ok k → rdn_key rows (p ∷ []) ≡ Some (k ∷ [])
only_some rows p k e = only_pair rows p ∙ ap (option_map (λ k. k ∷ [])) (ok_some (pair_key rows p) k e)

pub only_fails : (rows : List TypeRow) (p : SpelledPair) (old : List ℕ) (e : NameFault) → IsNameFaultOf e (ok_or_bad_dn (pair_key rows p)) → IsNameFaultOf e (ok_or_bad_dn (option_map (λ key. old ++ 1 ∷ rdn_sort key) (rdn_key rows (p ∷ []))))
only_fails rows p old e f = fails_through e (pair_key rows p) (option_map (λ key. old ++ 1 ∷ rdn_sort key) (rdn_key rows (p ∷ []))) (λ none. ap (option_map (λ key. old ++ 1 ∷ rdn_sort key)) (only_pair rows p ∙ ap (option_map (λ k. k ∷ [])) none)) f
