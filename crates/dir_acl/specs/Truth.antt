-- The truth of a filter on an entry, in three values (RFC 4511, section 4.5.1.7; RFC 4526, section 2).
use Rattle.std.specs.Prelude.{ℕ, Bool, true, false, cond, ◌&&◌, List, [], ◌∷◌, Option, Some, None}
use Rattle.std.specs.List.{list_any}
use Rattle.std.specs.FinMap as fin
use Rattle.dir_names.specs.Attr.{Attr}
use Rattle.dir_names.specs.Covers.{covers}
use Rattle.dir_names.specs.Values.{text_of}
use Rattle.dir_tree.specs.Content.{Stored, StoredAttributes}
use Rattle.dir_acl.specs.declared.filter.Filter.{Filter}
use Rattle.dir_acl.specs.declared.filter.Matching.{Matching}
use Rattle.dir_acl.specs.declared.filter.Matching.TheVariants.{Present, Equal, AtLeast, AtMost, Substrings}
use Rattle.dir_acl.specs.declared.filter.truth.Truth.{Truth}
use Rattle.dir_acl.specs.declared.filter.truth.Truth.TheVariants.{True, False, Undefined}
use Rattle.dir_acl.specs.Filters.{Tree, Trees, conjunction, disjunction, negation, test, none, first}
use Rattle.dir_acl.specs.Filters.Packed.{tree_of}
use Rattle.dir_acl.specs.Integers.{is_at_least, is_at_most}
use Rattle.dir_acl.specs.Substrings.{has_pieces}

-- ---- tests

abbrev pub truth_if : Bool → Truth
truth_if holds = cond holds True False

-- an attribute that the description covers is so
abbrev pub is_any_covered : Attr → (Stored → Bool) → StoredAttributes → Bool
is_any_covered attr is_so attributes = list_any (λ a. covers attr a.0 && is_so a.1) (fin.entries attributes)

-- what a test asks of the text that is a value's key. The key of a name has none
abbrev pub text_has : Matching → Option (List ℕ) → Bool
text_has matching None = false
text_has Present (Some text) = false
text_has (Equal key) (Some text) = false
text_has (AtLeast None) (Some text) = false
text_has (AtLeast (Some bound)) (Some text) = is_at_least bound text
text_has (AtMost None) (Some text) = false
text_has (AtMost (Some bound)) (Some text) = is_at_most bound text
text_has (Substrings None) (Some text) = false
text_has (Substrings (Some pieces)) (Some text) = has_pieces pieces text

-- the key of one of the values is so
abbrev pub has_text_key : Matching → Stored → Bool
has_text_key matching stored = list_any (λ v. text_has matching (text_of v.0)) (fin.entries stored.values)

-- what a test asks of an attribute: that it is there; that it has the value; that the key of a value is in range, or has the pieces
abbrev pub has_matching : Matching → Stored → Bool
has_matching Present stored = true
has_matching (Equal None) stored = has_text_key (Equal None) stored
has_matching (Equal (Some key)) stored = fin.contains_key stored.values key
has_matching (AtLeast bound) stored = has_text_key (AtLeast bound) stored
has_matching (AtMost bound) stored = has_text_key (AtMost bound) stored
has_matching (Substrings pieces) stored = has_text_key (Substrings pieces) stored

-- a test looks at all attributes that its description covers. It is Undefined if the type has no such matching rule, or the assertion no key
abbrev pub matching_truth : StoredAttributes → Attr → Matching → Truth
matching_truth attributes attr Present = truth_if (is_any_covered attr (has_matching Present) attributes)
matching_truth attributes attr (Equal None) = Undefined
matching_truth attributes attr (Equal (Some key)) = truth_if (is_any_covered attr (has_matching (Equal (Some key))) attributes)
matching_truth attributes attr (AtLeast None) = Undefined
matching_truth attributes attr (AtLeast (Some bound)) = truth_if (is_any_covered attr (has_matching (AtLeast (Some bound))) attributes)
matching_truth attributes attr (AtMost None) = Undefined
matching_truth attributes attr (AtMost (Some bound)) = truth_if (is_any_covered attr (has_matching (AtMost (Some bound))) attributes)
matching_truth attributes attr (Substrings None) = Undefined
matching_truth attributes attr (Substrings (Some pieces)) = truth_if (is_any_covered attr (has_matching (Substrings (Some pieces))) attributes)

-- ---- filters

abbrev pub is_true : Truth → Bool
is_true True = true
is_true False = false
is_true Undefined = false

abbrev pub is_false : Truth → Bool
is_false True = false
is_false False = true
is_false Undefined = false

abbrev pub is_undefined : Truth → Bool
is_undefined True = false
is_undefined False = false
is_undefined Undefined = true

-- False if one is False; else Undefined if one is Undefined; else True
abbrev pub all_of : List Truth → Truth
all_of truths = cond (list_any is_false truths) False (cond (list_any is_undefined truths) Undefined True)

-- True if one is True; else Undefined if one is Undefined; else False
abbrev pub any_of : List Truth → Truth
any_of truths = cond (list_any is_true truths) True (cond (list_any is_undefined truths) Undefined False)

-- the same of two, to go through a list
abbrev pub both : Truth → Truth → Truth
both True another = another
both False another = False
both Undefined True = Undefined
both Undefined False = False
both Undefined Undefined = Undefined

abbrev pub either : Truth → Truth → Truth
either True another = True
either False another = another
either Undefined True = True
either Undefined False = Undefined
either Undefined Undefined = Undefined

abbrev pub opposite : Truth → Truth
opposite True = False
opposite False = True
opposite Undefined = Undefined

abbrev mutual
  -- the truth of a filter on an entry with these attributes
  pub tree_truth : StoredAttributes → Tree → Truth
  tree_truth attributes (conjunction ts) = all_of (truths attributes ts)
  tree_truth attributes (disjunction ts) = any_of (truths attributes ts)
  tree_truth attributes (negation t) = opposite (tree_truth attributes t)
  tree_truth attributes (test t) = matching_truth attributes t.attr t.matching

  pub truths : StoredAttributes → Trees → List Truth
  truths attributes none = []
  truths attributes (first t ts) = tree_truth attributes t ∷ truths attributes ts

abbrev pub truth_of : StoredAttributes → Filter → Truth
truth_of attributes filter = tree_truth attributes (tree_of filter)
