-- Lists of attributes without a note, so that they need not be read a second time for the notes.
use Rattle.std.specs.Prelude.{◌≡◌, ℕ, Bool, true, false, cond, not, List, [], ◌∷◌, codes, Option, Some, None}
use Rattle.std.specs.List.{list_all}
use Rattle.dir_names.specs.Ascii.{comma, equals_sign}
use Rattle.dir_names.specs.Cut.{after_first_separator, parts_at}
use Rattle.dir_conf_text.specs.Keywords.{is_word}
use Rattle.dir_acl.specs.declared.access.Rule.{Rule}
use Rattle.dir_acl.specs.declared.note.Note.{Note}
use Rattle.dir_acl.specs.Config.AccessRules.{is_by}
use Rattle.dir_acl.specs.Config.Names.{form_of}
use Rattle.dir_acl.specs.Notes.{items_notes}
use Rattle.dir_acl.specs.Notes.Known.{asked_known}
use Rattle.dir_acl.specs.Notes.Supertypes.{NotedTypes}
use Rattle.dir_acl.specs.Rules.{Restriction, rule_of, to_attrs, to_filter, to_names, to_open}

-- ---- in a rule that was read

-- each item of a list is a pseudo attribute, or one of a known type from which no other is derived
abbrev pub is_clear_list : NotedTypes → Restriction → Bool
is_clear_list types (to_names style name) = true
is_clear_list types (to_filter filter) = true
is_clear_list types (to_attrs items) = list_all (asked_known types) items
is_clear_list types (to_open what) = false

abbrev pub HasClearLists : NotedTypes → Option Rule → Type 0
HasClearLists types None = ⊥
HasClearLists types (Some rule) = list_all (is_clear_list types) (rule_of rule).what ≡ true

-- ---- in the words of a rule

abbrev pub list_notes : NotedTypes → ℕ → List ℕ → Option (List ℕ) → List Note
list_notes types n form None = []
list_notes types n form (Some text) = cond (is_word form (codes "attrs")) (items_notes types n (parts_at comma text)) []

-- the notes on the list that a word is, if it is one
abbrev pub listed_notes : NotedTypes → ℕ → Option (List ℕ) → List Note
listed_notes types n None = []
listed_notes types n (Some word) = list_notes types n (form_of word) (after_first_separator equals_sign word)

-- the <what> goes on up to `by`
abbrev pub goes_on : Option (List ℕ) → Bool
goes_on None = false
goes_on (Some word) = not (is_by word)

-- no list of a <what>, which goes on with these words, has a note
abbrev pub AreSilent : NotedTypes → ℕ → List (Option (List ℕ)) → Type 0
AreSilent types n [] = Unit {0}
AreSilent types n (word ∷ words) = goes_on word ≡ true → (listed_notes types n word ≡ []) × AreSilent types n words
