-- What an entry has under the key of one description: an attribute, or nothing (RFC 4512, section 2.3).
use Rattle.std.specs.Prelude.{ℕ, cond, ◌==◌, List, [], ◌∷◌, Option, Some, None}
use Rattle.std.specs.FinMap as fin
use Rattle.dir_names.specs.Attr.{Attr}
use Rattle.dir_tree.specs.Content.{Stored, StoredValues, StoredAttributes}

-- the attributes with this under the key, and all others as they were
abbrev pub with_slot : StoredAttributes → Attr → Option Stored → StoredAttributes
with_slot xs k None = fin.remove xs k
with_slot xs k (Some a) = fin.insert xs k a

-- the attributes with what a part has under each of these keys, and all others as they were
abbrev pub with_slots : StoredAttributes → List Attr → StoredAttributes → StoredAttributes
with_slots xs [] part = xs
with_slots xs (k ∷ ks) part = with_slots (with_slot xs k (fin.get part k)) ks part

-- the values of the attribute, if it is there
abbrev pub values_of : Option Stored → StoredValues
values_of None = fin.empty
values_of (Some a) = a.values

-- how the attribute is spelled; this spelling, if it isn't there
abbrev pub spelling_or : List ℕ → Option Stored → List ℕ
spelling_or spelling None = spelling
spelling_or spelling (Some a) = a.spelling

-- the attribute with these values; an attribute has at least one value
abbrev pub slot_of : List ℕ → StoredValues → Option Stored
slot_of spelling values = cond (fin.len values == 0) None (Some (record { spelling = spelling; values = values }))
