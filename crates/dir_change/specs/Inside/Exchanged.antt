-- How what is under a key is exchanged: first the values that come are added, then those that go are taken away.
use Rattle.std.specs.Prelude.{◌≡◌, ℕ, true, false, cond, not, ◌&&◌, List, [], ◌∷◌, Option, Some, None, ⊤}
use Rattle.std.specs.FinMap as fin
use Rattle.dir_names.specs.declared.value.ValueKey.{ValueKey}
use Rattle.dir_names.specs.Attr.{Attr}
use Rattle.dir_names.specs.Orders.{bytes_eq}
use Rattle.dir_tree.specs.Content.{Stored, StoredAttributes, StoredValues}
use Rattle.dir_tree.specs.Slots.{with_slot}
use Rattle.dir_change.specs.Inside.Patched.{patched}
use Rattle.dir_change.specs.Modify.{KeyedValues}

-- the first, if there is one
abbrev pub first_of : Option (List ℕ) → Option (List ℕ) → Option (List ℕ)
first_of None other = other
first_of (Some bytes) other = Some bytes

-- the values and those of the part after that are not there
abbrev pub AreGrown : StoredValues → StoredValues → StoredValues → Type 0
AreGrown values after new = (v : ValueKey) → fin.get new v ≡ first_of (fin.get values v) (fin.get after v)

-- some of them may have been added
abbrev pub AreGrowing : StoredValues → StoredValues → StoredValues → Type 0
AreGrowing values after new = (v : ValueKey) → (fin.contains_key after v && not (fin.contains_key values v)) ≡ false → fin.get new v ≡ fin.get values v

-- the values without those of the part after that are not of the part before
abbrev pub AreShrunk : StoredValues → StoredValues → StoredValues → StoredValues → Type 0
AreShrunk values before after new = (v : ValueKey) → fin.get new v ≡ cond (fin.contains_key after v && not (fin.contains_key before v)) None (fin.get values v)

-- each value of the part before has the bytes of the part after, or is gone
abbrev pub AreSettled : StoredValues → StoredValues → StoredValues → StoredValues → Type 0
AreSettled values before after new = (v : ValueKey) → fin.get new v ≡ cond (fin.contains_key before v) (cond (fin.contains_key values v) (fin.get after v) None) (fin.get values v)

-- the part before is of the values, and what else is in the part after is not among them
abbrev pub FitValues : StoredValues → StoredValues → StoredValues → Type 0
FitValues values before after = ((v : ValueKey) → fin.contains_key before v ≡ true → fin.contains_key values v ≡ true)
    × ((v : ValueKey) → fin.contains_key after v ≡ true → fin.contains_key before v ≡ false → fin.contains_key values v ≡ false)

-- the same of what is under a key
abbrev pub Fit : Option Stored → Option Stored → Option Stored → Type 0
Fit slot None None = ⊤
Fit None None (Some b) = ⊤
Fit (Some x) None (Some b) = ⊥
Fit None (Some a) after = ⊥
Fit (Some x) (Some a) None = ⊤
Fit (Some x) (Some a) (Some b) = FitValues x.values a.values b.values

abbrev pub FitAttributes : StoredAttributes → StoredAttributes → StoredAttributes → Type 0
FitAttributes xs before after = (q : Attr) → Fit (fin.get xs q) (fin.get before q) (fin.get after q)

-- what is under a key, of whose attribute the second part may have been added
abbrev pub IsGrowing : Option Stored → Option Stored → Option Stored → Type 0
IsGrowing slot None new = new ≡ slot
IsGrowing None (Some b) new = ⊤
IsGrowing (Some x) (Some b) None = ⊥
IsGrowing (Some x) (Some b) (Some n) = (n.spelling ≡ x.spelling) × AreGrowing x.values b.values n.values

abbrev pub AreGrowingAttributes : StoredAttributes → StoredAttributes → StoredAttributes → Type 0
AreGrowingAttributes xs after new = (q : Attr) → IsGrowing (fin.get xs q) (fin.get after q) (fin.get new q)

-- what is under a key when the first part has become the second; nothing changes where there is neither
abbrev pub exchanged_slot : Option Stored → Option Stored → Option Stored → Option Stored
exchanged_slot slot None None = slot
exchanged_slot slot None (Some b) = Some b
exchanged_slot slot (Some a) after = patched slot (Some a) after

-- ---- in turn

-- each of the values that is not there is added
abbrev pub grown_by : StoredValues → KeyedValues → StoredValues
grown_by values [] = values
grown_by values (p ∷ ps) = grown_by (cond (fin.contains_key values p.0) values (fin.insert values p.0 p.1)) ps

-- each of the values that the part before has not is taken away
abbrev pub shrunk_by : StoredValues → StoredValues → KeyedValues → StoredValues
shrunk_by before values [] = values
shrunk_by before values (p ∷ ps) = shrunk_by before (cond (fin.contains_key before p.0) values (fin.remove values p.0)) ps

-- a value that is there gets these bytes, if there are any; else it goes
abbrev pub settled_at : StoredValues → ValueKey → Option (List ℕ) → StoredValues
settled_at values v None = fin.remove values v
settled_at values v (Some bytes) = cond (fin.contains_key values v) (fin.insert values v bytes) values

-- each of the values gets its bytes of the part after, which it takes from there
abbrev pub settled_by : StoredValues → StoredValues → KeyedValues → StoredValues
settled_by after values [] = values
settled_by after values (p ∷ ps) = settled_by (fin.remove after p.0) (settled_at values p.0 (fin.get after p.0)) ps

-- an attribute with the values of the part after, or that part where there is none
abbrev pub grown_stored : Option Stored → Stored → Stored
grown_stored None b = b
grown_stored (Some x) b = record { spelling = x.spelling; values = grown_by x.values (fin.entries b.values) }

abbrev pub grown_at : StoredAttributes → Attr → Stored → StoredAttributes
grown_at xs k b = with_slot xs k (Some (grown_stored (fin.get xs k) b))

abbrev pub all_grown : StoredAttributes → List (Attr × Stored) → StoredAttributes
all_grown xs [] = xs
all_grown xs (e ∷ es) = all_grown (grown_at xs e.0 e.1) es

-- what is under a key without what came; the whole attribute where there was none before
abbrev pub shrunk_slot : Option Stored → Option Stored → Stored → Option Stored
shrunk_slot None before b = None
shrunk_slot (Some x) None b = None
shrunk_slot (Some x) (Some a) b = Some (record { spelling = x.spelling; values = shrunk_by a.values x.values (fin.entries b.values) })

abbrev pub shrunk_at : StoredAttributes → StoredAttributes → Attr → Stored → StoredAttributes
shrunk_at before xs k b = with_slot xs k (shrunk_slot (fin.get xs k) (fin.get before k) b)

abbrev pub all_shrunk : StoredAttributes → StoredAttributes → List (Attr × Stored) → StoredAttributes
all_shrunk before xs [] = xs
all_shrunk before xs (e ∷ es) = all_shrunk before (shrunk_at before xs e.0 e.1) es

-- what is under a key without what goes; the part after where its spelling is another
abbrev pub settled_slot : Option Stored → Stored → Option Stored → Option Stored
settled_slot slot a None = None
settled_slot None a (Some b) = None
settled_slot (Some x) a (Some b) = Some (cond (bytes_eq a.spelling b.spelling) (record { spelling = x.spelling; values = settled_by b.values x.values (fin.entries a.values) }) b)

abbrev pub settled_in : StoredAttributes → StoredAttributes → Attr → Stored → StoredAttributes
settled_in after xs k a = with_slot xs k (settled_slot (fin.get xs k) a (fin.get after k))

abbrev pub all_settled : StoredAttributes → StoredAttributes → List (Attr × Stored) → StoredAttributes
all_settled after xs [] = xs
all_settled after xs (e ∷ es) = all_settled (fin.remove after e.0) (settled_in after xs e.0 e.1) es
