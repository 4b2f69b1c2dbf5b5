-- What the nodes of a tree stand for: a finite map from paths to places. A path is the keys of the RDNs from a node down to what is at or below it. A place is empty or has an entry.
use Rattle.std.specs.Prelude.{◌≡◌, Bool, cond, false, IsSome, not, List, [], ◌∷◌, ◌++◌, map, Option, Some, None}
use Rattle.std.specs.List.{flat_map, filter}
use Rattle.std.specs.Ordering.{eq_by_cmp}
use Rattle.std.specs.FinMap as fin
use Rattle.std.specs.Coded.{Coded, coded×, coded_list, coded_option, coded_ℕ}
use Rattle.dir_names.specs.Keys.{DnKeys, RdnKeys}
use Rattle.dir_names.specs.Orders.{dn_key_cmp, rdn_key_eq}
use Rattle.dir_tree.specs.Content.{Content}
use Rattle.dir_tree.specs.Moves.{rest_below}
use Rattle.dir_tree.specs.Inside.Codes.{attr_code, content_code}

abbrev pub Places : Type 0
Places = fin.FinMap dn_key_cmp (Option Content)

abbrev pub places_code : Coded Places
places_code = fin.code (coded_list (coded_list (coded× attr_code (coded_list coded_ℕ)))) (coded_option content_code)

-- what is at or below a child's place: an empty place has only itself
abbrev pub place_map : Option Places → Places
place_map None = fin.insert fin.empty [] None
place_map (Some m) = m

-- a path, seen from one node further up
abbrev pub below_part : RdnKeys → DnKeys × Option Content → DnKeys × Option Content
below_part part p = (part ∷ p.0, p.1)

-- what is below a node, child by child
abbrev pub below_children : List (RdnKeys × Option Places) → List (DnKeys × Option Content)
below_children cs = flat_map (λ c. map (below_part c.0) (fin.entries (place_map c.1))) cs

-- a node's entry, and what is below it
abbrev pub node_map : Content → List (RdnKeys × Option Places) → Places
node_map e cs = fin.from_sorted (([], Some e) ∷ below_children cs)

-- the entry in a place, if there is a place and it isn't empty
abbrev pub entry_in : Option (Option Content) → Option Content
entry_in None = None
entry_in (Some place) = place

-- the entry on a path
abbrev pub entry_on : Places → DnKeys → Option Content
entry_on m path = entry_in (fin.get m path)

abbrev pub begins_with : RdnKeys → DnKeys → Bool
begins_with part [] = false
begins_with part (first ∷ rest) = rdn_key_eq part first

-- the map with another place for this child, and all else as it was
abbrev pub with_child : Places → RdnKeys → Option Places → Places
with_child m part place = fin.from_entries (map (below_part part) (fin.entries (place_map place)) ++ filter (λ p. not (begins_with part p.0)) (fin.entries m))

-- what is there at a rest of the path, if there is one; else what was there
abbrev pub grafted : {X : Type 0} → Option DnKeys → (DnKeys → X) → X → X
grafted None new old = old
grafted (Some rest) new old = new rest

-- at the path and below it there is what `new` gives for the rest of a path, and all else is as it was
abbrev pub IsGraft : Places → DnKeys → (DnKeys → Option (Option Content)) → Places → Type 0
IsGraft before path new after = (q : DnKeys) → fin.get after q ≡ grafted (rest_below path q) new (fin.get before q)

-- something is there at or below the place of this child
abbrev pub HasPlace : Places → RdnKeys → Type 0
HasPlace m part = (rest : DnKeys) × IsSome (fin.get m (part ∷ rest))

-- what is there at or below a path, by the rests of paths
abbrev pub IsAt : Places → DnKeys → Places → Type 0
IsAt m path part = (q : DnKeys) → fin.get part q ≡ fin.get m (path ++ q)

-- what was at or below the old path is at or below the new one, with this entry there, and all else is as it was
abbrev pub moved_place : Places → DnKeys → Content → Option DnKeys → Option DnKeys → Option (Option Content) → Option (Option Content)
moved_place before old e None None place = place
moved_place before old e None (Some rest) place = None
moved_place before old e (Some rest) was place = cond (eq_by_cmp dn_key_cmp rest []) (Some (Some e)) (fin.get before (old ++ rest))

abbrev pub IsMove : Places → DnKeys → DnKeys → Content → Places → Type 0
IsMove before old new e after = (q : DnKeys) → fin.get after q ≡ moved_place before old e (rest_below new q) (rest_below old q) (fin.get before q)
