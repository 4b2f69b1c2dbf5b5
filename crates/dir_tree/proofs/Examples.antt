-- Worked examples of directories and entries, proved of the definitions: the first name of RFC 4514, section 4, UID=jsmith,DC=example,DC=net, in a
-- directory of the suffix DC=example,DC=net (RFC 4512, sections 2.1 to 2.3); and entries that an add makes or refuses (RFC 4511, section 4.7).
use Rattle.std.proofs.Common.{◌≡◌, ℕ, ◌+◌, true, false, cond, ◌&&◌, ◌||◌, nat_lt, List, [], ◌∷◌, map, length, take, Option, Some, None, is_some, Ok, Err, codes, refl, sym, ap, ◌∙◌, arith}
use Rattle.std.specs.List.{flat_map, list_any}
use Rattle.std.specs.FinMap as fin
use Rattle.std.specs.Ordering.{eq_by_cmp}
use Rattle.dir_names.specs.declared.value.ValueKey.TheVariants.{Text}
use Rattle.dir_names.specs.Attr.{Attr}
use Rattle.dir_names.specs.Below.{is_at_or_below}
use Rattle.dir_names.specs.Described.{Described}
use Rattle.dir_names.specs.Keys.{DnKeys, RdnKeys, parent_of}
use Rattle.dir_names.specs.NameKeys.{name_key}
use Rattle.dir_names.specs.Names.{SpelledName, SpelledRdn}
use Rattle.dir_names.specs.Names.Reading.{name_of}
use Rattle.dir_names.specs.Orders.{attr_cmp, attr_cmp_total, dn_key_cmp, dn_key_cmp_total}
use Rattle.dir_names.specs.Table.{single_of}
use Rattle.dir_names.specs.Values.{value_key_cmp, value_key_cmp_total}
use Rattle.dir_names.specs.Table.Builtin.{builtin_rows}
use Rattle.dir_tree.specs.ChangedEntry.{changed_entry}
use Rattle.dir_tree.specs.Content.{Content, Stored, StoredAttributes, StoredValues, has_in, has_value}
use Rattle.dir_tree.specs.Dir.{Dir, entry_at, has_child, has_parent, is_key, put_entry, remove_entry}
use Rattle.dir_tree.specs.NewEntry.{exceeds_single_value, new_entry, ok_unless_exceeding, with_line, with_value}
use Rattle.dir_tree.specs.SpelledNames.{named_entries, own_depth, own_name_at, own_name_of, own_rdns, prefixes, spelled_name}
use Rattle.dir_tree.specs.declared.fault.EntryFault.TheVariants.{BadValue, NotNamed, Single, Twice}
use Rattle.dir_tree.specs.declared.lines.KeyedLine.{KeyedLine}
use Rattle.dir_tree.proofs.DirLemmas.{get_put, get_without}

-- ---- keys of names

abbrev rdn_of : List ℕ → List ℕ → SpelledRdn
rdn_of attr_type value = (attr_type, value) ∷ []

abbrev part_of : List ℕ → List ℕ → RdnKeys
part_of attr_type value = (record { attr_type = attr_type; options = [] }, value) ∷ []

abbrev net : DnKeys
net = part_of (codes "dc") (codes "net") ∷ []

abbrev example : DnKeys
example = part_of (codes "dc") (codes "net") ∷ part_of (codes "dc") (codes "example") ∷ []

abbrev jsmith : DnKeys
jsmith = part_of (codes "dc") (codes "net") ∷ part_of (codes "dc") (codes "example") ∷ part_of (codes "uid") (codes "jsmith") ∷ []

-- DC=example,DC=net
abbrev example_name : SpelledName
example_name = rdn_of (codes "DC") (codes "example") ∷ rdn_of (codes "DC") (codes "net") ∷ []

-- the key of a name has its root first, and no case
pub key-of-the-suffix : name_key builtin_rows example_name ≡ Some example
unfolding builtin_rows
key-of-the-suffix = refl

pub parent : parent_of jsmith ≡ Some example
parent = refl

pub no-parent-of-the-root : parent_of [] ≡ None
no-parent-of-the-root = refl

-- the subtree of a name has the name itself and what is below it
pub below-the-suffix : is_at_or_below jsmith example ≡ true
below-the-suffix = refl

pub the-suffix-itself : is_at_or_below example example ≡ true
the-suffix-itself = refl

pub above-the-suffix : is_at_or_below net example ≡ false
above-the-suffix = refl

-- ---- entries put and removed

abbrev bare : SpelledName → RdnKeys → Content
bare own key = record { own = own; key = key; attributes = fin.empty }

abbrev suffix_entry : Content
suffix_entry = bare example_name (part_of (codes "dc") (codes "example"))

abbrev person_entry : Content
person_entry = bare (rdn_of (codes "UID") (codes "jsmith") ∷ []) (part_of (codes "uid") (codes "jsmith"))

-- no entry; the suffix's; and a person below it
abbrev nothing : Dir
nothing = record { suffix = example; entries = fin.empty }

abbrev one : Dir
one = put_entry nothing example suffix_entry

abbrev two : Dir
two = put_entry one jsmith person_entry

-- what is there, at each key
abbrev found_in_one : DnKeys → Option Content
found_in_one q = cond (eq_by_cmp dn_key_cmp q example) (Some suffix_entry) None

abbrev found_in_two : DnKeys → Option Content
found_in_two q = cond (eq_by_cmp dn_key_cmp q jsmith) (Some person_entry) (found_in_one q)

at_one : (q : DnKeys) → entry_at one q ≡ found_in_one q
at_one q = get_put nothing example suffix_entry q ∙ ap (cond (eq_by_cmp dn_key_cmp q example) (Some suffix_entry)) (fin.get-empty dn_key_cmp q)

at_two : (q : DnKeys) → entry_at two q ≡ found_in_two q
at_two q = get_put one jsmith person_entry q ∙ ap (cond (eq_by_cmp dn_key_cmp q jsmith) (Some person_entry)) (at_one q)

-- and in the order of keys
none_of : {A : Type 0} (es : List A) → length es ≡ 0 → es ≡ []
none_of [] e = refl
none_of (x ∷ xs) e = absurd (omega (arith, e))

in_order : fin.entries two.entries ≡ (example, suffix_entry) ∷ (jsmith, person_entry) ∷ []
in_order =
    let none : fin.entries nothing.entries ≡ [] = none_of (fin.entries nothing.entries) (sym (fin.len-entries nothing.entries) ∙ fin.len-empty dn_key_cmp Content) in
    fin.entries-insert dn_key_cmp_total one.entries jsmith person_entry
    ∙ ap (fin.put dn_key_cmp jsmith person_entry) (fin.entries-insert dn_key_cmp_total nothing.entries example suffix_entry ∙ ap (fin.put dn_key_cmp example suffix_entry) none)

-- the suffix may be put first; any other entry waits for its parent
pub suffix-stands-alone : has_parent nothing example ≡ true
suffix-stands-alone = refl

pub person-needs-its-parent : has_parent nothing jsmith ≡ false
person-needs-its-parent = ap is_some (fin.get-empty dn_key_cmp example)

pub person-has-its-parent : has_parent one jsmith ≡ true
person-has-its-parent = ap is_some (at_one example)

pub person-is-there : entry_at two jsmith ≡ Some person_entry
person-is-there = at_two jsmith

pub nothing-above-the-suffix : entry_at two net ≡ None
nothing-above-the-suffix = at_two net

-- a delete takes leaf entries only (RFC 4511, section 4.8): the suffix's is none while the person is there
pub suffix-has-a-child : has_child two example ≡ true
suffix-has-a-child = ap (λ es. list_any (λ q. is_key example (parent_of q)) (map (λ e. e.0) es)) in_order

pub person-has-none : has_child two jsmith ≡ false
person-has-none = ap (λ es. list_any (λ q. is_key jsmith (parent_of q)) (map (λ e. e.0) es)) in_order

pub person-is-removed : entry_at (remove_entry two jsmith) jsmith ≡ None
person-is-removed = get_without two jsmith jsmith

pub suffix-stays : entry_at (remove_entry two jsmith) example ≡ Some suffix_entry
suffix-stays = get_without two jsmith example ∙ at_two example

-- ---- names as spelled

-- an entry keeps its own RDN, and the suffix's the whole name
pub own-of-the-person : own_rdns example jsmith (rdn_of (codes "UID") (codes "jsmith") ∷ example_name) ≡ rdn_of (codes "UID") (codes "jsmith") ∷ []
own-of-the-person = refl

pub own-of-the-suffix : own_rdns example example example_name ≡ example_name
own-of-the-suffix = refl

spelled_two : (k : DnKeys) → spelled_name two k ≡ flat_map (λ q. take (own_depth example q) (own_name_of (found_in_two q))) (prefixes k)
spelled_two k i = flat_map (λ q. take (own_depth example q) (own_name_of (at_two q i))) (prefixes k)

-- the entries on the path spell the name, each in its own letters
pub spelled-on-the-path : Some (spelled_name two jsmith) ≡ name_of (codes "UID=jsmith,DC=example,DC=net")
spelled-on-the-path = ap Some (spelled_two jsmith)

-- a walk meets the parent first
pub walked : named_entries two ≡ (example_name, suffix_entry) ∷ (rdn_of (codes "UID") (codes "jsmith") ∷ example_name, person_entry) ∷ []
walked = ap (map (λ e. (spelled_name two e.0, e.1))) in_order ∙ (λ i. (spelled_two example i, suffix_entry) ∷ (spelled_two jsmith i, person_entry) ∷ [])

-- of an own name that is longer than its place asks for, the leaf counts
pub one-rdn-counts : own_name_at (put_entry one jsmith (bare (rdn_of (codes "UID") (codes "jsmith") ∷ example_name) [])) jsmith ≡ rdn_of (codes "UID") (codes "jsmith") ∷ []
one-rdn-counts = ap (λ o. take (own_depth example jsmith) (own_name_of o)) (get_put one jsmith (bare (rdn_of (codes "UID") (codes "jsmith") ∷ example_name) []) jsmith)

-- ---- entries that an add makes

abbrev dc : Attr
dc = record { attr_type = codes "dc"; options = [] }

-- DC: example
abbrev own_line : KeyedLine
own_line = record { description = record { spelling = codes "DC"; key = dc }; key = Text (codes "example"); bytes = codes "example" }

-- dc takes one value, and there is one
one_value : exceeds_single_value builtin_rows (with_line fin.empty own_line) ≡ false
unfolding builtin_rows
one_value =
    let stored = with_value (fin.get fin.empty dc) own_line in
    let none : ◌≡◌ {A = List (Attr × Stored)} (fin.entries (fin.empty {R = attr_cmp})) [] = none_of (fin.entries fin.empty) (sym (fin.len-entries fin.empty) ∙ fin.len-empty attr_cmp Stored) in
    let one_long : fin.len (fin.insert (fin.empty {R = value_key_cmp}) own_line.key own_line.bytes) ≡ 1 =
    fin.len-insert value_key_cmp_total fin.empty own_line.key own_line.bytes ∙ (λ i. cond (is_some (fin.get-empty {X = List ℕ} value_key_cmp own_line.key i)) (fin.len-empty value_key_cmp (List ℕ) i) (fin.len-empty value_key_cmp (List ℕ) i + 1)) in
    ap (list_any (λ (a : Attr × Stored). nat_lt 1 (fin.len a.1.values) && single_of builtin_rows a.0)) (fin.entries-insert attr_cmp_total fin.empty dc stored ∙ ap (fin.put attr_cmp dc stored) none)
    ∙ ap (λ o. list_any (λ (a : Attr × Stored). nat_lt 1 (fin.len a.1.values) && single_of builtin_rows a.0) ((dc, with_value o own_line) ∷ [])) (fin.get-empty attr_cmp dc)
    ∙ ap (λ n. (nat_lt 1 n && single_of builtin_rows dc) || false) one_long

-- the value of its RDN need not be given
pub own-value-is-added : new_entry builtin_rows example_name [] ≡ Ok (record { own = example_name; key = part_of (codes "dc") (codes "example"); attributes = with_line fin.empty own_line })
unfolding builtin_rows
own-value-is-added =
    let whole : StoredAttributes → Content = λ xs. record { own = example_name; key = part_of (codes "dc") (codes "example"); attributes = xs } in
    ap (λ o. ok_unless_exceeding builtin_rows (whole (cond (has_in own_line.key o) fin.empty (with_line fin.empty own_line)))) (fin.get-empty attr_cmp dc)
    ∙ ap (λ b. cond b (Err Single) (Ok (whole (with_line fin.empty own_line)))) one_value

-- ---- entries that an add refuses to make

abbrev line : List ℕ → List ℕ → Described × List ℕ
line attr_type value = (record { spelling = attr_type; key = record { attr_type = attr_type; options = [] } }, value)

-- a name without an RDN names no entry
pub no-rdn : new_entry builtin_rows [] [] ≡ Err NotNamed
no-rdn = refl

-- a value of mail is ASCII (RFC 4524, section 2.16)
pub no-ascii : new_entry builtin_rows example_name (line (codes "mail") (195 ∷ 164 ∷ codes "@example.net") ∷ []) ≡ Err BadValue
unfolding builtin_rows
no-ascii = refl

-- two values that are the same under the rule of their type
pub same-value : new_entry builtin_rows example_name (line (codes "mail") (codes "a@example.net") ∷ line (codes "mail") (codes "A@EXAMPLE.NET") ∷ []) ≡ Err Twice
unfolding builtin_rows
same-value = refl

-- ---- two values of a type that takes one, and an own value that is missing

-- dc: sample
abbrev other_line : KeyedLine
other_line = record { description = record { spelling = codes "dc"; key = dc }; key = Text (codes "sample"); bytes = codes "sample" }

-- DC: example, and after it dc: sample
abbrev two_values : StoredAttributes
two_values = with_line (with_line fin.empty own_line) other_line

abbrev values_of_both : StoredValues
values_of_both = fin.insert (fin.insert fin.empty own_line.key own_line.bytes) other_line.key other_line.bytes

-- they are one attribute, spelled as first
both_there : with_value (fin.get (with_line fin.empty own_line) dc) other_line ≡ record { spelling = codes "DC"; values = values_of_both }
both_there =
    let first = with_value (fin.get fin.empty dc) own_line in
    ap (λ o. with_value o other_line) (fin.get-insert attr_cmp_total fin.empty dc first dc ∙ ap (λ o. Some (with_value o own_line)) (fin.get-empty attr_cmp dc))

both_count : fin.len values_of_both ≡ 2
both_count =
    let one = fin.insert (fin.empty {R = value_key_cmp}) own_line.key own_line.bytes in
    let one_long : fin.len one ≡ 1 =
    fin.len-insert value_key_cmp_total fin.empty own_line.key own_line.bytes ∙ (λ i. cond (is_some (fin.get-empty {X = List ℕ} value_key_cmp own_line.key i)) (fin.len-empty value_key_cmp (List ℕ) i) (fin.len-empty value_key_cmp (List ℕ) i + 1)) in
    let absent : fin.get one other_line.key ≡ None = fin.get-insert value_key_cmp_total fin.empty own_line.key own_line.bytes other_line.key ∙ fin.get-empty value_key_cmp other_line.key in
    fin.len-insert value_key_cmp_total one other_line.key other_line.bytes ∙ (λ i. cond (is_some (absent i)) (one_long i) (one_long i + 1))

too_many : exceeds_single_value builtin_rows two_values ≡ true
unfolding builtin_rows
too_many =
    let one = with_line fin.empty own_line in
    let first = with_value (fin.get fin.empty dc) own_line in
    let second = with_value (fin.get one dc) other_line in
    let none : ◌≡◌ {A = List (Attr × Stored)} (fin.entries (fin.empty {R = attr_cmp})) [] = none_of (fin.entries fin.empty) (sym (fin.len-entries fin.empty) ∙ fin.len-empty attr_cmp Stored) in
    ap (list_any (λ (a : Attr × Stored). nat_lt 1 (fin.len a.1.values) && single_of builtin_rows a.0))
    (fin.entries-insert attr_cmp_total one dc second ∙ ap (fin.put attr_cmp dc second) (fin.entries-insert attr_cmp_total fin.empty dc first ∙ ap (fin.put attr_cmp dc first) none))
    ∙ ap (λ (s : Stored). list_any (λ (a : Attr × Stored). nat_lt 1 (fin.len a.1.values) && single_of builtin_rows a.0) ((dc, s) ∷ [])) both_there
    ∙ ap (λ n. (nat_lt 1 n && single_of builtin_rows dc) || false) both_count

own_among_both : has_value two_values dc own_line.key ≡ true
own_among_both =
    let one = fin.insert (fin.empty {R = value_key_cmp}) own_line.key own_line.bytes in
    ap (has_in own_line.key) (fin.get-insert attr_cmp_total (with_line fin.empty own_line) dc (with_value (fin.get (with_line fin.empty own_line) dc) other_line) dc)
    ∙ ap (λ (s : Stored). has_in own_line.key (Some s)) both_there
    ∙ ap is_some (fin.get-insert value_key_cmp_total one other_line.key other_line.bytes own_line.key ∙ fin.get-insert value_key_cmp_total fin.empty own_line.key own_line.bytes own_line.key)

abbrev example_with : StoredAttributes → Content
example_with xs = record { own = example_name; key = part_of (codes "dc") (codes "example"); attributes = xs }

-- dc takes one value (RFC 4519, section 2.4): an add that gives two is refused
pub two-values-of-a-single-type : new_entry builtin_rows example_name ((own_line.description, own_line.bytes) ∷ (other_line.description, other_line.bytes) ∷ []) ≡ Err Single
unfolding builtin_rows
two-values-of-a-single-type =
    ap (λ b. ok_unless_exceeding builtin_rows (example_with (cond b two_values (with_line two_values own_line)))) own_among_both
    ∙ ap (λ b. cond b (Err Single) (Ok (example_with two_values))) too_many

-- and so is an entry that was changed to have two
pub changed-to-two-values : changed_entry builtin_rows (example_with two_values) ≡ Err Single
unfolding builtin_rows
changed-to-two-values =
    ap (λ b. cond (b && true) (ok_unless_exceeding builtin_rows (example_with two_values)) (Err NotNamed)) own_among_both
    ∙ ap (λ b. cond b (Err Single) (Ok (example_with two_values))) too_many

-- an entry that was changed must still have the values of its own RDN
pub own-value-is-missing : changed_entry builtin_rows (example_with fin.empty) ≡ Err NotNamed
own-value-is-missing = ap (λ o. cond (has_in (Text (codes "example")) o && true) (ok_unless_exceeding builtin_rows (example_with fin.empty)) (Err NotNamed)) (fin.get-empty attr_cmp dc)
