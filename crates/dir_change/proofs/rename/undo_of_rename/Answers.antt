use Rattle.std.proofs.Common.{◌≡◌, true, List, [], ◌∷◌, ◌++◌, Option, None, Some, option_copied, slice_get, refl, sym, ap, ◌∙◌}
use Rattle.std.specs.Option.{option_map, option_and_then}
use Rattle.dir_names.specs.declared.schema.TypeRow.{TypeRow}
use Rattle.dir_names.specs.Keys.{DnKeys, RdnKeys}
use Rattle.dir_names.specs.Names.{SpelledName, SpelledRdn}
use Rattle.dir_names.specs.NameKeys.{rdn_key}
use Rattle.dir_ldif.specs.declared.records.Mod.{Mod}
use Rattle.dir_tree.specs.Content.{Content}
use Rattle.dir_tree.specs.Dir.{Dir}
use Rattle.dir_tree.specs.NewEntry.{leaf_of}
use Rattle.dir_tree.specs.SpelledNames.{spelled_name}
use Rattle.dir_change.specs.Difference.{difference}
use Rattle.dir_change.specs.Rename.{renamed_attributes}
use Rattle.dir_change.specs.Undo.{modify_if_any, rename_back, rename_back_in, rename_to, superior_back_in}
use Rattle.dir_change.proofs.rename.undo_of_rename.Goals as goal

-- an RDN whose rename back leaves these modifications has a key
with_key : (rows : List TypeRow) (name : SpelledName) (superior : Option SpelledName) (old : SpelledName) (after before : Content) (leaf : SpelledRdn) (mods : List Mod) (key : Option RdnKeys)
    → Some mods ≡ option_map (λ key. difference (renamed_attributes rows after.attributes after.key leaf key true) before.attributes) key
    → rename_to name superior leaf ∷ modify_if_any old mods ≡ rename_back rows name superior old after before (Some leaf) key
with_key rows name superior old after before leaf mods None is = absurd (cc)
with_key rows name superior old after before leaf mods (Some key) is =
    let same : mods ≡ difference (renamed_attributes rows after.attributes after.key leaf key true) before.attributes = cc in
    ap (λ mods. rename_to name superior leaf ∷ modify_if_any old mods) same

-- the group of an entry that had an RDN
of_leaf : (rows : List TypeRow) (d : Dir) (k superior : DnKeys) (after before : Content) (leaf : SpelledRdn) (mods : List Mod) → Some leaf ≡ leaf_of before.own
    → Some mods ≡ option_map (λ key. difference (renamed_attributes rows after.attributes after.key leaf key true) before.attributes) (rdn_key rows leaf)
    → rename_to (after.own ++ spelled_name d superior) (superior_back_in d k superior) leaf ∷ modify_if_any (spelled_name d k) mods ≡ rename_back_in rows d k superior after before
of_leaf rows d k superior after before leaf mods first is =
    with_key rows (after.own ++ spelled_name d superior) (superior_back_in d k superior) (spelled_name d k) after before leaf mods (rdn_key rows leaf) is
    ∙ (λ i. rename_back rows (after.own ++ spelled_name d superior) (superior_back_in d k superior) (spelled_name d k) after before (first i) (option_and_then (rdn_key rows) (first i)))

first_is : (own : SpelledName) → slice_get own 0 ≡ leaf_of own
first_is [] = refl
first_is (leaf ∷ above) = refl

pub returns-clause-ok : goal.returns-clause-ok
returns-clause-ok g c =
    let rows = c.args.schema.now in
    let d : Dir = g.D.Directory.state c.args.directory.now in
    let mods = sym (ap (option_map (λ items. items.items)) c.in-Some-2.is) ∙ c.in_ok-mods.ensures.ok in
    let first : Some c.in-Some.leaf.now ≡ leaf_of c.args.entry.now.own = sym (ap option_copied c.in-Some.is) ∙ c.first.ensures.value ∙ ap (λ own. slice_get own 0) c.own.ensures ∙ first_is c.args.entry.now.own in
    let undo = c.in_ok-undo.ensures ∙ ap (λ name. modify_if_any name c.in-Some-2.mods.items) c.in_ok-spelled.ensures in
    c.in_ok-with_first.ensures
    ∙ (λ i. c.in_ok-back.ensures.ok i ∷ undo i)
    ∙ of_leaf rows d c.args.key.now c.args.superior.now c.args.renamed.now c.args.entry.now c.in-Some.leaf.now c.in-Some-2.mods.items first mods
