-- A name that is read below a parent whose text is printed.
use Rattle.std.proofs.Common.{◌≡◌, ℕ, ◌+◌, ◌-◌, ◌<◌, ◌≤◌, List, [], ◌∷◌, ◌++◌, length, drop, Some, refl, sym, ap, ◌∙◌, arith, length-append}
use Rattle.std.specs.Option.{option_map}
use Rattle.std.proofs.Math.Seq.{drop-append_seam}
use Rattle.std.proofs.lemmas.List.{append-nil}
use Rattle.dir_names.specs.declared.schema.TypeRow.{TypeRow}
use Rattle.dir_names.specs.Inside.PlainParents.{IsPlainParent, after_leaf}
use Rattle.dir_names.specs.Inside.SortKeys.{IsPlainRdn}
use Rattle.dir_names.specs.Inside.SortTexts.{name_sort}
use Rattle.dir_names.specs.NameKeys.{name_value_key}
use Rattle.dir_names.specs.Names.{SpelledName}
use Rattle.dir_names.proofs.PlainNames.{IsReadFrom, before_name, last_read}

before_is : (leaf : List ℕ) (done : SpelledName) → before_name leaf done ≡ leaf ++ after_leaf done
before_is leaf [] = sym (append-nil leaf)
before_is leaf (r ∷ rs) = refl

module _ (rows : List TypeRow) (value leaf sort : List ℕ) where
  module _ (room : ℕ) (r : IsReadFrom rows value leaf room sort) where
    whole : value ≡ leaf ++ after_leaf r.done
    whole = r.text ∙ before_is leaf r.done

    -- the leaf is a part of the value
    pub leaf_within : length leaf ≤ length value
    leaf_within = let e = ap length whole ∙ length-append leaf (after_leaf r.done) in omega (arith, e)

    -- what was read is the parent's, where only the leaf is left
    pub parent_read : 0 < room → IsPlainParent rows (drop (length leaf) value) sort
    parent_read some = record {
      parent = r.done;
      keys = r.keys;
      spelled = ap (drop (length leaf)) whole ∙ drop-append_seam leaf (after_leaf r.done);
      room = (let fits = r.fits in omega arith);
      sound = r.sound;
      within = r.within;
      keyed = r.keyed;
      sorted = r.sorted;
    }

  -- the key of the leaf makes that of the whole name
  pub leaf_read : (text new : List ℕ) → value ≡ leaf ++ text → IsPlainParent rows text sort → IsPlainRdn rows leaf sort new → option_map name_sort (name_value_key rows value) ≡ Some new
  leaf_read text new e p plain =
      let room : ℕ = 63 - length p.parent in
      let few = p.room in
      let before : IsReadFrom rows value leaf (room + 1) sort = record {
        done = p.parent;
        keys = p.keys;
        text = e ∙ ap (λ t. leaf ++ t) p.spelled ∙ sym (before_is leaf p.parent);
        fits = omega arith;
        sound = p.sound;
        within = p.within;
        keyed = p.keyed;
        sorted = p.sorted;
      } in
      last_read rows value room sort new leaf plain leaf refl before
