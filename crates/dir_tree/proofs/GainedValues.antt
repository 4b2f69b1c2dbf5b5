-- The values of an RDN that come to an entry where they are missing: which values are there then, and that its attributes are sound.
use Rattle.std.proofs.Common.{◌≡◌, Bool, true, false, cond, not, ◌&&◌, ◌||◌, List, [], ◌∷◌, Option, Some, None, is_some, refl, sym, ap, ◌∙◌, true≢false}
use Rattle.std.specs.List.{list_all, list_any}
use Rattle.std.specs.FinMap as fin
use Rattle.std.specs.FinMap.{get-insert}
use Rattle.std.specs.Ordering.{eq_by_cmp}
use Rattle.dir_names.specs.declared.schema.TypeRow.{TypeRow}
use Rattle.dir_names.specs.declared.value.ValueKey.{ValueKey}
use Rattle.dir_names.specs.declared.value.ValueKey.TheVariants.{Text}
use Rattle.dir_names.specs.Attr.{Attr}
use Rattle.dir_names.specs.Keys.{RdnKeys}
use Rattle.dir_names.specs.Names.{SpelledRdn}
use Rattle.dir_names.specs.NameKeys.{rdn_key}
use Rattle.dir_names.specs.Orders.{attr_cmp, attr_cmp_ties, attr_cmp_total, attr_eq, attr_eq_decides}
use Rattle.dir_names.specs.Values.{value_key_eq, value_key_eq_decides}
use Rattle.dir_tree.specs.declared.lines.KeyedLine.{KeyedLine}
use Rattle.dir_tree.specs.Content.{StoredAttributes, has_value}
use Rattle.dir_tree.specs.NewEntry.{rdn_lines, with_line, with_missing_line, with_missing_lines, with_missing_of, with_value}
use Rattle.dir_tree.specs.WellFormed.{Each, IsLegalPair, IsSoundAttribute}
use Rattle.dir_tree.proofs.Orderless.{has_after}
use Rattle.dir_tree.proofs.OwnLines.{keyed_rdn}
use Rattle.dir_tree.proofs.OwnValues.{all_lines_pass, by_rdn_key}
use Rattle.dir_tree.proofs.SoundMade.{gained_keeps, pairs_sound}

-- a value of an attribute, as a line that gives it
abbrev value_line : Attr → ValueKey → KeyedLine
value_line q v = record { description = record { spelling = []; key = q }; key = v; bytes = [] }

-- the RDN has this value
abbrev pub in_rdn : RdnKeys → Attr → ValueKey → Bool
in_rdn keys q v = list_any (λ p. attr_eq p.0 q && value_key_eq (Text p.1) v) keys

-- two tests that come from each other are the same
pub alike : (a b : Bool) → (a ≡ true → b ≡ true) → (b ≡ true → a ≡ true) → a ≡ b
alike true b f g = sym (f refl)
alike false true f g = g refl
alike false false f g = refl

pub and_both : (a b : Bool) → (a && b) ≡ true → (a ≡ true) × (b ≡ true)
and_both true true e = (refl, refl)
and_both true false e = absurd (true≢false (sym e))
and_both false b e = absurd (true≢false (sym e))

-- ---- the values of the new RDN come

abbrev gives : Attr → ValueKey → KeyedLine → Bool
gives q v l = attr_eq l.description.key q && value_key_eq l.key v

has_with_missing : (xs : StoredAttributes) (l : KeyedLine) (q : Attr) (v : ValueKey) → has_value (with_missing_line xs l) q v ≡ (gives q v l || has_value xs q v)
has_with_missing xs l q v = by (has_value xs l.description.key l.key) refl
  where
    there : has_value xs l.description.key l.key ≡ true → (b : Bool) → gives q v l ≡ b → has_value xs q v ≡ (b || has_value xs q v)
    there t false u = refl
    there t true u =
        let both = and_both (attr_eq l.description.key q) (value_key_eq l.key v) u in
        (λ i. has_value xs (sym ((attr_eq_decides l.description.key q).0 both.0) i) (sym ((value_key_eq_decides l.key v).0 both.1) i)) ∙ t

    by : (b : Bool) → has_value xs l.description.key l.key ≡ b → has_value (cond b xs (with_line xs l)) q v ≡ (gives q v l || has_value xs q v)
    by true t = there t (gives q v l) refl
    by false t = has_after xs l (value_line q v)

has_with_all_missing : (xs : StoredAttributes) (ls : List KeyedLine) (q : Attr) (v : ValueKey) → has_value (with_missing_lines xs ls) q v ≡ (list_any (gives q v) ls || has_value xs q v)
has_with_all_missing xs [] q v = refl
has_with_all_missing xs (l ∷ ls) q v =
    has_with_all_missing (with_missing_line xs l) ls q v
    ∙ ap (λ b. list_any (gives q v) ls || b) (has_with_missing xs l q v)
    ∙ by (gives q v l) (list_any (gives q v) ls) (has_value xs q v)
  where
    by : (a b c : Bool) → (b || (a || c)) ≡ ((a || b) || c)
    by true true c = refl
    by true false c = refl
    by false b c = refl

-- none of the lines gives the value exactly if all give another
none_gives : {A : Type 0} (p : A → Bool) (xs : List A) → list_any p xs ≡ not (list_all (λ x. not (p x)) xs)
none_gives p [] = refl
none_gives p (x ∷ xs) = by (none_gives p xs) (p x)
  where
    by : list_any p xs ≡ not (list_all (λ x. not (p x)) xs) → (b : Bool) → (b || list_any p xs) ≡ not (not b && list_all (λ x. not (p x)) xs)
    by more true = refl
    by more false = more

module _ (rows : List TypeRow) (rdn : SpelledRdn) (key : RdnKeys) (named : rdn_key rows rdn ≡ Some key) where
  -- the lines of an RDN give the values that its key has
  lines_give : (ls : List KeyedLine) → rdn_lines rows rdn ≡ Some ls → (q : Attr) (v : ValueKey) → list_any (gives q v) ls ≡ in_rdn key q v
  lines_give ls is q v =
      none_gives (gives q v) ls
      ∙ ap not (ap (all_lines_pass rows test) (sym is) ∙ by_rdn_key rows test rdn key named)
      ∙ sym (none_gives (λ p. attr_eq p.0 q && value_key_eq (Text p.1) v) key)
    where
      test : Attr → ValueKey → Bool
      test a w = not (attr_eq a q && value_key_eq w v)

  pub has_gained : (xs : StoredAttributes) (q : Attr) (v : ValueKey) → has_value (with_missing_of xs (rdn_lines rows rdn)) q v ≡ (in_rdn key q v || has_value xs q v)
  has_gained xs q v = by (rdn_lines rows rdn) refl (keyed_rdn rows rdn (ap is_some named))
    where
      by : (o : Option (List KeyedLine)) → rdn_lines rows rdn ≡ o → is_some o ≡ true → has_value (with_missing_of xs o) q v ≡ (in_rdn key q v || has_value xs q v)
      by None t h = absurd (true≢false (sym h))
      by (Some ls) t h = has_with_all_missing xs ls q v ∙ ap (λ b. b || has_value xs q v) (lines_give ls t q v)

  -- an attribute that the RDN doesn't name stays
  pub gained_apart : (xs : StoredAttributes) (q : Attr) → list_any (λ p. attr_eq p.0 q) key ≡ false → fin.get (with_missing_of xs (rdn_lines rows rdn)) q ≡ fin.get xs q
  gained_apart xs q apart = by (rdn_lines rows rdn) refl
    where
      test : Attr → ValueKey → Bool
      test a w = not (attr_eq a q)

      others : (ls : List KeyedLine) → rdn_lines rows rdn ≡ Some ls → list_all (λ l. test l.description.key l.key) ls ≡ true
      others ls is = ap (all_lines_pass rows test) (sym is) ∙ by_rdn_key rows test rdn key named ∙ turned (list_all (λ p. not (attr_eq p.0 q)) key) (sym (none_gives (λ p. attr_eq p.0 q) key) ∙ apart)
        where
          turned : (b : Bool) → not b ≡ false → b ≡ true
          turned true e = refl
          turned false e = absurd (true≢false e)

      by : (o : Option (List KeyedLine)) → rdn_lines rows rdn ≡ o → fin.get (with_missing_of xs o) q ≡ fin.get xs q
      by None t = refl
      by (Some ls) t = each xs ls (others ls t)
        where
          one : (xs : StoredAttributes) (l : KeyedLine) → not (attr_eq l.description.key q) ≡ true → fin.get (with_missing_line xs l) q ≡ fin.get xs q
          one xs l other = or (has_value xs l.description.key l.key)
            where
              differs : eq_by_cmp attr_cmp q l.description.key ≡ false
              differs = sym (attr_cmp_ties q l.description.key) ∙ none (attr_eq q l.description.key) refl
                where
                  none : (b : Bool) → attr_eq q l.description.key ≡ b → b ≡ false
                  none false u = refl
                  none true u = absurd (true≢false (sym other ∙ ap not ((attr_eq_decides l.description.key q).1 (sym ((attr_eq_decides q l.description.key).0 u)))))

              or : (b : Bool) → fin.get (cond b xs (with_line xs l)) q ≡ fin.get xs q
              or true = refl
              or false = get-insert attr_cmp_total xs l.description.key (with_value (fin.get xs l.description.key) l) q ∙ ap (λ b. cond b (Some (with_value (fin.get xs l.description.key) l)) (fin.get xs q)) differs

          each : (xs : StoredAttributes) (ls : List KeyedLine) → list_all (λ l. not (attr_eq l.description.key q)) ls ≡ true → fin.get (with_missing_lines xs ls) q ≡ fin.get xs q
          each xs [] other = refl
          each xs (l ∷ ls) other = let both = and_both (not (attr_eq l.description.key q)) _ other in each (with_missing_line xs l) ls both.1 ∙ one xs l both.0

  -- the attributes are sound, where the pairs are legal
  pub gained_sound : (xs : StoredAttributes) → Each IsLegalPair rdn → Each (IsSoundAttribute rows) (fin.entries xs) → Each (IsSoundAttribute rows) (fin.entries (with_missing_of xs (rdn_lines rows rdn)))
  gained_sound xs legal sound = by (rdn_lines rows rdn) refl
    where
      by : (o : Option (List KeyedLine)) → rdn_lines rows rdn ≡ o → Each (IsSoundAttribute rows) (fin.entries (with_missing_of xs o))
      by None t = sound
      by (Some ls) t = gained_keeps rows xs ls (pairs_sound rows rdn ls legal t) sound
