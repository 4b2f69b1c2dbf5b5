-- Texts of keys, and the tables under which they are the texts of these keys.
use Rattle.std.proofs.Common.{◌≡◌, ℕ, ◌+◌, true, nat_le, List, [], ◌∷◌, ◌++◌, length, Option, Some, None, Result, Ok, Err, OnOk, IfOk, sym, ap, ◌∙◌}
use Rattle.std.specs.Option.{option_map}
use Rattle.std.specs.Cmp.{tied_itself}
use Rattle.dir_names.specs.declared.fault.NameFault.{NameFault}
use Rattle.dir_names.specs.declared.schema.scope.Scope.{Scope}
use Rattle.dir_names.specs.declared.schema.TypeRow.{TypeRow}
use Rattle.dir_names.specs.Inside.PlainParents.{IsPlainParent}
use Rattle.dir_names.specs.Inside.Scopes.{HoldsWithin, IsScopeOf, IsScopeOfValue, both}
use Rattle.dir_names.specs.Inside.SortKeys.{IsPairPut, IsPlainRdn}
use Rattle.dir_names.specs.Inside.SortTexts.{name_sort}
use Rattle.dir_names.specs.Keys.{DnKeys}
use Rattle.dir_names.specs.NameKeys.{name_value_key}
use Rattle.dir_names.specs.Names.{SpelledPair}
use Rattle.dir_names.specs.Names.Printing.{printed_pair}
use Rattle.dir_names.specs.Names.Sound.{is_sound_pair}
use Rattle.dir_names.specs.Orders.{bytes_cmp, bytes_cmp_total, dn_key_cmp_exact}
use Rattle.dir_names.specs.Outcome.{ok_or_bad_dn}
use Rattle.dir_names.specs.Table.Builtin.{builtin_rows}
use Rattle.dir_names.specs.Types.Adding.{KeepsTypes}
use Rattle.dir_names.proofs.PlainNames.{IsReadFrom, rdn_read}
use Rattle.dir_names.proofs.PlainParents.{leaf_read}
use Rattle.dir_names.proofs.Scopes.{pair_within, within_first, within_itself, within_second}
use Rattle.dir_names.proofs.SortOrder.{name_sorts}
use Rattle.dir_names.proofs.SortedNames.{only_some}

-- ---- keys with the same text are the same

same_text : (x y : DnKeys) → name_sort x ≡ name_sort y → x ≡ y
same_text x y e = dn_key_cmp_exact x y (sym (name_sorts x y) ∙ ap (bytes_cmp (name_sort x)) (sym e) ∙ tied_itself bytes_cmp_total (name_sort x))

same_texts : (x y : Option DnKeys) (text : List ℕ) → option_map name_sort x ≡ Some text → option_map name_sort y ≡ Some text → x ≡ y
same_texts None y text e f = absurd (cc)
same_texts (Some x) None text e f = absurd (cc)
same_texts (Some x) (Some y) text e f = let same : name_sort x ≡ name_sort y = cc in ap Some (same_text x y same)

module _ (asked : List TypeRow) (keeps : KeepsTypes builtin_rows asked) where
  -- where the text is that of the key under each of the tables, the key is the same under each
  pub text_within : (scope : Scope) (value text : List ℕ) → HoldsWithin scope asked (λ rows. option_map name_sort (name_value_key rows value) ≡ Some text) → IsScopeOfValue scope asked value
  text_within scope value text put rows e = same_texts (name_value_key rows value) (name_value_key asked value) text (put rows e) (put asked (within_itself asked keeps scope))

  -- ---- RDNs

  module _ (pair : SpelledPair) (piece old new : List ℕ) (piece_is : piece ≡ printed_pair pair) (sound : is_sound_pair pair ≡ true) (small : nat_le (length piece) 4096 ≡ true) where
    rdn_put : (rows : List TypeRow) → IsPairPut rows pair old new → IsPlainRdn rows piece old new
    rdn_put rows put = (pair, put.0 ∷ [], piece_is, sound, small, only_some rows pair put.0 put.1, put.2)

    pub rdn_within : (r : Result Scope NameFault) → OnOk r (IsPairPut asked pair old new) → IfOk r (λ scope. IsScopeOf scope pair.0) → IfOk r (λ scope. HoldsWithin scope asked (λ rows. IsPlainRdn rows piece old new))
    rdn_within (Err fault) put is = tt
    rdn_within (Ok scope) put is = λ rows e. rdn_put rows (put.0, ap ok_or_bad_dn (pair_within asked keeps scope pair is rows e) ∙ put.1, put.2)

  -- ---- what was read so far, and one RDN more

  pub read_within : (a b : Scope) (value before rest piece out new : List ℕ) (room : ℕ) → rest ≡ before ++ 44 ∷ piece
      → HoldsWithin b asked (λ rows. IsPlainRdn rows piece out new) → HoldsWithin a asked (λ rows. IsReadFrom rows value rest (room + 1) out) → HoldsWithin (both a b) asked (λ rows. IsReadFrom rows value before room new)
  read_within a b value before rest piece out new room cut plain so_far rows e =
      rdn_read rows value room out new piece (plain rows (within_second asked keeps a b rows e)) before rest cut (so_far rows (within_first asked keeps a b rows e))

  -- the leaf makes the key of the whole name
  pub leaf_within_both : (a b : Scope) (value leaf sort text new : List ℕ) → value ≡ leaf ++ text → HoldsWithin a asked (λ rows. IsPlainParent rows text sort) → HoldsWithin b asked (λ rows. IsPlainRdn rows leaf sort new)
      → HoldsWithin (both a b) asked (λ rows. option_map name_sort (name_value_key rows value) ≡ Some new)
  leaf_within_both a b value leaf sort text new cut parent plain rows e =
      leaf_read rows value leaf sort text new cut (parent rows (within_first asked keeps a b rows e)) (plain rows (within_second asked keeps a b rows e))
