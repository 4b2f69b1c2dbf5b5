-- The reader and the grammar agree, in both directions.
use Rattle.std.proofs.Common.{◌≡◌, ℕ, true, List, [], Ok, Err, refl, sym, ◌⊎◌, inl, inr, arith}
use Rattle.dir_names.specs.declared.schema.TypeRow.{TypeRow}
use Rattle.dir_acl.specs.declared.fault.FilterFault.TheVariants.{TooDeep}
use Rattle.dir_acl.specs.Filters.{Tree, Spells, IsTooDeep, in_parentheses}
use Rattle.dir_acl.specs.Filters.Reading.{at_start, filter_of}
use Rattle.dir_acl.proofs.Grammar.Sound.{spelled, too_deep}
use Rattle.dir_acl.proofs.Grammar.Complete.{comes, tells}
use Rattle.std.proofs.lemmas.List.{append-nil}

module _ (rows : List TypeRow) (text : List ℕ) where
  pub read_is_spelled : (t : Tree) → filter_of rows text ≡ Ok t → Spells rows (in_parentheses text) t
  read_is_spelled t e = spelled rows (in_parentheses text) at_start [] t refl e

  pub told_is_deep : filter_of rows text ≡ Err TooDeep → IsTooDeep rows 64 (in_parentheses text)
  told_is_deep e = too_deep rows (in_parentheses text) at_start [] refl e

  pub deep_is_told : IsTooDeep rows 64 (in_parentheses text) → filter_of rows text ≡ Err TooDeep
  deep_is_told h = tells rows 64 true (in_parentheses text) [] (omega arith) h

  pub read_is_not_deep : (t : Tree) → filter_of rows text ≡ Ok t → IsTooDeep rows 64 (in_parentheses text) → ⊥
  read_is_not_deep t e h = let told = deep_is_told h in cc

  pub spelled_is_read : (t : Tree) → Spells rows (in_parentheses text) t → (IsTooDeep rows 64 (in_parentheses text) → ⊥) → filter_of rows text ≡ Ok t
  spelled_is_read t h n = by (comes rows t true (in_parentheses text) [] (in_parentheses text) [] (sym (append-nil (in_parentheses text))) h)
    where
      by : (filter_of rows text ≡ Ok t) ⊎ (filter_of rows text ≡ Err TooDeep) → filter_of rows text ≡ Ok t
      by (inl e) = e
      by (inr e) = absurd (n (told_is_deep e))
