-- What a configuration without a note is: it has a rule, and its rules name known types alone; in `attrs=`, in the tests of filters and in `dnattr=` none from which
-- another is derived. No clause takes one of `a` and `z` away alone.
use Rattle.std.specs.Prelude.{◌≡◌, Bool, true, false, not, ◌&&◌, []}
use Rattle.std.specs.List.{list_all}
use Rattle.dir_names.specs.Attr.{Attr}
use Rattle.dir_names.specs.Table.{is_known}
use Rattle.dir_acl.specs.declared.access.Asked.{Asked}
use Rattle.dir_acl.specs.declared.access.Asked.TheVariants as asked
use Rattle.dir_acl.specs.declared.access.Who.{Who}
use Rattle.dir_acl.specs.declared.access.Who.TheVariants as who
use Rattle.dir_acl.specs.Filters.{Tree, Trees, conjunction, disjunction, negation, test, none, first}
use Rattle.dir_acl.specs.Notes.Halves.{takes_half}
use Rattle.dir_acl.specs.Notes.Supertypes.{NotedTypes, without_options}
use Rattle.dir_acl.specs.Rules.{AccessClause, AccessRule, Configuration, Restriction, to_names, to_filter, to_attrs, to_open}

module _ (types : NotedTypes) where
  -- a known type from which no other is derived
  abbrev pub is_clear : Attr → Bool
  is_clear attr = is_known types.rows attr && not (types.has_subtypes (without_options attr))

  abbrev mutual
    -- each test is of such a type
    pub tests_known : Tree → Bool
    tests_known (conjunction ts) = each_known ts
    tests_known (disjunction ts) = each_known ts
    tests_known (negation t) = tests_known t
    tests_known (test t) = is_clear t.attr

    pub each_known : Trees → Bool
    each_known none = true
    each_known (first t ts) = tests_known t && each_known ts

  -- the pseudo attributes are known
  abbrev pub asked_known : Asked → Bool
  asked_known asked.Entry = true
  asked_known asked.Children = true
  asked_known (asked.Attribute attr) = is_clear attr

  abbrev pub what_known : Restriction → Bool
  what_known (to_names style name) = true
  what_known (to_filter filter) = tests_known filter
  what_known (to_attrs items) = list_all asked_known items
  what_known (to_open what) = false

  abbrev pub who_known : Who → Bool
  who_known who.Anyone = true
  who_known who.Anonymous = true
  who_known who.Users = true
  who_known who.Myself = true
  who_known (who.Dn style name) = true
  who_known (who.DnAttr attr) = is_clear attr
  who_known (who.Group name class_attr class_key attr) = is_known types.rows attr
  who_known (who.Open w) = false

  abbrev pub clause_known : AccessClause → Bool
  clause_known clause = list_all who_known clause.who && not (takes_half clause.edit)

  abbrev pub rule_known : AccessRule → Bool
  rule_known rule = list_all what_known rule.what && list_all clause_known rule.clauses

  abbrev pub AreUnderstood : Configuration → Type 0
  AreUnderstood config = (config.rules ≡ [] → ⊥) × (list_all rule_known config.rules ≡ true)
