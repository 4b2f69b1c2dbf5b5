-- What access rules mean (slapd.access(5)): the values of which decisions speak, and as which contracts see rules.
use Rattle.std.specs.Prelude.{List, map, Option}
use Rattle.dir_names.specs.Keys.{DnKeys}
use Rattle.dir_acl.specs.declared.access.Asked.{Asked}
use Rattle.dir_acl.specs.declared.access.Clause.{Clause}
use Rattle.dir_acl.specs.declared.access.Control.{Control}
use Rattle.dir_acl.specs.declared.access.Edit.{Edit}
use Rattle.dir_acl.specs.declared.access.OpenWhat.{OpenWhat}
use Rattle.dir_acl.specs.declared.access.OpenWhat.TheVariants as open_what
use Rattle.dir_acl.specs.declared.access.Rule.{Rule}
use Rattle.dir_acl.specs.declared.access.Style.{Style}
use Rattle.dir_acl.specs.declared.access.What.{What}
use Rattle.dir_acl.specs.declared.access.What.TheVariants as what
use Rattle.dir_acl.specs.declared.access.Who.{Who}
use Rattle.dir_acl.specs.Filters.{Tree}
use Rattle.dir_acl.specs.Filters.Packed.{tree_of}

-- a part of a <what> in a form that isn't decided: one of a name, a filter or a value; a list of attributes of which the types aren't all known, or have others below
-- them; and one that has a class beside its items
pub data OpenRestriction : Type 0 where
  open_name : OpenRestriction
  open_filter : OpenRestriction
  open_value : OpenRestriction
  open_types : List Asked → OpenRestriction
  open_classes : List Asked → OpenRestriction

-- a part of a <what>: a name with its style, a filter, a list of attributes, or a form that isn't decided
pub data Restriction : Type 0 where
  to_names : Style → DnKeys → Restriction
  to_filter : Tree → Restriction
  to_attrs : List Asked → Restriction
  to_open : OpenRestriction → Restriction

-- `by <who> [<access>] [<control>]`: each part of the <who> must hold
pub record AccessClause : Type 0 where
  pub who : List Who
  pub edit : Edit
  pub control : Control

-- `access to <what> [by <who> [<access>] [<control>]]+`: each part of the <what> must fit
pub record AccessRule : Type 0 where
  pub what : List Restriction
  pub clauses : List AccessClause

-- what a slapd.conf says of its one database
pub record Configuration : Type 0 where
  pub suffix : DnKeys
  pub root : Option DnKeys
  pub rules : List AccessRule

-- ---- as the code has them

abbrev pub open_restriction_of : OpenWhat → OpenRestriction
open_restriction_of open_what.Name = open_name
open_restriction_of open_what.Filter = open_filter
open_restriction_of open_what.Value = open_value
open_restriction_of (open_what.Types items) = open_types items.items
open_restriction_of (open_what.Classes items) = open_classes items.items

abbrev pub restriction_of : What → Restriction
restriction_of (what.Dn style name) = to_names style name
restriction_of (what.Filter filter) = to_filter (tree_of filter)
restriction_of (what.Attrs items) = to_attrs items.items
restriction_of (what.Open part) = to_open (open_restriction_of part)

abbrev pub clause_of : Clause → AccessClause
clause_of clause = record { who = clause.who.items; edit = clause.edit; control = clause.control }

abbrev pub rule_of : Rule → AccessRule
rule_of rule = record { what = map restriction_of rule.what.items; clauses = map clause_of rule.clauses.items }

abbrev pub rules_of : List Rule → List AccessRule
rules_of rules = map rule_of rules
