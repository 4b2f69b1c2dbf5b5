-- Examples of slapd.conf(5) and of slapd.access(5), as the definition of configurations has them.
use Rattle.std.proofs.Common.{◌≡◌, ℕ, true, List, [], ◌∷◌, ◌++◌, map, Option, Some, Ok, Err, refl}
use Rattle.std.specs.Prelude.{codes}
use Rattle.dir_names.specs.Ascii.{line_feed}
use Rattle.dir_names.specs.declared.schema.TypeRow.{TypeRow}
use Rattle.dir_acl.specs.declared.access.Control.TheVariants.{Stop, Continue, Break}
use Rattle.dir_acl.specs.declared.access.Edit.TheVariants as edit
use Rattle.dir_acl.specs.declared.access.Who.TheVariants as who
use Rattle.dir_acl.specs.declared.fault.ConfigCause.TheVariants as cause
use Rattle.dir_acl.specs.declared.privileges.Level.TheVariants as level
use Rattle.dir_acl.specs.Config.{config_of}
use Rattle.dir_acl.specs.Config.AccessRules.{access_rule_of}
use Rattle.dir_acl.specs.Config.Permissions.{no_edit}
use Rattle.dir_acl.specs.Privileges.{level_set, no_privileges}

abbrev words : List (List ℕ) → List (Option (List ℕ))
words texts = map Some texts

module _ (rows : List TypeRow) where
  -- `access to * by * read`
  pub all_may_read : access_rule_of rows (words (codes "to" ∷ codes "*" ∷ codes "by" ∷ codes "*" ∷ codes "read" ∷ []))
      ≡ Ok (record { what = []; clauses = (record { who = who.Anyone ∷ []; edit = edit.Set (level_set level.Read); control = Stop }) ∷ [] })
  all_may_read = refl

  -- `access to * by self write by anonymous auth by * read`
  pub self_may_write : access_rule_of rows
      (words (codes "to" ∷ codes "*" ∷ codes "by" ∷ codes "self" ∷ codes "write" ∷ codes "by" ∷ codes "anonymous" ∷ codes "auth" ∷ codes "by" ∷ codes "*" ∷ codes "read" ∷ []))
      ≡ Ok (record {
        what = [];
        clauses =
            (record { who = who.Myself ∷ []; edit = edit.Set (level_set level.Write); control = Stop })
            ∷ (record { who = who.Anonymous ∷ []; edit = edit.Set (level_set level.Auth); control = Stop })
            ∷ (record { who = who.Anyone ∷ []; edit = edit.Set (level_set level.Read); control = Stop }) ∷ [];
      })
  self_may_write = refl

  -- `access to * by * =cs continue by users +r`, in any case
  pub continued_clauses : access_rule_of rows
      (words (codes "TO" ∷ codes "*" ∷ codes "BY" ∷ codes "*" ∷ codes "=CS" ∷ codes "Continue" ∷ codes "by" ∷ codes "users" ∷ codes "+r" ∷ []))
      ≡ Ok (record {
        what = [];
        clauses =
            (record { who = who.Anyone ∷ []; edit = edit.Set (record no_privileges { compare = true; search = true }); control = Continue })
            ∷ (record { who = who.Users ∷ []; edit = edit.Add (record no_privileges { read = true }); control = Stop }) ∷ [];
      })
  continued_clauses = refl

  -- a clause without an <access> changes nothing
  pub control_alone : access_rule_of rows (words (codes "to" ∷ codes "*" ∷ codes "by" ∷ codes "users" ∷ codes "break" ∷ []))
      ≡ Ok (record { what = []; clauses = (record { who = who.Users ∷ []; edit = no_edit; control = Break }) ∷ [] })
  control_alone = refl

  -- a form that is not supported is refused
  pub peers : access_rule_of rows (words (codes "to" ∷ codes "*" ∷ codes "by" ∷ codes "peername.ip=127.0.0.1" ∷ codes "read" ∷ [])) ≡ Err cause.Unsupported
  peers = refl

  -- a line may not end after `by`
  pub ends_after_by : access_rule_of rows (words (codes "to" ∷ codes "*" ∷ codes "by" ∷ [])) ≡ Err cause.BadDirective
  ends_after_by = refl

  -- a rule before the database is refused, with its line
  pub global : config_of rows (codes "# one" ++ line_feed ∷ codes "access to * by * read" ++ line_feed ∷ []) ≡ Err (record { line = 2; cause = cause.GlobalAccess })
  global = refl

  -- a second database, beside that of `monitor`
  pub two_databases : config_of rows (codes "database monitor" ++ line_feed ∷ codes "suffix BAD" ++ line_feed ∷ codes "database mdb" ++ line_feed ∷ codes "database mdb")
      ≡ Err (record { line = 4; cause = cause.SecondDatabase })
  two_databases = refl

  -- without a suffix
  pub no_suffix : config_of rows (codes "database mdb" ++ line_feed ∷ []) ≡ Err (record { line = 0; cause = cause.NoSuffix })
  no_suffix = refl
