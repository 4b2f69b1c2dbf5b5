-- A decision as one set of privileges that each edit changes.
use Rattle.std.specs.Prelude.{not, ◌&&◌, ◌||◌, List}
use Rattle.std.specs.List.{fold}
use Rattle.dir_acl.specs.declared.access.Edit.{Edit}
use Rattle.dir_acl.specs.declared.access.Edit.TheVariants as edit
use Rattle.dir_acl.specs.declared.privileges.Privileges.{Privileges}

abbrev pub joined : Privileges → Privileges → Privileges
joined a b = record {
  manage = a.manage || b.manage;
  add = a.add || b.add;
  delete = a.delete || b.delete;
  read = a.read || b.read;
  search = a.search || b.search;
  compare = a.compare || b.compare;
  auth = a.auth || b.auth;
  disclose = a.disclose || b.disclose;
}

abbrev pub without : Privileges → Privileges → Privileges
without a b = record {
  manage = a.manage && not b.manage;
  add = a.add && not b.add;
  delete = a.delete && not b.delete;
  read = a.read && not b.read;
  search = a.search && not b.search;
  compare = a.compare && not b.compare;
  auth = a.auth && not b.auth;
  disclose = a.disclose && not b.disclose;
}

abbrev pub edited : Privileges → Edit → Privileges
edited set (edit.Set new) = new
edited set (edit.Add more) = joined set more
edited set (edit.Remove less) = without set less

abbrev pub after_edits : Privileges → List Edit → Privileges
after_edits set edits = fold edited set edits
