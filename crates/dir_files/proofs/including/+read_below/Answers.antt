use Rattle.std.proofs.Common.{◌≡◌, ℕ, ◌-◌, List, ◌++◌, Result, Err, map, sym, subst, rules, Vec, Global}
use Rattle.std.specs.List.{flat_map}
use Rattle.dir_names.specs.declared.list.Bytes.{Bytes}
use Rattle.dir_conf.specs.declared.slapd_conf.files.ConfFile.{ConfFile}
use Rattle.dir_conf.specs.SlapdConf.Files.{File, file_of}
use Rattle.dir_files.specs.declared.including.Unread.{Unread}
use Rattle.dir_files.specs.declared.including.Unread.TheVariants as unread
use Rattle.dir_files.specs.Including.{AreReadBy, Does, IncludedBelow, ReadsOrStops, included_by, path_of}
use Rattle.dir_files.proofs.IncludingCalls.{all_read, appended, level_below, memory_after, none_below, stopped_after}
use Rattle.dir_files.proofs.including.+read_below.Goals as goal

abbrev Paths : Type 0
Paths = Vec Bytes Global

abbrev Files : Vec ConfFile Global → List File
Files found = map file_of found.items

pub returns-then-below-eq0-clause-included : goal.returns-then-below-eq0-clause-included
returns-then-below-eq0-clause-included g t c =
    subst (λ (items : List ConfFile). IncludedBelow c.args.below c.args.known.items c.args.wanted.now (map file_of items)) (sym c.new.ensures.items) (none_below c.args.below c.args.known.items c.args.wanted.now (search rules))

pub returns-in_err-append-clause-calls : goal.returns-in_err-append-clause-calls
returns-in_err-append-clause-calls g t c =
    let result : c.from_residual-in_err-append.result ≡ Err unread.Memory = search rules in
    subst (λ (r : Result (Vec ConfFile Global) Unread). Does (g.F.FileSystem.disk c.args.files.now) (g.F.FileSystem.disk c.read_level.new.files) (ReadsOrStops c.args.room Files r)) (sym result)
    (memory_after (g.F.FileSystem.disk c.args.files.now) (g.F.FileSystem.disk c.read_level.new.files) c.args.room _ c.in_ok-found.ensures.calls)

pub returns-in_err-deeper-clause-calls : goal.returns-in_err-deeper-clause-calls
returns-in_err-deeper-clause-calls g t c =
    let result : c.from_residual-in_err-deeper.result ≡ Err c.in_err-deeper.field-0.0 = search rules in
    subst (λ (r : Result (Vec ConfFile Global) Unread). Does (g.F.FileSystem.disk c.args.files.now) (g.F.FileSystem.disk c.read_below.new.files) (ReadsOrStops c.args.room Files r)) (sym result)
    (stopped_after (g.F.FileSystem.disk c.args.files.now) (g.F.FileSystem.disk c.read_level.new.files) (g.F.FileSystem.disk c.read_below.new.files) c.in_ok-found.field-0.room c.args.room _ _ c.in_ok-found.ensures.room c.in_ok-found.ensures.calls c.in_err-deeper.ensures.calls)

pub returns-in_err-append-2-clause-calls : goal.returns-in_err-append-2-clause-calls
returns-in_err-append-2-clause-calls g t c =
    let result : c.from_residual-in_err-append-2.result ≡ Err unread.Memory = search rules in
    subst (λ (r : Result (Vec ConfFile Global) Unread). Does (g.F.FileSystem.disk c.args.files.now) (g.F.FileSystem.disk c.read_below.new.files) (ReadsOrStops c.args.room Files r)) (sym result)
    (memory_after (g.F.FileSystem.disk c.args.files.now) (g.F.FileSystem.disk c.read_below.new.files) c.args.room _
    (all_read (g.F.FileSystem.disk c.args.files.now) (g.F.FileSystem.disk c.read_level.new.files) (g.F.FileSystem.disk c.read_below.new.files) _ _ c.in_ok-found.ensures.calls c.in_ok-deeper.ensures.calls))

pub returns-clause-included : goal.returns-clause-included
returns-clause-included g t c =
    let known = c.args.known.items in
    let wanted = c.args.wanted.now in
    let new = map file_of c.in_ok-found.field-0.files.items in
    let deeper = map file_of c.in_ok-deeper.deeper.items in
    let its_paths_before = c.in_ok-found.ensures.level.paths in
    let its_wanted_before = c.in_ok-found.ensures.level.wanted in
    let its_paths : c.in_ok-found.paths.items ≡ map path_of new = cc in
    let its_wanted : c.in_ok-found.wanted.items ≡ flat_map included_by new = cc in
    let all = c.in_ok-append.ensures.items in
    let paths : c.append.new.self.items ≡ known ++ map path_of new = cc in
    let sliced = c.as_slice-2.ensures.value in
    let next : c.as_slice-2.result.now ≡ flat_map included_by new = cc in
    subst (λ (files : List File). IncludedBelow c.args.below known wanted files) (sym (appended c.append-2.new.self.items c.in_ok-found.field-0.files.items c.in_ok-deeper.deeper.items c.in_ok-append-2.ensures.items))
    (level_below c.args.below known wanted new deeper (search rules) (search rules)
    (subst (λ (l : List (List ℕ)). IncludedBelow (c.args.below - 1) (known ++ map path_of new) l deeper) next
    (subst (λ (l : List (List ℕ)). IncludedBelow (c.args.below - 1) l c.as_slice-2.result.now deeper) paths c.in_ok-deeper.ensures.included)))

pub returns-clause-calls : goal.returns-clause-calls
returns-clause-calls g t c =
    subst (λ (files : List File). Does (g.F.FileSystem.disk c.args.files.now) (g.F.FileSystem.disk c.read_below.new.files) (λ d. AreReadBy d files)) (sym (appended c.append-2.new.self.items c.in_ok-found.field-0.files.items c.in_ok-deeper.deeper.items c.in_ok-append-2.ensures.items))
    (all_read (g.F.FileSystem.disk c.args.files.now) (g.F.FileSystem.disk c.read_level.new.files) (g.F.FileSystem.disk c.read_below.new.files) _ _ c.in_ok-found.ensures.calls c.in_ok-deeper.ensures.calls)
