use Rattle.std.proofs.Common.{◌≡◌, ℕ, ◌+◌, List, ◌∷◌, ◌++◌, Result, Err, drop, ap, sym, subst, ◌∙◌, rules, arith}
use Rattle.std.proofs.lemmas.List.{drop_more}
use Rattle.dir_files.specs.declared.including.Level.{Level}
use Rattle.dir_files.specs.declared.including.Unread.{Unread}
use Rattle.dir_files.specs.Including.{Does, ReadsOrStops, files_of_level, new_paths, room_before}
use Rattle.dir_files.proofs.FailureLemmas.{earlier}
use Rattle.dir_files.proofs.IncludingCalls.{more_after, step_new, stopped_after}
use Rattle.dir_files.proofs.including.read_level.Goals as goal

pub returns-in_err-level-clause-calls : goal.returns-in_err-level-clause-calls
returns-in_err-level-clause-calls g c =
    let result : c.from_residual.result ≡ Err c.in_err-level.field-0.0 = search rules in
    subst (λ (r : Result Level Unread). Does (g.F.FileSystem.disk c.args.files.now) (g.F.FileSystem.disk c.with_new.new.files) (ReadsOrStops c.args.room files_of_level r)) (sym result)
    (stopped_after (g.F.FileSystem.disk c.args.files.now) (g.F.FileSystem.disk c.loop-path.files) (g.F.FileSystem.disk c.with_new.new.files) c.loop-path.level.room c.args.room (files_of_level c.loop-path.level) _ c.loop-path.invariant.room c.loop-path.invariant.calls c.in_err-level.ensures.calls)

pub returns-in_err-level-clause-failed : goal.returns-in_err-level-clause-failed
returns-in_err-level-clause-failed g c =
    let result : c.from_residual.result ≡ Err c.in_err-level.field-0.0 = search rules in record {
      grows = omega (arith, c.loop-path.invariant.grows, c.in_err-level.ensures.failed.grows);
      failed = λ is. earlier _ _ _ c.loop-path.invariant.grows (c.in_err-level.ensures.failed.failed (sym result ∙ is));
    }

pub loop-path-preserved : goal.loop-path-preserved
loop-path-preserved g c =
    let known = c.args.known.now in
    let before = c.loop-path.level.paths.items in
    let path = c.path-item.result in
    let rest = drop (c.loop-path.path-index + 1) c.args.wanted.now in
    let next : drop c.loop-path.path-index c.args.wanted.now ≡ path ∷ rest =
    drop_more c.args.wanted.now c.loop-path.path-index path (search rules) ∙ ap (λ (p : List ℕ). p ∷ rest) (sym c.path-item.is) in record {
      same =
          c.loop-path.invariant.same
          ∙ ap (λ (l : List (List ℕ)). before ++ new_paths (known ++ before) l) next
          ∙ step_new known before path rest
          ∙ ap (λ (l : List (List ℕ)). l ++ new_paths (known ++ l) rest) (sym c.in_ok-level.ensures.paths);
      level = c.in_ok-level.ensures.level;
      room = ◌∙◌ {b = room_before c.loop-path.level} c.in_ok-level.ensures.room c.loop-path.invariant.room;
      calls = more_after (g.F.FileSystem.disk c.args.files.now) (g.F.FileSystem.disk c.loop-path.files) (g.F.FileSystem.disk c.with_new.new.files) (files_of_level c.loop-path.level) _ c.loop-path.invariant.calls c.in_ok-level.ensures.calls;
      grows = omega (arith, c.loop-path.invariant.grows, c.in_ok-level.ensures.failed.grows);
    }
