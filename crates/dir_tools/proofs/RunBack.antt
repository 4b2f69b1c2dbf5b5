-- The texts of a run lead back to where it began.
use Rattle.std.proofs.Common.{◌≡◌, ℕ, ◌+◌, ◌<◌, ◌^◌, nat_lt, Bool, true, false, List, [], ◌∷◌, ◌++◌, length, map, reverse, take, None, Some, Result, Ok, Err, refl, sym, ap, subst, ◌∙◌, arith, length-append}
use Rattle.std.specs.List.{flat_map}
use Rattle.std.proofs.lemmas.Bool.Decides.{nat_tests}
use Rattle.std.proofs.lemmas.Grind.{flat_map-append}
use Rattle.std.proofs.lemmas.List.{length-reverse, reverse-append}
use Rattle.std.proofs.Math.Seq.{take-append_seam}
use Rattle.dir_names.specs.declared.schema.TypeRow.{TypeRow}
use Rattle.dir_ldif.specs.declared.faults.RecordFault.{RecordFault}
use Rattle.dir_ldif.specs.declared.faults.StreamFault.{StreamFault}
use Rattle.dir_ldif.specs.declared.records.Change.{Change}
use Rattle.dir_ldif.specs.declared.records.Record.{Record}
use Rattle.dir_ldif.specs.declared.records.Record.TheVariants as form
use Rattle.dir_ldif.specs.RoundTrip.{without_line}
use Rattle.dir_ldif.specs.Records.{Answer, Found, marks_up_to, records_of, records_up_to}
use Rattle.dir_tree.specs.Dir.{Dir}
use Rattle.dir_tree.specs.WellFormed.{IsWellFormed, IsWithinLimits}
use Rattle.dir_change.specs.declared.result_code.ResultCode.{ResultCode}
use Rattle.dir_change.specs.Operation.{step}
use Rattle.dir_change.specs.Runs.{Ending, LeadsBack, ReadsBackByGroups, RunsAreTakenBack, RunsStayInOrder, StaysInOrder, UndoTextsReadBack, group_of, undo_changes}
use Rattle.dir_change.specs.Undo.{directory_after_all}
use Rattle.dir_names.specs.Results.{and_then}
use Rattle.dir_change.specs.UndoText.{undo_text_of}
use Rattle.dir_tools.specs.Canonical.{canonical_of}
use Rattle.dir_tools.specs.CopyOf.{copy_of}
use Rattle.dir_tools.specs.Laws.{CameBy, CanonicalTextsReadBack, LeadsBackTo, WrittenRunsAreTakenBack, WrittenRunsGoBack}
use Rattle.dir_tools.specs.RunOf.{HasAccepted, Outcome, ReadsAsGroups, RunEnd, causes_in, change_step, group_in, groups_in, looked_at_all, record_step, run_of, too_few_groups, with_outcomes_before}
use Rattle.dir_tools.proofs.RunLemmas.{goes}
use Rattle.dir_tools.proofs.Small.{heads, one_found}

abbrev fine : Change → Result (Result Record RecordFault) StreamFault
fine c = Ok (Ok (form.Change c))

module _ (rows : List TypeRow) (go_on : Bool) where
  -- the run is accepted whole, and ends there
  abbrev AcceptsAll : Dir → List Answer → Dir → Type 0
  AcceptsAll e answers d = (back : RunEnd) × (run_of rows go_on e answers ≡ Ok back) × (causes_in back.outcomes ≡ []) × (back.end ≡ d)

  one_more : (e f d : Dir) (c : Change) (found : Found) (later : List Answer) → found.1 ≡ Ok (form.Change c) → step rows e c ≡ Ok f → AcceptsAll f later d → AcceptsAll e (Ok found ∷ later) d
  one_more e f d c found later is takes rest =
      let here : record_step rows e found.1 ≡ Ok (f, group_of rows e f c) = ap (record_step rows e) is ∙ ap (change_step rows e c) takes in (
        record { end = rest.0.end; outcomes = (found.0, Ok (group_of rows e f c)) ∷ rest.0.outcomes },
        goes rows go_on e found (Ok (f, group_of rows e f c)) later here ∙ ap (with_outcomes_before ((found.0, Ok (group_of rows e f c)) ∷ [])) rest.1,
        rest.2,
        rest.3,
      )

  all_accepted : (cs : List Change) (e d : Dir) (answers : List Answer) → map without_line answers ≡ map fine cs → directory_after_all rows e cs ≡ Ok d → AcceptsAll e answers d
  all_accepted [] e d [] same steps = (record { end = e; outcomes = [] }, refl, refl, cc)
  all_accepted [] e d (a ∷ later) same steps = absurd (cc)
  all_accepted (c ∷ cs) e d [] same steps = absurd (cc)
  all_accepted (c ∷ cs) e d (Err fault ∷ later) same steps = absurd (cc)
  all_accepted (c ∷ cs) e d (Ok found ∷ later) same steps = by (step rows e c) refl steps (λ f t. all_accepted cs f d later parts.1 t)
    where
      parts : (without_line (Ok found) ≡ fine c) × (map without_line later ≡ map fine cs)
      parts = heads (Ok found) (form.Change c) (map without_line later) (map fine cs) same

      by : (r : Result Dir ResultCode) → step rows e c ≡ r → and_then r (λ f. directory_after_all rows f cs) ≡ Ok d → ((f : Dir) → directory_after_all rows f cs ≡ Ok d → AcceptsAll f later d) → AcceptsAll e (Ok found ∷ later) d
      by (Ok f) takes t rest = one_more e f d c found later (one_found found (form.Change c) parts.0) takes (rest f t)
      by (Err code) takes t rest = absurd (cc)

-- so many groups are enough
enough_then : (at_end : Bool) (n k : ℕ) → n ≡ k → too_few_groups (Some k) (Some n) at_end ≡ None
enough_then true n k same = let enough : nat_lt n k ≡ false = grind (arith, nat_tests) in rw (enough) refl
enough_then false n k same = refl

module _ (canonical : CanonicalTextsReadBack) (back : RunsAreTakenBack) (order : RunsStayInOrder) (undo : UndoTextsReadBack) (rows : List TypeRow) (d : Dir) (ran : RunEnd)
    (well : IsWellFormed rows d) (within : IsWithinLimits d) (was : HasAccepted rows d ran.outcomes ran.end) where
  abbrev ending : Ending
  ending = record { end = ran.end; groups = groups_in ran.outcomes }

  reads : ReadsBackByGroups rows ending
  reads = subst (ReadsBackByGroups rows) was.2 (undo rows d was.0 well within was.1).0

  stays : StaysInOrder rows d ending
  stays = subst (StaysInOrder rows d) was.2 (order rows d was.0 well within was.1).0

  copied : copy_of rows d.suffix (canonical_of ran.end) ≡ Ok ran.end
  copied = ap (λ k. copy_of rows k (canonical_of ran.end)) (sym stays.2) ∙ canonical rows ran.end stays.0 stays.1

  whole : ReadsAsGroups rows (undo_text_of (groups_in ran.outcomes)) (groups_in ran.outcomes) × ((go_on : Bool) → LeadsBackTo rows d.suffix ran go_on None d)
  whole =
      let leads : LeadsBack rows d ending = subst (LeadsBack rows d) was.2 (back rows d was.0 well within was.1).0 in
      (reads.0, λ go_on. by go_on (all_accepted rows go_on (undo_changes ending) ran.end d (records_of rows (undo_text_of (groups_in ran.outcomes))) reads.0 leads))
    where
      by : (go_on : Bool) → AcceptsAll rows go_on ran.end (records_of rows (undo_text_of (groups_in ran.outcomes))) d → LeadsBackTo rows d.suffix ran go_on None d
      by go_on run = record { copied = copied; back = run.0; runs = run.1; enough = refl; refuses_nothing = run.2; ends_there = run.3 }

  -- the groups of what was still to come stand first in the undo text
  module _ (point : Dir) (later : List (ℕ × Outcome)) (by_way : CameBy rows d ran point later) where
    abbrev k : ℕ
    k = length (groups_in later)

    abbrev rest : Ending
    rest = record { end = ran.end; groups = groups_in later }

    groups : groups_in ran.outcomes ≡ groups_in by_way.before ++ groups_in later
    groups = ap groups_in by_way.outcomes ∙ flat_map-append group_in by_way.before later

    count : length (groups_in ran.outcomes) ≡ length (groups_in by_way.before) + k
    count = ap length groups ∙ length-append (groups_in by_way.before) (groups_in later)

    first_groups : take k (reverse (groups_in ran.outcomes)) ≡ reverse (groups_in later)
    first_groups =
        ap (λ gs. take k (reverse gs)) groups ∙ ap (take k) (reverse-append (groups_in by_way.before) (groups_in later))
        ∙ ap (λ n. take n (reverse (groups_in later) ++ reverse (groups_in by_way.before))) (sym (length-reverse (groups_in later)))
        ∙ take-append_seam (reverse (groups_in later)) (reverse (groups_in by_way.before))

    came : StaysInOrder rows d (record { end = point; groups = groups_in by_way.before })
    came = subst (StaysInOrder rows d) by_way.came.2 (order rows d by_way.came.0 well within by_way.came.1).0

    leads : LeadsBack rows point rest
    leads = subst (LeadsBack rows point) by_way.went_on.2 (back rows point by_way.went_on.0 came.0 came.1 by_way.went_on.1).0

    module _ (fits : k < 2 ^ 64) where
      first_read : map without_line (records_up_to rows k (undo_text_of (groups_in ran.outcomes))) ≡ map fine (undo_changes rest)
      first_read = (reads.1 k fits).0 ∙ ap (λ gs. map fine (flat_map (λ g. g) gs)) first_groups

      marks : marks_up_to k (undo_text_of (groups_in ran.outcomes)) ≡ Some k
      marks = let more = count in (reads.1 k fits).1 ∙ ap Some (omega (arith, more))

      to_point : (go_on : Bool) → LeadsBackTo rows d.suffix ran go_on (Some k) point
      to_point go_on = by (all_accepted rows go_on (undo_changes rest) ran.end point (records_up_to rows k (undo_text_of (groups_in ran.outcomes))) first_read leads)
        where
          by : AcceptsAll rows go_on ran.end (records_up_to rows k (undo_text_of (groups_in ran.outcomes))) point → LeadsBackTo rows d.suffix ran go_on (Some k) point
          by run = record {
            copied = copied;
            back = run.0;
            runs = run.1;
            enough = ap (λ m. too_few_groups (Some k) m (looked_at_all go_on run.0)) marks ∙ enough_then (looked_at_all go_on run.0) k k refl;
            refuses_nothing = run.2;
            ends_there = run.3;
          }

pub runs_back : CanonicalTextsReadBack → RunsAreTakenBack → RunsStayInOrder → UndoTextsReadBack → WrittenRunsAreTakenBack
runs_back canonical back order undo rows d ran well within was = whole canonical back order undo rows d ran well within was

pub runs_go_back : CanonicalTextsReadBack → RunsAreTakenBack → RunsStayInOrder → UndoTextsReadBack → WrittenRunsGoBack
runs_go_back canonical back order undo rows d ran point later well within was by_way fits go_on = to_point canonical back order undo rows d ran well within was point later by_way fits go_on
