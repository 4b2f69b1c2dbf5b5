-- The faults of runs in memory, and what the run back gives.
use Rattle.std.proofs.Common.{◌≡◌, ℕ, List, None, Some, Ok, Err, Result, inl, inr, refl, subst, ◌∙◌}
use Rattle.dir_ldif.specs.SoundRecords.{IsBytes}
use Rattle.dir_ldif.specs.declared.faults.StreamFault.TheVariants as stream
use Rattle.dir_tools.specs.declared.fault.Cause.TheVariants as cause
use Rattle.dir_tools.specs.declared.fault.Input.TheVariants as input
use Rattle.dir_tools.specs.declared.fault.ToolFault.{ToolFault}
use Rattle.dir_tools.specs.declared.fault.ToolFault.TheVariants as tool
use Rattle.dir_tools.specs.declared.round_trip.RoundTrip.{RoundTrip}
use Rattle.dir_tools.specs.declared.round_trip.RunInMemory.{RunInMemory}
use Rattle.dir_tools.specs.declared.run.ModifyOptions.{ModifyOptions}
use Rattle.dir_tools.specs.Headline.{Headline, IsTakenBack, RunTerms, RunOutput, output_of, terms}
use Rattle.dir_tools.specs.Inside.RunInMemory.{IsRunInMemory}
use Rattle.dir_tools.specs.RoundTrip.{IsFaultBack, IsFaultThere, IsRoundTrip, over_all}
use Rattle.dir_tools.specs.RunAnswers.{AnswersRun, IsWholeRun, sources}

-- a run whose readers have not failed
module _ (q : RunTerms) (copy changes : List ℕ) (output : RunOutput) where
  abbrev Answers : ToolFault → Type 0
  Answers fault = AnswersRun q (sources (Some copy) (Some changes)) (Err fault) output

  abbrev Whole : ToolFault → Type 0
  Whole fault = IsWholeRun q (sources (Some copy) (Some changes)) (Err fault) output

  pub fault_there : (fault : ToolFault) → (fault ≡ tool.Read input.Copy → ⊥) → (fault ≡ tool.Read input.Changes → ⊥) → Answers fault → Whole fault → IsFaultThere q copy changes fault
  fault_there (tool.BadQuestion part) a b h w = inl w
  fault_there (tool.BadCopy line (cause.Code code)) a b h w = inl w
  fault_there (tool.BadCopy line (cause.Fault fault)) a b h w = inl w
  fault_there (tool.BadCopy line (cause.Ended stream.TooManyTurns)) a b h w = inr h.2.1
  fault_there (tool.BadCopy line (cause.Ended stream.LineTooLong)) a b h w = inl w
  fault_there (tool.BadCopy line (cause.Ended stream.Read)) a b h w = inl w
  fault_there (tool.BadCopy line (cause.Ended stream.Memory)) a b h w = inl w
  fault_there (tool.BadCopy line (cause.Ended stream.Ended)) a b h w = inl w
  fault_there (tool.BadCopy line (cause.Ended stream.BadVersion)) a b h w = inl w
  fault_there (tool.BadCopy line (cause.Ended stream.BadMark)) a b h w = inl w
  fault_there (tool.BadChanges stream.TooManyTurns) a b h w = inr h.changes
  fault_there (tool.BadChanges stream.LineTooLong) a b h w = inl w
  fault_there (tool.BadChanges stream.Read) a b h w = inl w
  fault_there (tool.BadChanges stream.Memory) a b h w = inl w
  fault_there (tool.BadChanges stream.Ended) a b h w = inl w
  fault_there (tool.BadChanges stream.BadVersion) a b h w = inl w
  fault_there (tool.BadChanges stream.BadMark) a b h w = inl w
  fault_there (tool.Config fault) a b h w = inl w
  fault_there tool.NoEntry a b h w = inl w
  fault_there (tool.TooFewGroups groups) a b h w = inl w
  fault_there (tool.Read input.Copy) a b h w = absurd (a refl)
  fault_there (tool.Read input.Changes) a b h w = absurd (b refl)
  fault_there (tool.Read input.Config) a b h w = absurd (h)
  fault_there tool.Memory a b h w = inr tt
  fault_there (tool.Write to) a b h w = inr tt

-- both runs have their outputs
pub round_trip : (q : RunTerms) (copy changes : List ℕ) (there back : RunInMemory) (trip : RoundTrip) → IsRunInMemory q copy changes there
    → IsRunInMemory (over_all q) there.out.items there.undo.items back → trip.there ≡ there.summary → trip.back ≡ back.summary → trip.copy.items ≡ back.out.items
    → IsRoundTrip q copy changes trip
round_trip q copy changes there back trip ran ran_back a b c = record {
  there = ran.output;
  back = ran_back.output;
  runs_there = ran.runs;
  runs_back = subst (λ (o : List ℕ). output_of (over_all q) o ran.output.texts.undo ≡ Ok ran_back.output) ran.out (subst (λ (u : List ℕ). output_of (over_all q) there.out.items u ≡ Ok ran_back.output) ran.undo ran_back.runs);
  numbers_there = a ∙ ran.summary;
  numbers_back = b ∙ ran_back.summary;
  copy_back = c ∙ ran_back.out;
}

differ : (r : Result RunOutput ToolFault) (output : RunOutput) (fault : ToolFault) → r ≡ Ok output → r ≡ Err fault → ⊥
differ r output fault a b = cc

-- the run back has no fault of its own
pub fault_back : Headline → (q : RunTerms) (options : ModifyOptions) (copy changes : List ℕ) (output : RunOutput) (out undo : List ℕ) (fault : ToolFault) → options.last ≡ None → IsBytes copy → IsBytes changes
    → output_of q copy changes ≡ Ok output → out ≡ output.texts.out → undo ≡ output.texts.undo → IsFaultThere (terms q.rows q.suffix options) out undo fault → IsFaultBack q copy changes fault
fault_back law q options copy changes output out undo fault whole copy_bytes changes_bytes runs out_is undo_is h =
    let taken = law q copy changes output copy_bytes changes_bytes runs in
    let leads : IsTakenBack q output options taken.0 = taken.2 options whole in
    let moved : IsFaultThere (terms q.rows q.suffix options) output.texts.out output.texts.undo fault =
    subst (λ (o : List ℕ). IsFaultThere (terms q.rows q.suffix options) o output.texts.undo fault) out_is
    (subst (λ (u : List ℕ). IsFaultThere (terms q.rows q.suffix options) out u fault) undo_is h) in
    at leads.back leads.runs moved
  where
    at : (back : RunOutput) → output_of (terms q.rows q.suffix options) output.texts.out output.texts.undo ≡ Ok back
        → IsFaultThere (terms q.rows q.suffix options) output.texts.out output.texts.undo fault → IsFaultBack q copy changes fault
    at back back_runs (inl is) = absurd (differ (output_of (terms q.rows q.suffix options) output.texts.out output.texts.undo) back fault back_runs is)
    at back back_runs (inr stops) = record { there = output; runs_there = runs; stops = stops }
