use Rattle.std.proofs.Common.{None, false, inr, refl, subst, arith}
use Rattle.dir_tools.specs.declared.run.ModifyOptions.{ModifyOptions}
use Rattle.dir_tools.specs.Headline.{RunTerms, terms}
use Rattle.dir_tools.specs.Inside.RunInMemory.{IsRunInMemory}
use Rattle.dir_tools.specs.RoundTrip.{IsFaultThere}
use Rattle.dir_tools.proofs.AccessBack.{access_there_and_back}
use Rattle.dir_tools.proofs.RoundTrips.{fault_back}
use Rattle.dir_tools.proofs.WholeRuns.{there_and_back}
use Rattle.dir_tools.proofs.round_trip.run_there_and_back.Goals as goal

pub returns-in-Ok-run_in_memory-clause-taken_back : goal.returns-in-Ok-run_in_memory-clause-taken_back
returns-in-Ok-run_in_memory-clause-taken_back c =
    let written : ModifyOptions = record { go_on = c.args.options.go_on; dry = false; verbose = c.args.options.verbose; last = c.args.options.last } in
    let whole : ModifyOptions = record { go_on = c.args.options.go_on; dry = false; verbose = c.args.options.verbose; last = None } in
    let q : RunTerms = terms c.args.schema.now c.args.suffix.now written in
    let r : RunTerms = terms c.args.schema.now c.args.suffix.now whole in
    let there = c.in-Ok.there in
    let back = c.in-Ok-run_in_memory.back in
    let ran_back : IsRunInMemory r there.out.items there.undo.items back =
    subst (λ t. IsRunInMemory r t there.undo.items back) c.as_slice-new.ensures.value
    (subst (λ t. IsRunInMemory r c.as_slice-new.result.now t back) c.as_slice-undo.ensures.value c.in-Ok-run_in_memory.ensures.ok) in
    there_and_back c.headline.ensures q whole c.args.copy.now c.args.changes.now there back refl (λ i. let fits = c.type_inv.copy i in omega arith) (λ i. let fits = c.type_inv.changes i in omega arith)
    c.in-Ok.ensures.ok ran_back

pub returns-in-Ok-run_in_memory-clause-access : goal.returns-in-Ok-run_in_memory-clause-access
returns-in-Ok-run_in_memory-clause-access c =
    let written : ModifyOptions = record { go_on = c.args.options.go_on; dry = false; verbose = c.args.options.verbose; last = c.args.options.last } in
    let whole : ModifyOptions = record { go_on = c.args.options.go_on; dry = false; verbose = c.args.options.verbose; last = None } in
    let q : RunTerms = terms c.args.schema.now c.args.suffix.now written in
    let r : RunTerms = terms c.args.schema.now c.args.suffix.now whole in
    let there = c.in-Ok.there in
    let back = c.in-Ok-run_in_memory.back in
    let ran_back : IsRunInMemory r there.out.items there.undo.items back =
    subst (λ t. IsRunInMemory r t there.undo.items back) c.as_slice-new.ensures.value
    (subst (λ t. IsRunInMemory r c.as_slice-new.result.now t back) c.as_slice-undo.ensures.value c.in-Ok-run_in_memory.ensures.ok) in
    access_there_and_back c.access_is_as_before.ensures q whole c.args.copy.now c.args.changes.now there back refl (λ i. let fits = c.type_inv.copy i in omega arith) (λ i. let fits = c.type_inv.changes i in omega arith)
    c.in-Ok.ensures.ok ran_back

pub returns-clause-fault : goal.returns-clause-fault
returns-clause-fault c =
    let written : ModifyOptions = record { go_on = c.args.options.go_on; dry = false; verbose = c.args.options.verbose; last = c.args.options.last } in
    let whole : ModifyOptions = record { go_on = c.args.options.go_on; dry = false; verbose = c.args.options.verbose; last = None } in
    let q : RunTerms = terms c.args.schema.now c.args.suffix.now written in
    let r : RunTerms = terms c.args.schema.now c.args.suffix.now whole in
    let there = c.in-Ok.there in
    let fault = c.in-Err-run_in_memory.fault in
    let stopped : IsFaultThere r there.out.items there.undo.items fault =
    subst (λ t. IsFaultThere r t there.undo.items fault) c.as_slice-new.ensures.value
    (subst (λ t. IsFaultThere r c.as_slice-new.result.now t fault) c.as_slice-undo.ensures.value c.in-Err-run_in_memory.ensures.fault) in
    let ran = c.in-Ok.ensures.ok in
    inr (fault_back c.headline.ensures (terms c.args.schema.now c.args.suffix.now c.args.options) whole c.args.copy.now c.args.changes.now ran.output there.out.items there.undo.items fault
    refl (λ i. let fits = c.type_inv.copy i in omega arith) (λ i. let fits = c.type_inv.changes i in omega arith) ran.runs ran.out ran.undo stopped)
