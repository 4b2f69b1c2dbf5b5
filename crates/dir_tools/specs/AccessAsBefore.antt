-- Access as before: once a run is taken back, each question has the answer that it had before the run.
use Rattle.std.specs.Prelude.{◌≡◌, ℕ, List, None, Some, Ok}
use Rattle.dir_ldif.specs.SoundRecords.{IsBytes}
use Rattle.dir_names.specs.declared.schema.TypeRow.{TypeRow}
use Rattle.dir_tools.specs.declared.acl.Question.{Question}
use Rattle.dir_tools.specs.declared.run.ModifyOptions.{ModifyOptions}
use Rattle.dir_tools.specs.AccessReport.{Configured, access_terms, acl_report_of, configured}
use Rattle.dir_tools.specs.Headline.{RunOutput, RunTerms, output_of, terms}
use Rattle.dir_tools.specs.Suffix.{suffix_of}

-- if the text is a configuration, the types with those that it defines are the run's, and its suffix has the key of the run's suffix
abbrev pub IsOfRun : RunTerms → List TypeRow → List ℕ → Type 0
IsOfRun q start config = (found : Configured) → configured start config ≡ Ok found → (found.rows ≡ q.rows) × (suffix_of q.rows q.suffix ≡ Some found.configuration.suffix)

-- every question, from any types and under every such configuration, has the same report over both copies, or the same fault
abbrev pub HaveSameAccess : RunTerms → List ℕ → List ℕ → Type 0
HaveSameAccess q copy back =
    (start : List TypeRow) (question : Question) (config : List ℕ) → IsOfRun q start config → acl_report_of (access_terms start question) config back ≡ acl_report_of (access_terms start question) config copy

-- the copy that the run back of the whole undo text writes has the same access as the first
abbrev pub AccessIsAsBefore : Type 0
AccessIsAsBefore = (q : RunTerms) (copy changes : List ℕ) (output back : RunOutput) (options : ModifyOptions) → options.last ≡ None → IsBytes copy → IsBytes changes
    → output_of q copy changes ≡ Ok output → output_of (terms q.rows q.suffix options) output.texts.out output.texts.undo ≡ Ok back
    → HaveSameAccess q copy back.texts.out
