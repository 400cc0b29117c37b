-- What dumps of one workflow have together, and where they differ.
use Rattle.std.specs.Prelude.{Bool, true, List, [], ◌∷◌, Option, Some, None, Result, Ok, if◌then◌else◌}
use Rattle.std.specs.List.{list_all}
use Rattle.std.specs.Str.{bytes_eq}
use Rattle.ndc_event.specs.Key.{key_eq, key_lt}
use Rattle.ndc_event.specs.declared.batch.Batch.{Batch}
use Rattle.ndc_model_sets.specs.Sets.{batch_at}
use Rattle.ndc_text.specs.Bare.{bare_text}
use Rattle.ndc_text.specs.Text.{batch_text}
use Rattle.ndc_dump.specs.Bare.{bare_dump_of}
use Rattle.ndc_dump.specs.declared.dump.Dump.{Dump}
use Rattle.ndc_dump_causes.specs.declared.error.DumpError.{DumpError}
use Rattle.ndc_explain_union.specs.Takings.{Taking}
use Rattle.ndc_explain_union.specs.declared.groups.WorkflowName.{WorkflowName}

-- the batches of both, in key order, with the first one of ours before those of theirs; of two with one key ours
abbrev pub merged_behind : Batch → (List Batch → List Batch) → List Batch → List Batch
merged_behind b rest [] = b ∷ rest []
merged_behind b rest (c ∷ theirs) =
    if key_lt b.key c.key then b ∷ rest (c ∷ theirs)
    else if key_eq b.key c.key then b ∷ rest theirs
    else c ∷ merged_behind b rest theirs

-- the batches of both, in key order; of two with one key ours
abbrev pub merged : List Batch → List Batch → List Batch
merged [] theirs = theirs
merged (b ∷ ours) theirs = merged_behind b (merged ours) theirs

-- the batches of dumps, and those so far
abbrev pub united_behind : List Batch → List Taking → List Batch
united_behind so_far [] = so_far
united_behind so_far (taking ∷ takings) = united_behind (merged so_far taking.dump.view.batches) takings

-- the batches of dumps of one workflow, each key once, with what the first dump that has the key has under it
abbrev pub united : List Taking → List Batch
united takings = united_behind [] takings

-- whether two batches have one content
abbrev pub is_same : Batch → Batch → Bool
is_same one two = bytes_eq (batch_text one) (batch_text two)

-- whether a batch is the other one, where there is one
abbrev pub is_no_other : Option Batch → Batch → Bool
is_no_other None b = true
is_no_other (Some own) b = is_same own b

-- whether what is under a key in both is one batch: no key has two contents
abbrev pub are_same : List Batch → List Batch → Bool
are_same batches union = list_all (λ b. is_no_other (batch_at b.key batches) b) union

-- the dump of these batches, which dumps of a workflow have together: that of the only dump, or what is read of the batches, or the cause why they
-- are not a sound set
abbrev pub dump_of_union : WorkflowName → List Taking → List Batch → Result Dump DumpError
dump_of_union workflow (taking ∷ []) union = Ok taking.dump
dump_of_union workflow takings union = bare_dump_of (bare_text workflow.domain workflow.workflow union)
