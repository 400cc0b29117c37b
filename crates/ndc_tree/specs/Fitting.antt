-- Which batches join a tree.
use Rattle.std.specs.Prelude.{ℕ, ◌+◌, Bool, false, not, ◌&&◌, ◌==◌, is_some, List, Option, Some, None, if◌then◌else◌}
use Rattle.ndc_event.specs.declared.batch.Batch.{Batch}
use Rattle.ndc_event.specs.declared.key.BatchKey.{BatchKey}
use Rattle.ndc_event.specs.declared.key.RunId.{RunId}
use Rattle.ndc_model_sets.specs.Sets.{batch_at}
use Rattle.ndc_model_sets.specs.Paths.{first_id, last_id}
use Rattle.ndc_model_sets.specs.Branches.{same_run}
use Rattle.ndc_model_sets.specs.Last.{first_from, is_nil}

-- the key of a version after that of the parent, where this is of the version, or else the least one
abbrev pub key_behind : ℕ → Option BatchKey → BatchKey
key_behind version None = record { version = version; task = 0 }
key_behind version (Some parent) = if parent.version == version then record { version = version; task = parent.task + 1 } else record { version = version; task = 0 }

-- whether there is a batch and it is of this version
abbrev pub is_of_version : ℕ → Option Batch → Bool
is_of_version version None = false
is_of_version version (Some b) = b.key.version == version

-- whether a batch of this version is not an ancestor of one with this parent: it comes after the parent
abbrev pub splits_version : List Batch → ℕ → Option BatchKey → Bool
splits_version batches version parent = is_of_version version (first_from (key_behind version parent) batches)

-- whether the first event of a batch comes just after the last one of this, where there is one
abbrev pub goes_on : Batch → Option Batch → Bool
goes_on b None = false
goes_on b (Some before) = last_id before.events + 1 == first_id b.events

-- whether a batch with this parent goes on from it, or is the first
abbrev pub is_below : List Batch → Batch → Option BatchKey → Bool
is_below batches b None = is_nil batches
is_below batches b (Some parent) = goes_on b (batch_at parent batches)

-- whether a batch fits a tree of a run: it is of the run, its key is new, it goes on from its parent or is the first,
-- and no batch of its version is not an ancestor
abbrev pub fits : RunId → List Batch → Batch → Bool
fits run batches b =
    (same_run b.run run && not (is_some (batch_at b.key batches)))
    && (is_below batches b b.parent && not (splits_version batches b.key.version b.parent))
