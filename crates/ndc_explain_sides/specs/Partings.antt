-- Where batches part from what stands.
use Rattle.std.specs.Prelude.{List, [], ◌∷◌, unwrap_or, Option, Some, None, if◌then◌else◌}
use Rattle.std.specs.Map.{lookup}
use Rattle.indexmap.specs.IndexMap.{insert_entry}
use Rattle.ndc_event.specs.Key.{key_eq}
use Rattle.ndc_event.specs.declared.batch.Batch.{Batch}
use Rattle.ndc_event.specs.declared.key.BatchKey.{BatchKey}
use Rattle.ndc_event.specs.declared.key.RunId.{RunId}
use Rattle.ndc_model_sets.specs.Branches.{same_run}
use Rattle.ndc_dump_causes.specs.Keys.{is_listed}
use Rattle.ndc_explain_sides.specs.declared.parting.Parting.{Parting}

abbrev pub Partings : Type 0
Partings = List (BatchKey × Parting)

-- a batch that stands parts from nothing: it is the last one that it shares with what stands
abbrev pub standing_parting : Batch → Parting
standing_parting b = record { scope = Some b.run; since = b.key }

-- a first batch that does not stand shares nothing with what stands
abbrev pub first_parting : Batch → Parting
first_parting b = record { scope = None; since = b.key }

-- the parting of a parent, where there is one and it is known
abbrev pub parting_at : Option BatchKey → Partings → Option Parting
parting_at None known = None
parting_at (Some key) known = lookup (key_eq key) known

-- where a batch parts: a batch that does not stand parts where its parent does
abbrev pub parting_of : List BatchKey → Partings → Batch → Parting
parting_of keys known b = if is_listed b.key keys then standing_parting b else unwrap_or (parting_at b.parent known) (first_parting b)

abbrev pub with_parting : List BatchKey → Batch → Partings → Partings
with_parting keys b known = insert_entry key_eq known b.key (parting_of keys known b)

abbrev pub with_partings : List BatchKey → List Batch → Partings → Partings
with_partings keys [] known = known
with_partings keys (b ∷ batches) known = with_partings keys batches (with_parting keys b known)

-- the last standing batch of each run
abbrev pub Ends : Type 0
Ends = List (RunId × BatchKey)

abbrev pub with_ends : List BatchKey → List Batch → Ends → Ends
with_ends keys [] known = known
with_ends keys (b ∷ batches) known = with_ends keys batches (if is_listed b.key keys then insert_entry same_run known b.run b.key else known)

-- the last standing batch of the run of a batch, or that batch
abbrev pub end_of : Ends → Batch → BatchKey
end_of known b = unwrap_or (lookup (same_run b.run) known) b.key
