-- What is served for a gap.
use Rattle.std.specs.Prelude.{List, [], ◌∷◌, ◌++◌, Option, None}
use Rattle.std.specs.List.{filter_map}
use Rattle.ndc_event.specs.declared.batch.Batch.{Batch}
use Rattle.ndc_event.specs.declared.key.BatchKey.{BatchKey}
use Rattle.ndc_model_cells.specs.declared.message.Message.{Message}
use Rattle.ndc_model_cells.specs.Cells.{Cell, ancestors_down, learned_of, message_at}
use Rattle.ndc_model_cells.specs.Places.{place_of}
use Rattle.ndc_model_sets.specs.Paths.{path_to}
use Rattle.ndc_resend.specs.declared.serving.Gap.{Gap}
use Rattle.ndc_resend.specs.Gaps.{end_behind, served}
use Rattle.ndc_resend.specs.declared.asking.GapOf.{GapOf}

-- the batches that lead to the one that is wanted, through parents and carriers, and that one
abbrev pub chain_to : Option BatchKey → List Batch → List Batch
chain_to wanted batches = (ancestors_down batches (record { wanted = wanted; path = [] })).path

-- the carrier's key of the first of these batches, where there is one
abbrev pub first_carrier : List Batch → Option BatchKey
first_carrier [] = None
first_carrier (b ∷ batches) = b.carrier

-- batches of a path, after those that lead to the carrier of the first
abbrev pub with_carriers : List Batch → List Batch → List Batch
with_carriers all path = chain_to (first_carrier path) all ++ path

-- the batches of a gap on the path to the one of this key, as far as that begins after the gap's first end, with their carriers
abbrev pub answered : List Batch → Gap → BatchKey → List Batch
answered all gap key = with_carriers all (served gap (end_behind gap.after.id (path_to key all)))

-- what a cell serves: the messages of these batches; a carried one has none of its own, and comes with its carrier's
abbrev pub served_for : GapOf → Cell → List Message
served_for asked cell = filter_map (λ b. message_at cell (place_of b)) (answered (learned_of asked.domain asked.workflow cell) asked.gap asked.key)
