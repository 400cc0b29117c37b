-- The places of batches, kept from the second run on.
use Rattle.std.specs.Prelude.{◌≡◌, List, [], ◌∷◌, Option, Some, None}
use Rattle.std.specs.Option.{option_map}
use Rattle.ndc_event.specs.declared.batch.Batch.{Batch}
use Rattle.ndc_event.specs.declared.key.BatchKey.{BatchKey}
use Rattle.ndc_event.specs.declared.key.RunId.{RunId}
use Rattle.ndc_model_sets.specs.Sets.{batch_at}
use Rattle.ndc_shard_runs.specs.Places.{places_of, without_place}
use Rattle.ndc_shard_runs.specs.RunMap.{all_of, run_at}
use Rattle.ndc_tree.specs.Tree.{TreeValue}

-- there is one run at most
abbrev pub AreOne : List TreeValue → Type 0
AreOne [] = Unit {0}
AreOne (r ∷ []) = Unit {0}
AreOne (r ∷ next ∷ runs) = ⊥

-- each key stands with its run, where places are kept; where none are, there is one run at most
abbrev pub AreIndexed : List TreeValue → Option (List (BatchKey × RunId)) → Type 0
AreIndexed runs None = AreOne runs
AreIndexed runs (Some places) = places ≡ places_of (all_of runs)

-- the places but for that of this key, where they are kept
abbrev pub left : BatchKey → Option (List (BatchKey × RunId)) → Option (List (BatchKey × RunId))
left key places = option_map (without_place key) places

-- the run of a batch, where there is one
abbrev pub run_named : Option Batch → List TreeValue → Option TreeValue
run_named None runs = None
run_named (Some b) runs = run_at b.run runs

-- the run of the batch of this key
abbrev pub run_with : BatchKey → List TreeValue → Option TreeValue
run_with key runs = run_named (batch_at key (all_of runs)) runs
