-- The tips of a tree by key.
use Rattle.std.specs.Prelude.{List, map, Option, Some, None}
use Rattle.ndc_event.specs.declared.batch.Batch.{Batch}
use Rattle.ndc_event.specs.declared.key.BatchKey.{BatchKey}
use Rattle.ndc_event.specs.declared.key.RunId.{RunId}
use Rattle.ndc_model_sets.specs.Branches.{tips}
use Rattle.ndc_model_sets.specs.Keys.{without_key}

-- the keys of the tips of a run, ascending
abbrev pub tip_keys : RunId → List Batch → List BatchKey
tip_keys run batches = map (λ b. b.key) (tips run batches)

-- the keys but for this one, where there is one
abbrev pub without_parent : Option BatchKey → List BatchKey → List BatchKey
without_parent None keys = keys
without_parent (Some key) keys = without_key key keys
