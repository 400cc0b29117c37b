-- Where the batches of a workflow stand: the run of each key.
use Rattle.std.specs.Prelude.{List, [], ◌∷◌, map, Option, Some, None, if◌then◌else◌}
use Rattle.ndc_event.specs.Key.{key_lt, key_eq}
use Rattle.ndc_event.specs.declared.batch.Batch.{Batch}
use Rattle.ndc_event.specs.declared.key.BatchKey.{BatchKey}
use Rattle.ndc_event.specs.declared.key.RunId.{RunId}

-- the key of each batch with its run
abbrev pub places_of : List Batch → List (BatchKey × RunId)
places_of batches = map (λ b. (b.key, b.run)) batches

-- the run of the batch of this key
abbrev pub place_at : BatchKey → List (BatchKey × RunId) → Option RunId
place_at key [] = None
place_at key (place ∷ places) = if key_eq place.0 key then Some place.1 else place_at key places

-- the key at its place in the order, with its run
abbrev pub with_place : BatchKey → RunId → List (BatchKey × RunId) → List (BatchKey × RunId)
with_place key run [] = (key, run) ∷ []
with_place key run (place ∷ places) =
    if key_lt key place.0 then (key, run) ∷ place ∷ places
    else if key_eq key place.0 then (place.0, run) ∷ places
    else place ∷ with_place key run places

-- the places with the keys of these batches
abbrev pub all_placed : List (BatchKey × RunId) → List Batch → List (BatchKey × RunId)
all_placed places [] = places
all_placed places (b ∷ batches) = all_placed (with_place b.key b.run places) batches

-- the keys but for this one
abbrev pub without_place : BatchKey → List (BatchKey × RunId) → List (BatchKey × RunId)
without_place key [] = []
without_place key (place ∷ places) = if key_eq place.0 key then places else place ∷ without_place key places

-- the greatest key with its run
abbrev pub last_place : List (BatchKey × RunId) → Option (BatchKey × RunId)
last_place [] = None
last_place (place ∷ []) = Some place
last_place (place ∷ next ∷ places) = last_place (next ∷ places)
