-- The places where blocks are drawn.
use Rattle.std.specs.Prelude.{ℕ, List, [], ◌∷◌, Option, Some, None}
use Rattle.std.specs.Map.{lookup}
use Rattle.indexmap.specs.IndexMap.{insert_entry}
use Rattle.ndc_event.specs.Key.{key_eq}
use Rattle.ndc_event.specs.declared.batch.Batch.{Batch}
use Rattle.ndc_event.specs.declared.batch.Event.{Event}
use Rattle.ndc_event.specs.declared.key.BatchKey.{BatchKey}
use Rattle.ndc_event.specs.declared.key.Origin.{Origin}
use Rattle.ndc_event.specs.declared.key.RunId.{RunId}
use Rattle.ndc_event.specs.declared.kind.EventKind.{EventKind}
use Rattle.ndc_event.specs.declared.kind.EventKind.TheVariants.{WorkflowExecutionSignaled}
use Rattle.ndc_state.specs.Origins.{origin_of, same_origin}
use Rattle.ndc_explain_picture.specs.declared.places.Place.{Place}

-- the place of the block of each batch, and of the block where each signal was first written
pub record Placed : Type 0 where
  pub keys : List (BatchKey × Place)
  pub signals : List (Origin × Place)

abbrev pub nothing_placed : Placed
nothing_placed = record { keys = []; signals = [] }

-- a signal that is not a copy is at home in this place
abbrev pub with_own : Place → Origin → Option Origin → Placed → Placed
with_own place origin None places = record { keys = places.keys; signals = insert_entry same_origin places.signals origin place }
with_own place origin (Some from) places = places

-- with an event of a run at this place
abbrev pub with_kind : Place → RunId → ℕ → ℕ → EventKind → Placed → Placed
with_kind place run id version (WorkflowExecutionSignaled name input from) places = with_own place (origin_of run id version None) from places
with_kind place run id version _ places = places

abbrev pub with_events : Place → RunId → List Event → Placed → Placed
with_events place run [] places = places
with_events place run (event ∷ events) places = with_events place run events (with_kind place run event.id event.version event.kind places)

-- with a batch at this place
abbrev pub with_key : Place → BatchKey → Placed → Placed
with_key place key places = record { keys = insert_entry key_eq places.keys key place; signals = places.signals }

abbrev pub with_batches : Place → List Batch → Placed → Placed
with_batches place [] places = places
with_batches place (b ∷ batches) places = with_batches place batches (with_events place b.run b.events (with_key place b.key places))

-- the place of the block of a batch, where there is one
abbrev pub place_at : Option BatchKey → Placed → Option Place
place_at None places = None
place_at (Some key) places = lookup (key_eq key) places.keys

-- the place where a signal was first written
abbrev pub home_of : Origin → Placed → Option Place
home_of origin places = lookup (same_origin origin) places.signals

-- where a place ends, 0 where there is none
abbrev pub bottom_of : Option Place → ℕ
bottom_of None = 0
bottom_of (Some place) = place.bottom
