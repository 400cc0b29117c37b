-- What became of each signal.
use Rattle.std.specs.Prelude.{ℕ, suc, Bool, List, [], ◌∷◌, ◌++◌, codes, is_none, is_some, Option, Some, None, if◌then◌else◌}
use Rattle.std.specs.List.{concat}
use Rattle.std.specs.Map.{lookup}
use Rattle.indexmap.specs.IndexMap.{insert_entry}
use Rattle.ndc_domain.specs.Clusters.{ClusterList}
use Rattle.ndc_event.specs.Key.{run_text}
use Rattle.ndc_event.specs.declared.batch.Batch.{Batch}
use Rattle.ndc_event.specs.declared.batch.Event.{Event}
use Rattle.ndc_event.specs.declared.key.BatchKey.{BatchKey}
use Rattle.ndc_event.specs.declared.key.Origin.{Origin}
use Rattle.ndc_event.specs.declared.kind.EventKind.{EventKind}
use Rattle.ndc_event.specs.declared.kind.EventKind.TheVariants.{WorkflowExecutionSignaled}
use Rattle.ndc_event.specs.declared.name.Name.{Name}
use Rattle.ndc_history.specs.declared.item.Item.{Item}
use Rattle.ndc_reapply.specs.declared.stray.Stray.{Stray}
use Rattle.ndc_state.specs.Origins.{origin_of, same_origin}
use Rattle.ndc_text.specs.Views.{item_text, key_text}
use Rattle.ndc_dump_causes.specs.Keys.{is_listed}
use Rattle.ndc_explain.specs.declared.settlers.Settler.{Settler}
use Rattle.ndc_explain.specs.Pieces.{by_text}
use Rattle.ndc_explain.specs.Writers.{writer_name}

-- the settled origins, each with the last batch that settles it
abbrev pub Settlers : Type 0
Settlers = List (Origin × Settler)

-- with an event of a batch: a signal settles its origin
abbrev pub with_kind : Batch → ℕ → ℕ → EventKind → Settlers → Settlers
with_kind b id version (WorkflowExecutionSignaled name input from) known =
    insert_entry same_origin known (origin_of b.run id version from) (record { key = b.key; is_copy = is_some from })
with_kind b id version _ known = known

-- with these events of a batch
abbrev pub with_events : Batch → List Event → Settlers → Settlers
with_events b [] known = known
with_events b (event ∷ events) known = with_events b events (with_kind b event.id event.version event.kind known)

-- with the events of those of the batches whose keys are listed
abbrev pub with_listed : List BatchKey → List Batch → Settlers → Settlers
with_listed keys [] known = known
with_listed keys (b ∷ batches) known = with_listed keys batches (if is_listed b.key keys then with_events b b.events known else known)

-- what settles a signal
abbrev pub settler_of : Settlers → Stray → Option Settler
settler_of known signal = lookup (same_origin signal.origin) known

-- how many of the signals nothing settles
abbrev pub waiting_count : Settlers → List Stray → ℕ
waiting_count known [] = 0
waiting_count known (signal ∷ signals) = if is_none (settler_of known signal) then suc (waiting_count known signals) else waiting_count known signals

-- the event that an origin names
abbrev pub item_named : Origin → Item
item_named origin = record { id = origin.event; version = origin.version }

-- what a signal says, and the event that it comes from
abbrev pub said_text : Stray → List ℕ
said_text signal =
    concat (codes "signal " ∷ signal.name ∷ codes " " ∷ signal.input ∷ codes " of event " ∷ item_text (item_named signal.origin) ∷ codes " of run " ∷ [])

-- the beginning of a signal's line
abbrev pub signal_head : Stray → List ℕ
signal_head signal = said_text signal ++ run_text signal.origin.run

-- how it is said that a signal is settled
abbrev pub settled_words : Bool → List ℕ
settled_words is_copy = if is_copy then codes " was copied in batch " else codes " stands on a current branch in batch "

abbrev pub settled_text : Option ClusterList → Settler → List ℕ
settled_text clusters settler =
    concat (settled_words settler.is_copy ∷ key_text settler.key ∷ by_text (writer_name clusters settler.key.version) ∷ codes "\n" ∷ [])

-- how it is said what a signal waits for
abbrev pub waiting_text : Name → Bool → List ℕ
waiting_text workflow is_open =
    if is_open then concat (codes " waits: it is applied again when the writer of " ∷ workflow ∷ codes " works\n" ∷ [])
    else concat (codes " waits: the current run is closed; it is applied again when " ∷ workflow ∷ codes " is started again and its writer works\n" ∷ [])

-- what became of a signal
abbrev pub fate_text : Option ClusterList → Name → Bool → Option Settler → List ℕ
fate_text clusters workflow is_open None = waiting_text workflow is_open
fate_text clusters workflow is_open (Some settler) = settled_text clusters settler

-- the line of a signal
abbrev pub signal_line : Option ClusterList → Name → Bool → Settlers → Stray → List ℕ
signal_line clusters workflow is_open known signal = signal_head signal ++ fate_text clusters workflow is_open (settler_of known signal)
