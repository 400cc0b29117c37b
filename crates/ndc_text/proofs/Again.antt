-- The walk of what was printed gives the batch again.
use Rattle.std.proofs.Common.{◌≡◌, ℕ, zero, suc, ◌^◌, ◌<◌, ◌≤◌, ◌/◌, ◌%◌, List, [], ◌∷◌, Option, Some, None, Ok, Err, map, All, inl, refl, sym, ap, ◌∙◌, arith, leb-true, subst}
use Rattle.std.specs.Prelude.{IsTrue}
use Rattle.std.specs.Int.{w128, to_be_bytes, byte_at, bytes_high_first}
use Rattle.std.proofs.lemmas.Bool.{and_parts}
use Rattle.std.proofs.lemmas.List.Elements.{All-nil, All-cons}
use Rattle.uuid.specs.Text.{lower}
use Rattle.uuid.proofs.RoundTrips.{parses_hyphenated}
use Rattle.uuid.proofs.OrderLemmas.{from_be_bytes-to_be_bytes_16}
use Rattle.serde_json.specs.Data.{object}
use Rattle.serde_json.specs.View.{items_of}
use Rattle.ndc_event.specs.Key.{run_text}
use Rattle.ndc_event.specs.Kind.{kind_name}
use Rattle.ndc_event.specs.declared.batch.Batch.{Batch}
use Rattle.ndc_event.specs.declared.batch.Event.{Event}
use Rattle.ndc_event.specs.declared.key.BatchKey.{BatchKey}
use Rattle.ndc_event.specs.declared.key.Origin.{Origin}
use Rattle.ndc_event.specs.declared.key.RunId.{RunId}
use Rattle.ndc_event.specs.declared.kind.EventKind.{EventKind}
use Rattle.ndc_event.specs.declared.kind.EventKind.TheVariants.{WorkflowExecutionStarted, WorkflowExecutionSignaled, WorkflowExecutionCancelRequested, WorkflowExecutionCompleted, WorkflowExecutionFailed, WorkflowExecutionCanceled, WorkflowExecutionTerminated, WorkflowExecutionContinuedAsNew, DecisionTaskScheduled, DecisionTaskStarted, DecisionTaskCompleted, DecisionTaskFailed, DecisionTaskTimedOut, ActivityTaskScheduled, ActivityTaskStarted, ActivityTaskCompleted, ActivityTaskFailed, ActivityTaskTimedOut, TimerStarted, TimerFired, TimerCanceled, StartChildWorkflowExecutionInitiated, ChildWorkflowExecutionStarted, ChildWorkflowExecutionCompleted, ChildWorkflowExecutionFailed, MarkerRecorded}
use Rattle.ndc_text.specs.Ranges.{is_id, is_version, is_run, KeyFits, OptionKeyFits, OriginFits, KindFits, EventsFit, InRange}
use Rattle.ndc_text.specs.Table.{workflow_tag, decision_tag, activity_tag, timer_tag, child_tag, attribute_keys}
use Rattle.ndc_text.specs.Text.{key_data, origin_data, with_attributes, event_members, event_data, batch_data}
use Rattle.ndc_text.specs.Walk.{shaped, run_in, run_from, key_at, origin_at, kind_at, event_of, event_at, events_at, parts_at, batch_in, batch_at}
use Rattle.ndc_text.specs.declared.error.TextError.TheVariants.{ExtraKey}
use Rattle.ndc_text.specs.declared.form.TextForm.TheVariants.{One, Two}
use Rattle.ndc_text.proofs.Shapes.{data_with}

-- ---- runs

rest_small : (m : ℕ) → m % 256 < 256
rest_small m = omega arith

byte_small : (i n : ℕ) → byte_at i n < 256
byte_small zero n = rest_small n
byte_small (suc i) n = rest_small (n / 256 ^ suc i)

high_small : (k n : ℕ) → All (λ b. b < 256) (bytes_high_first k n)
high_small zero n = All-nil (λ b. b < 256)
high_small (suc k) n = All-cons (λ b. b < 256) (byte_at k n) (bytes_high_first k n) (byte_small k n) (high_small k n)

bytes_small : (n : ℕ) → All (λ b. b < 256) (to_be_bytes w128 n)
bytes_small n = high_small 16 n

run_small : (n : ℕ) → IsTrue (is_run n) → n < 2 ^ 128
run_small n h = let high : n / 2 ^ 64 ≤ 10 ^ 13 = leb-true (n / 2 ^ 64) (10 ^ 13) (and_parts (is_version (n / 2 ^ 64)) (is_id (n % 2 ^ 64)) h).0 in omega arith

run_again : (run : RunId) → IsTrue (is_run run.value) → run_in (run_text run) ≡ Ok run
run_again run h =
    let bytes = to_be_bytes w128 run.value in
    ap run_from (sym (parses_hyphenated lower bytes (inl refl) refl (bytes_small run.value)))
    ∙ rw (from_be_bytes-to_be_bytes_16 run.value (run_small run.value h), h) refl

-- ---- objects inside

key_again : (key : BatchKey) → KeyFits key → key_at (key_data key) ≡ Ok key
unfolding key_at shaped
key_again key h = rw (h.0, h.1) refl

origin_again : (o : Origin) → OriginFits (Some o) → origin_at (origin_data o) ≡ Ok o
unfolding origin_at shaped
origin_again o h = rw (h.0, run_again o.run h.1, h.2) refl

kind_again : (e : Event) (k : EventKind) → IsTrue (is_id e.id) → IsTrue (is_version e.version) → KindFits k → event_at (object (event_members e k)) ≡ Ok (record { id = e.id; version = e.version; kind = k })
unfolding event_of shaped kind_at attribute_keys workflow_tag decision_tag activity_tag timer_tag child_tag kind_name with_attributes
kind_again e (WorkflowExecutionStarted type) i v h = rw (i, v, h) refl
kind_again e (WorkflowExecutionSignaled name input None) i v h = rw (i, v, h.0, h.1) refl
kind_again e (WorkflowExecutionSignaled name input (Some origin)) i v h = rw (i, v, h.0, h.1, origin_again origin h.2) refl
kind_again e WorkflowExecutionCancelRequested i v h = rw (i, v) refl
kind_again e (WorkflowExecutionCompleted result) i v h = rw (i, v, h) refl
kind_again e (WorkflowExecutionFailed reason) i v h = rw (i, v, h) refl
kind_again e WorkflowExecutionCanceled i v h = rw (i, v) refl
kind_again e (WorkflowExecutionTerminated reason) i v h = rw (i, v, h) refl
kind_again e (WorkflowExecutionContinuedAsNew run type) i v h = rw (i, v, run_again run h.0, h.1) refl
kind_again e DecisionTaskScheduled i v h = rw (i, v) refl
kind_again e DecisionTaskStarted i v h = rw (i, v) refl
kind_again e DecisionTaskCompleted i v h = rw (i, v) refl
kind_again e (DecisionTaskFailed cause) i v h = rw (i, v, h) refl
kind_again e DecisionTaskTimedOut i v h = rw (i, v) refl
kind_again e (ActivityTaskScheduled id type) i v h = rw (i, v, h.0, h.1) refl
kind_again e (ActivityTaskStarted id) i v h = rw (i, v, h) refl
kind_again e (ActivityTaskCompleted id result) i v h = rw (i, v, h.0, h.1) refl
kind_again e (ActivityTaskFailed id reason) i v h = rw (i, v, h.0, h.1) refl
kind_again e (ActivityTaskTimedOut id) i v h = rw (i, v, h) refl
kind_again e (TimerStarted id) i v h = rw (i, v, h) refl
kind_again e (TimerFired id) i v h = rw (i, v, h) refl
kind_again e (TimerCanceled id) i v h = rw (i, v, h) refl
kind_again e (StartChildWorkflowExecutionInitiated id type) i v h = rw (i, v, h.0, h.1) refl
kind_again e (ChildWorkflowExecutionStarted id) i v h = rw (i, v, h) refl
kind_again e (ChildWorkflowExecutionCompleted id result) i v h = rw (i, v, h.0, h.1) refl
kind_again e (ChildWorkflowExecutionFailed id reason) i v h = rw (i, v, h.0, h.1) refl
kind_again e (MarkerRecorded name) i v h = rw (i, v, h) refl

events_again : (es : List Event) → EventsFit es → events_at (items_of (map event_data es)) ≡ Ok es
events_again [] h = refl
events_again (e ∷ es) h = rw (kind_again e e.kind h.0.0 h.0.1 h.0.2, events_again es h.1) refl

-- ---- the batch

options_again : (b : Batch) (carrier parent : Option BatchKey) → InRange b → OptionKeyFits carrier → OptionKeyFits parent
    → batch_at Two (data_with b carrier parent) ≡ Ok (record b { carrier = carrier; parent = parent })
unfolding parts_at batch_in shaped
options_again b None None h c p = rw (h.domain, run_again b.run h.run, h.key.0, h.key.1, h.workflow, events_again b.events h.events) refl
options_again b None (Some parent) h c p = rw (h.domain, run_again b.run h.run, h.key.0, h.key.1, h.workflow, key_again parent p, events_again b.events h.events) refl
options_again b (Some carrier) None h c p = rw (h.domain, run_again b.run h.run, h.key.0, h.key.1, h.workflow, key_again carrier c, events_again b.events h.events) refl
options_again b (Some carrier) (Some parent) h c p =
    rw (h.domain, run_again b.run h.run, h.key.0, h.key.1, h.workflow, key_again carrier c, key_again parent p, events_again b.events h.events) refl

-- without a carrier it is the same in text 1
bare_again : (b : Batch) (parent : Option BatchKey) → InRange b → OptionKeyFits parent
    → batch_at One (data_with b None parent) ≡ Ok (record b { carrier = None; parent = parent })
unfolding parts_at batch_in shaped
bare_again b None h p = rw (h.domain, run_again b.run h.run, h.key.0, h.key.1, h.workflow, events_again b.events h.events) refl
bare_again b (Some parent) h p = rw (h.domain, run_again b.run h.run, h.key.0, h.key.1, h.workflow, key_again parent p, events_again b.events h.events) refl

pub batch_again : (b : Batch) → InRange b → batch_at Two (batch_data b) ≡ Ok b
batch_again b h = options_again b b.carrier b.parent h h.carrier h.parent

-- with one it has a key too many there
carried_again : (b : Batch) (carrier : BatchKey) (parent : Option BatchKey) → batch_at One (data_with b (Some carrier) parent) ≡ Err ExtraKey
unfolding parts_at shaped
carried_again b carrier None = refl
carried_again b carrier (Some parent) = refl

pub carried_batch_again : (b : Batch) (carrier : BatchKey) → b.carrier ≡ Some carrier → batch_at One (batch_data b) ≡ Err ExtraKey
carried_batch_again b carrier some = ap (λ c. batch_at One (data_with b c b.parent)) some ∙ carried_again b carrier b.parent

pub bare_batch_again : (b : Batch) → InRange b → b.carrier ≡ None → batch_at One (batch_data b) ≡ Ok b
bare_batch_again b h none =
    subst (λ (c : Option BatchKey). batch_at One (data_with b c b.parent) ≡ Ok (record b { carrier = c })) (sym none) (bare_again b b.parent h h.parent)
