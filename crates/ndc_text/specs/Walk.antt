-- The walk over an object of JSON that may be a batch: each reader answers the first failure on its way.
use Rattle.std.specs.Prelude.{ℕ, Bool, true, false, ◌&&◌, ◌||◌, not, List, [], ◌∷◌, Option, Some, None, is_some, Result, Ok, Err, codes, if◌then◌else◌, option_and_then}
use Rattle.std.specs.List.{list_all, list_any}
use Rattle.std.specs.Str.{bytes_eq}
use Rattle.std.specs.Int.{w128, from_be_bytes}
use Rattle.uuid.specs.Text.{parsed}
use Rattle.serde_json.specs.Data.{Data, null, object, Items, no_items, item, Members, no_members, member}
use Rattle.serde_json.specs.Find.{get, as_u64, as_number, as_str, as_array, as_object}
use Rattle.ndc_event.specs.Name.{is_name}
use Rattle.ndc_event.specs.Outcome.{◌>>=◌}
use Rattle.ndc_event.specs.declared.batch.Batch.{Batch}
use Rattle.ndc_event.specs.declared.batch.Event.{Event}
use Rattle.ndc_event.specs.declared.key.BatchKey.{BatchKey}
use Rattle.ndc_event.specs.declared.key.Origin.{Origin}
use Rattle.ndc_event.specs.declared.key.RunId.{RunId}
use Rattle.ndc_event.specs.declared.kind.EventKind.{EventKind}
use Rattle.ndc_event.specs.declared.kind.EventKind.TheVariants as kind
use Rattle.ndc_text.specs.Ranges.{is_id, is_version, is_run}
use Rattle.ndc_text.specs.Table.{tag_of, attribute_keys, optional_keys}
use Rattle.ndc_text.specs.declared.error.TextError.{TextError}
use Rattle.ndc_text.specs.declared.error.TextError.TheVariants.{MissingKey, WrongKind, ExtraKey, Range}
use Rattle.ndc_text.specs.declared.form.TextForm.{TextForm}
use Rattle.ndc_text.specs.declared.form.TextForm.TheVariants.{One, Two}
use Rattle.ndc_text.specs.declared.tag.KindTag.{KindTag}
use Rattle.ndc_text.specs.declared.tag.KindTag.TheVariants.{WorkflowExecutionStarted, WorkflowExecutionSignaled, WorkflowExecutionCancelRequested, WorkflowExecutionCompleted, WorkflowExecutionFailed, WorkflowExecutionCanceled, WorkflowExecutionTerminated, WorkflowExecutionContinuedAsNew, DecisionTaskScheduled, DecisionTaskStarted, DecisionTaskCompleted, DecisionTaskFailed, DecisionTaskTimedOut, ActivityTaskScheduled, ActivityTaskStarted, ActivityTaskCompleted, ActivityTaskFailed, ActivityTaskTimedOut, TimerStarted, TimerFired, TimerCanceled, StartChildWorkflowExecutionInitiated, ChildWorkflowExecutionStarted, ChildWorkflowExecutionCompleted, ChildWorkflowExecutionFailed, MarkerRecorded}

-- ---- an object as a whole

-- the object has each of these keys
abbrev pub has_all : List (List ℕ) → Data → Bool
has_all keys d = list_all (λ key. is_some (get key d)) keys

-- the key is one of these
abbrev pub is_among : List (List ℕ) → List ℕ → Bool
is_among keys key = list_any (λ k. bytes_eq k key) keys

-- each key passes
abbrev pub all_keys : (List ℕ → Bool) → Members → Bool
all_keys p no_members = true
all_keys p (member key d ms) = p key && all_keys p ms

-- each key of an object passes
abbrev pub keys_pass : (List ℕ → Bool) → Option Members → Bool
keys_pass p None = true
keys_pass p (Some ms) = all_keys p ms

-- what is there, or else the error
abbrev pub wanted : {A : Type 0} → TextError → Option A → Result A TextError
wanted e None = Err e
wanted e (Some x) = Ok x

-- an object that has the keys of the first two lists, and none that is in none of the three
unfoldable pub shaped : List (List ℕ) → List (List ℕ) → List (List ℕ) → Data → Result (Unit {0}) TextError
shaped own more optional d =
    if not (is_some (as_object d)) then Err WrongKind
    else if not (has_all own d && has_all more d) then Err MissingKey
    else if not (keys_pass (λ key. is_among own key || is_among more key || is_among optional key) (as_object d)) then Err ExtraKey
    else Ok tt

-- ---- the kind of a member

-- the whole number from 0 to 2^64 - 1 that stands at the key
abbrev pub number_at : List ℕ → Data → Result ℕ TextError
number_at key d = wanted WrongKind (option_and_then as_u64 (option_and_then as_number (get key d)))

-- the text at the key
abbrev pub text_at : List ℕ → Data → Result (List ℕ) TextError
text_at key d = wanted WrongKind (option_and_then as_str (get key d))

-- the items of the array at the key
abbrev pub items_at : List ℕ → Data → Result Items TextError
items_at key d = wanted WrongKind (option_and_then as_array (get key d))

-- an object
abbrev pub object_in : Data → Result Data TextError
object_in (object ms) = Ok (object ms)
object_in _ = Err WrongKind

-- null, or an object
abbrev pub object_or_null_in : Data → Result (Option Data) TextError
object_or_null_in null = Ok None
object_or_null_in (object ms) = Ok (Some (object ms))
object_or_null_in _ = Err WrongKind

-- null, or an object, where something stands
abbrev pub nullable_from : Option Data → Result (Option Data) TextError
nullable_from None = Err WrongKind
nullable_from (Some d) = object_or_null_in d

-- the object at the key, or None where null stands there
abbrev pub nullable_at : List ℕ → Data → Result (Option Data) TextError
nullable_at key d = nullable_from (get key d)

-- an object, where something stands
abbrev pub optional_from : Option Data → Result (Option Data) TextError
optional_from None = Ok None
optional_from (Some d) = do
  o ← object_in d
  Ok (Some o)

-- the object at the key, or None where the key is missing
abbrev pub optional_at : List ℕ → Data → Result (Option Data) TextError
optional_at key d = optional_from (get key d)

-- each of the keys has a text
abbrev pub have_texts : List (List ℕ) → Data → Bool
have_texts keys d = list_all (λ key. is_some (option_and_then as_str (get key d))) keys

-- the same, as a test of the walk
abbrev pub texts_at : List (List ℕ) → Data → Result (Unit {0}) TextError
texts_at keys d = if have_texts keys d then Ok tt else Err WrongKind

-- ---- the range of a member

-- the value, where the test holds
abbrev pub in_range : {A : Type 0} → Bool → A → Result A TextError
in_range true x = Ok x
in_range false x = Err Range

-- an event id or a task
abbrev pub id_in : ℕ → Result ℕ TextError
id_in n = in_range (is_id n) n

-- a version
abbrev pub version_in : ℕ → Result ℕ TextError
version_in n = in_range (is_version n) n

-- a name
abbrev pub name_in : List ℕ → Result (List ℕ) TextError
name_in bytes = in_range (is_name bytes) bytes

-- the run of this number
abbrev pub run_at : ℕ → Result RunId TextError
run_at n = in_range (is_run n) (record { value = n })

-- the run that a parsed text is
abbrev pub run_from : Option (List ℕ) → Result RunId TextError
run_from None = Err Range
run_from (Some bytes) = run_at (from_be_bytes w128 bytes)

-- the run that the text is
abbrev pub run_in : List ℕ → Result RunId TextError
run_in text = run_from (parsed text)

-- the name at the key
abbrev pub name_at : List ℕ → Data → Result (List ℕ) TextError
name_at key d = do
  text ← text_at key d
  name_in text

-- the run at the key
abbrev pub run_text_at : List ℕ → Data → Result RunId TextError
run_text_at key d = do
  text ← text_at key d
  run_in text

-- ---- the objects

-- a carrier or a parent
unfoldable pub key_at : Data → Result BatchKey TextError
key_at d = do
  _ ← shaped (codes "task" ∷ codes "version" ∷ []) [] [] d
  task ← number_at (codes "task") d
  version ← number_at (codes "version") d
  task ← id_in task
  version ← version_in version
  Ok (record { version = version; task = task })

-- one, where it is there
abbrev pub key_from : Option Data → Result (Option BatchKey) TextError
key_from None = Ok None
key_from (Some d) = do
  key ← key_at d
  Ok (Some key)

-- an origin
unfoldable pub origin_at : Data → Result Origin TextError
origin_at d = do
  _ ← shaped (codes "event" ∷ codes "run" ∷ codes "version" ∷ []) [] [] d
  event ← number_at (codes "event") d
  run ← text_at (codes "run") d
  version ← number_at (codes "version") d
  event ← id_in event
  run ← run_in run
  version ← version_in version
  Ok (record { run = run; event = event; version = version })

-- one, where it is there
abbrev pub origin_from : Option Data → Result (Option Origin) TextError
origin_from None = Ok None
origin_from (Some d) = do
  origin ← origin_at d
  Ok (Some origin)

-- the attributes of a kind: their ranges, and then the origin as an object of its own
unfoldable pub kind_at : KindTag → Option Data → Data → Result EventKind TextError
kind_at WorkflowExecutionStarted origin d = do
  type ← name_at (codes "workflowType") d
  Ok (kind.WorkflowExecutionStarted type)
kind_at WorkflowExecutionSignaled origin d = do
  name ← name_at (codes "signalName") d
  input ← name_at (codes "input") d
  origin ← origin_from origin
  Ok (kind.WorkflowExecutionSignaled name input origin)
kind_at WorkflowExecutionCancelRequested origin d = Ok kind.WorkflowExecutionCancelRequested
kind_at WorkflowExecutionCompleted origin d = do
  result ← name_at (codes "result") d
  Ok (kind.WorkflowExecutionCompleted result)
kind_at WorkflowExecutionFailed origin d = do
  reason ← name_at (codes "reason") d
  Ok (kind.WorkflowExecutionFailed reason)
kind_at WorkflowExecutionCanceled origin d = Ok kind.WorkflowExecutionCanceled
kind_at WorkflowExecutionTerminated origin d = do
  reason ← name_at (codes "reason") d
  Ok (kind.WorkflowExecutionTerminated reason)
kind_at WorkflowExecutionContinuedAsNew origin d = do
  run ← run_text_at (codes "newExecutionRunId") d
  type ← name_at (codes "workflowType") d
  Ok (kind.WorkflowExecutionContinuedAsNew run type)
kind_at DecisionTaskScheduled origin d = Ok kind.DecisionTaskScheduled
kind_at DecisionTaskStarted origin d = Ok kind.DecisionTaskStarted
kind_at DecisionTaskCompleted origin d = Ok kind.DecisionTaskCompleted
kind_at DecisionTaskFailed origin d = do
  cause ← name_at (codes "cause") d
  Ok (kind.DecisionTaskFailed cause)
kind_at DecisionTaskTimedOut origin d = Ok kind.DecisionTaskTimedOut
kind_at ActivityTaskScheduled origin d = do
  id ← name_at (codes "activityId") d
  type ← name_at (codes "activityType") d
  Ok (kind.ActivityTaskScheduled id type)
kind_at ActivityTaskStarted origin d = do
  id ← name_at (codes "activityId") d
  Ok (kind.ActivityTaskStarted id)
kind_at ActivityTaskCompleted origin d = do
  id ← name_at (codes "activityId") d
  result ← name_at (codes "result") d
  Ok (kind.ActivityTaskCompleted id result)
kind_at ActivityTaskFailed origin d = do
  id ← name_at (codes "activityId") d
  reason ← name_at (codes "reason") d
  Ok (kind.ActivityTaskFailed id reason)
kind_at ActivityTaskTimedOut origin d = do
  id ← name_at (codes "activityId") d
  Ok (kind.ActivityTaskTimedOut id)
kind_at TimerStarted origin d = do
  id ← name_at (codes "timerId") d
  Ok (kind.TimerStarted id)
kind_at TimerFired origin d = do
  id ← name_at (codes "timerId") d
  Ok (kind.TimerFired id)
kind_at TimerCanceled origin d = do
  id ← name_at (codes "timerId") d
  Ok (kind.TimerCanceled id)
kind_at StartChildWorkflowExecutionInitiated origin d = do
  id ← name_at (codes "workflowId") d
  type ← name_at (codes "workflowType") d
  Ok (kind.StartChildWorkflowExecutionInitiated id type)
kind_at ChildWorkflowExecutionStarted origin d = do
  id ← name_at (codes "workflowId") d
  Ok (kind.ChildWorkflowExecutionStarted id)
kind_at ChildWorkflowExecutionCompleted origin d = do
  id ← name_at (codes "workflowId") d
  result ← name_at (codes "result") d
  Ok (kind.ChildWorkflowExecutionCompleted id result)
kind_at ChildWorkflowExecutionFailed origin d = do
  id ← name_at (codes "workflowId") d
  reason ← name_at (codes "reason") d
  Ok (kind.ChildWorkflowExecutionFailed id reason)
kind_at MarkerRecorded origin d = do
  name ← name_at (codes "markerName") d
  Ok (kind.MarkerRecorded name)

-- the kind that the text names
abbrev pub tag_in : List ℕ → Result KindTag TextError
tag_in text = wanted Range (tag_of text)

-- the kind of an event: it is tested before all else in the object
abbrev pub tag_at : Data → Result KindTag TextError
tag_at d = do
  _ ← object_in d
  type ← wanted MissingKey (get (codes "eventType") d)
  text ← wanted WrongKind (as_str type)
  tag_in text

-- the keys that each event has
abbrev pub event_keys : List (List ℕ)
event_keys = codes "eventId" ∷ codes "eventType" ∷ codes "version" ∷ []

-- an event whose kind is known
unfoldable pub event_of : KindTag → Data → Result Event TextError
event_of tag d = do
  _ ← shaped event_keys (attribute_keys tag) (optional_keys tag) d
  id ← number_at (codes "eventId") d
  version ← number_at (codes "version") d
  _ ← texts_at (attribute_keys tag) d
  origin ← optional_at (codes "origin") d
  id ← id_in id
  version ← version_in version
  kind ← kind_at tag origin d
  Ok (record { id = id; version = version; kind = kind })

-- an event
abbrev pub event_at : Data → Result Event TextError
event_at d = do
  tag ← tag_at d
  event_of tag d

-- the events, in order
abbrev pub events_at : Items → Result (List Event) TextError
events_at no_items = Ok []
events_at (item d ds) = do
  e ← event_at d
  es ← events_at ds
  Ok (e ∷ es)

-- ---- the batch object

-- the members of a batch, each of the right kind
pub record Parts : Type 0 where
  pub carrier : Option Data
  pub domain : List ℕ
  pub events : Items
  pub parent : Option Data
  pub run : List ℕ
  pub task : ℕ
  pub version : ℕ
  pub workflow : List ℕ

-- the keys that each batch has
abbrev pub batch_keys : List (List ℕ)
batch_keys = codes "domain" ∷ codes "events" ∷ codes "parent" ∷ codes "run" ∷ codes "task" ∷ codes "version" ∷ codes "workflow" ∷ []

-- the key that may be missing: text 1 knows no carrier
abbrev pub carrier_keys : TextForm → List (List ℕ)
carrier_keys One = []
carrier_keys Two = codes "carrier" ∷ []

-- the carrier object
abbrev pub carrier_at : TextForm → Data → Result (Option Data) TextError
carrier_at One d = Ok None
carrier_at Two d = optional_at (codes "carrier") d

-- the tests of the batch object up to the kinds of its members
unfoldable pub parts_at : TextForm → Data → Result Parts TextError
parts_at form d = do
  _ ← shaped batch_keys [] (carrier_keys form) d
  carrier ← carrier_at form d
  domain ← text_at (codes "domain") d
  events ← items_at (codes "events") d
  parent ← nullable_at (codes "parent") d
  run ← text_at (codes "run") d
  task ← number_at (codes "task") d
  version ← number_at (codes "version") d
  workflow ← text_at (codes "workflow") d
  Ok (record { carrier = carrier; domain = domain; events = events; parent = parent; run = run; task = task; version = version; workflow = workflow })

-- the ranges of its members, and then the objects inside, in order
unfoldable pub batch_in : Parts → Result Batch TextError
batch_in p = do
  domain ← name_in p.domain
  run ← run_in p.run
  task ← id_in p.task
  version ← version_in p.version
  workflow ← name_in p.workflow
  carrier ← key_from p.carrier
  parent ← key_from p.parent
  events ← events_at p.events
  Ok (record { domain = domain; workflow = workflow; run = run; key = record { version = version; task = task }; parent = parent; carrier = carrier; events = events })

-- a batch
abbrev pub batch_at : TextForm → Data → Result Batch TextError
batch_at form d = do
  parts ← parts_at form d
  batch_in parts
