-- The table of events: what each kind needs, and what it does to a state.
use Rattle.std.specs.Prelude.{ℕ, ◌+◌, Bool, true, false, not, ◌||◌, ◌&&◌, ◌==◌, is_some, is_none, [], ◌∷◌, ◌++◌, Option, Some, None, Result, Ok, Err, if◌then◌else◌}
use Rattle.ndc_event.specs.declared.batch.Event.{Event}
use Rattle.ndc_event.specs.declared.kind.EventKind.{EventKind}
use Rattle.ndc_event.specs.declared.kind.EventKind.TheVariants.{WorkflowExecutionStarted, WorkflowExecutionSignaled, WorkflowExecutionCancelRequested, WorkflowExecutionCompleted, WorkflowExecutionFailed, WorkflowExecutionCanceled, WorkflowExecutionTerminated, WorkflowExecutionContinuedAsNew, DecisionTaskScheduled, DecisionTaskStarted, DecisionTaskCompleted, DecisionTaskFailed, DecisionTaskTimedOut, ActivityTaskScheduled, ActivityTaskStarted, ActivityTaskCompleted, ActivityTaskFailed, ActivityTaskTimedOut, TimerStarted, TimerFired, TimerCanceled, StartChildWorkflowExecutionInitiated, ChildWorkflowExecutionStarted, ChildWorkflowExecutionCompleted, ChildWorkflowExecutionFailed, MarkerRecorded}
use Rattle.ndc_state.specs.declared.pendings.Pending.{Pending}
use Rattle.ndc_state.specs.declared.rule.CloseKind.{CloseKind}
use Rattle.ndc_state.specs.declared.rule.CloseKind.TheVariants.{Completed, Failed, Canceled, Terminated, Continued}
use Rattle.ndc_state.specs.declared.rule.Rule.{Rule}
use Rattle.ndc_state.specs.declared.rule.Rule.TheVariants.{Next, Start, Running, Decision, Task, Activity, Timer, Child, Origin}
use Rattle.ndc_state.specs.declared.rule.StateError.{StateError}
use Rattle.ndc_state.specs.declared.rule.StateError.TheVariants.{Invalid}
use Rattle.ndc_state.specs.Origins.{is_among, origin_of}
use Rattle.ndc_state.specs.Pendings.{pending_of, is_waiting, is_started, scheduled_by, started_by, with_scheduled, with_started, without}
use Rattle.ndc_state.specs.Value.{StateValue}

-- a row of the table
pub record Row : Type 0 where
  -- whether the kind needs that no decision is pending
  pub alone : Bool
  -- the rule of the kind's own, where it forbids the event
  pub own : Option Rule
  -- the state after the event, but for the next id and the version
  pub effect : StateValue

-- whether the kind needs that no decision is pending: marked, or not
abbrev pub D : Bool
D = true

abbrev pub any : Bool
any = false

-- the rule where its test fails
abbrev pub needs : Bool → Rule → Option Rule
needs test rule = if test then None else Some rule

abbrev pub row_of : Bool → Option Rule → StateValue → Row
row_of alone own effect = record { alone = alone; own = own; effect = effect }

-- a closed run
abbrev pub closed : CloseKind → StateValue → StateValue
closed kind s = record s { running = false; close = Some kind }

-- a decision that is started, where one is pending
abbrev pub decision_started : ℕ → Option Pending → Option Pending
decision_started id None = None
decision_started id (Some pending) = Some (started_by id pending)

-- the table: the row of an event with this id and version, of this kind, at a state
unfoldable pub row : StateValue → ℕ → ℕ → EventKind → Row
row s id v (WorkflowExecutionStarted _) = row_of any None (record s { running = true })
row s id v (WorkflowExecutionSignaled _ _ from) = row_of any (needs (not (is_among (origin_of s.run id v from) s.origins)) Origin) (record s { origins = s.origins ++ origin_of s.run id v from ∷ [] })
row s id v WorkflowExecutionCancelRequested = row_of any None (record s { cancel = true })
row s id v (WorkflowExecutionCompleted _) = row_of D None (closed Completed s)
row s id v (WorkflowExecutionFailed _) = row_of D None (closed Failed s)
row s id v WorkflowExecutionCanceled = row_of D None (closed Canceled s)
row s id v (WorkflowExecutionTerminated _) = row_of any None (closed Terminated s)
row s id v (WorkflowExecutionContinuedAsNew _ _) = row_of D None (closed Continued s)
row s id v DecisionTaskScheduled = row_of D None (record s { decision = Some (scheduled_by id) })
row s id v DecisionTaskStarted = row_of any (needs (is_waiting s.decision) Task) (record s { decision = decision_started id s.decision })
row s id v DecisionTaskCompleted = row_of any (needs (is_started s.decision) Task) (record s { decision = None })
row s id v (DecisionTaskFailed _) = row_of any (needs (is_started s.decision) Task) (record s { decision = None })
row s id v DecisionTaskTimedOut = row_of any (needs (is_started s.decision) Task) (record s { decision = None })
row s id v (ActivityTaskScheduled a _) = row_of D (needs (is_none (pending_of a s.activities)) Activity) (record s { activities = with_scheduled a id s.activities })
row s id v (ActivityTaskStarted a) = row_of any (needs (is_waiting (pending_of a s.activities)) Activity) (record s { activities = with_started a id s.activities })
row s id v (ActivityTaskCompleted a _) = row_of any (needs (is_started (pending_of a s.activities)) Activity) (record s { activities = without a s.activities })
row s id v (ActivityTaskFailed a _) = row_of any (needs (is_started (pending_of a s.activities)) Activity) (record s { activities = without a s.activities })
row s id v (ActivityTaskTimedOut a) = row_of any (needs (is_some (pending_of a s.activities)) Activity) (record s { activities = without a s.activities })
row s id v (TimerStarted t) = row_of D (needs (is_none (pending_of t s.timers)) Timer) (record s { timers = with_scheduled t id s.timers })
row s id v (TimerFired t) = row_of any (needs (is_some (pending_of t s.timers)) Timer) (record s { timers = without t s.timers })
row s id v (TimerCanceled t) = row_of D (needs (is_some (pending_of t s.timers)) Timer) (record s { timers = without t s.timers })
row s id v (StartChildWorkflowExecutionInitiated c _) = row_of D (needs (is_none (pending_of c s.children)) Child) (record s { children = with_scheduled c id s.children })
row s id v (ChildWorkflowExecutionStarted c) = row_of any (needs (is_waiting (pending_of c s.children)) Child) (record s { children = with_started c id s.children })
row s id v (ChildWorkflowExecutionCompleted c _) = row_of any (needs (is_started (pending_of c s.children)) Child) (record s { children = without c s.children })
row s id v (ChildWorkflowExecutionFailed c _) = row_of any (needs (is_started (pending_of c s.children)) Child) (record s { children = without c s.children })
row s id v (MarkerRecorded _) = row_of D None s

-- whether the kind is the start of a run
abbrev pub is_start : EventKind → Bool
is_start (WorkflowExecutionStarted _) = true
is_start _ = false

-- the start is event 1, and no other kind is
abbrev pub is_start_fit : Event → Bool
is_start_fit event = if is_start event.kind then event.id == 1 else not (event.id == 1)

-- the row of an event at a state
abbrev pub row_at : StateValue → Event → Row
row_at s event = row s event.id event.version event.kind

-- the first rule that forbids the event, in the order of the tests
abbrev pub rule_of : StateValue → Event → Option Rule
rule_of s event =
    if not (event.id == s.next) then Some Next
    else if not (is_start_fit event) then Some Start
    else if not (is_start event.kind || s.running) then Some Running
    else if (row_at s event).alone && is_some s.decision then Some Decision
    else (row_at s event).own

-- the state after an event that no rule forbids
abbrev pub after : StateValue → Event → StateValue
after s event = record ((row_at s event).effect) { next = event.id + 1; version = event.version }

-- the state after an event, unless the rule forbids it
abbrev pub applied_under : Option Rule → StateValue → Event → Result StateValue StateError
applied_under None s event = Ok (after s event)
applied_under (Some rule) s event = Err (Invalid event.id rule)

-- an event, applied: the state after it, or the first rule that forbids it
abbrev pub applied : StateValue → Event → Result StateValue StateError
applied s event = applied_under (rule_of s event) s event
