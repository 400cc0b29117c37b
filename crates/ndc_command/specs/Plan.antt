-- The table of commands: what each writes below a tip, and what forbids it.
use Rattle.std.specs.Prelude.{ℕ, ◌+◌, ◌-◌, Bool, false, not, nat_lt, List, [], ◌∷◌, length, Option, None, Some, Result, Ok, Err}
use Rattle.ndc_event.specs.declared.key.RunId.{RunId}
use Rattle.ndc_event.specs.declared.kind.EventKind.{EventKind}
use Rattle.ndc_event.specs.declared.kind.EventKind.TheVariants as kind
use Rattle.ndc_event.specs.declared.name.Name.{Name}
use Rattle.ndc_event.specs.Outcome.{◌>>=◌}
use Rattle.ndc_state.specs.Pendings.{pending_of}
use Rattle.ndc_state.specs.Value.{StateValue}
use Rattle.ndc_state.specs.Written.{failover_close, wake}
use Rattle.ndc_command.specs.declared.command.Command.{Command}
use Rattle.ndc_command.specs.declared.command.Command.TheVariants.{Start, Signal, Cancel, Terminate, Decide, Respond, FailDecision, TimeoutDecision, ActivityStart, ActivityDone, ActivityFail, ActivityTimeout, Fire, ChildStart, ChildDone, ChildFail}
use Rattle.ndc_command.specs.declared.refusal.CommandError.{CommandError}
use Rattle.ndc_command.specs.declared.refusal.CommandError.TheVariants.{Refused}
use Rattle.ndc_command.specs.declared.refusal.Refusal.TheVariants.{NoWorkflow, AlreadyRunning, Closed, NoDecision, DecisionNotStarted, DecisionStarted, NoSuchActivity, ActivityNotStarted, ActivityStarted, NoSuchTimer, NoSuchChild, ChildNotStarted, ChildStarted, HistoryFull}
use Rattle.ndc_command.specs.Actions.{after_kind, after_kinds, behind, actions_written}
use Rattle.ndc_command.specs.Stage.{stage_of, refuse, needs_pending, needs_waiting, needs_started, ◌>>◌}

-- the state at which a command of this version is judged: the failover close, where it is due, is written
unfoldable pub judged_at : StateValue → ℕ → StateValue
judged_at s version = after_kinds version s (failover_close s version)

-- what a run begins with
abbrev pub beginning : Name → List EventKind
beginning workflow_type = kind.WorkflowExecutionStarted workflow_type ∷ kind.DecisionTaskScheduled ∷ []

-- an event, and after it the scheduling of a decision where none is pending there
abbrev pub woken : ℕ → StateValue → EventKind → List EventKind
woken version s kind = kind ∷ wake (after_kind version s kind)

-- the table of commands: the events that each writes below a state, or the first refusal
unfoldable pub written : ℕ → RunId → StateValue → Command → Result (List EventKind) CommandError
written v next_run s (Start workflow_type) = Ok (beginning workflow_type)
written v next_run s (Signal name input) = Ok (woken v s (kind.WorkflowExecutionSignaled name input None))
written v next_run s Cancel = Ok (woken v s kind.WorkflowExecutionCancelRequested)
written v next_run s (Terminate reason) = Ok (kind.WorkflowExecutionTerminated reason ∷ [])
written v next_run s Decide = needs_waiting (stage_of s.decision) NoDecision DecisionStarted >> Ok (kind.DecisionTaskStarted ∷ [])
written v next_run s (Respond actions) =
    needs_started (stage_of s.decision) NoDecision DecisionNotStarted
    >> behind (kind.DecisionTaskCompleted ∷ []) (actions_written v next_run (after_kind v s kind.DecisionTaskCompleted) actions)
written v next_run s (FailDecision cause) = needs_started (stage_of s.decision) NoDecision DecisionNotStarted >> Ok (kind.DecisionTaskFailed cause ∷ kind.DecisionTaskScheduled ∷ [])
written v next_run s TimeoutDecision = needs_started (stage_of s.decision) NoDecision DecisionNotStarted >> Ok (kind.DecisionTaskTimedOut ∷ kind.DecisionTaskScheduled ∷ [])
written v next_run s (ActivityStart id) = needs_waiting (stage_of (pending_of id s.activities)) NoSuchActivity ActivityStarted >> Ok (kind.ActivityTaskStarted id ∷ [])
written v next_run s (ActivityDone id result) = needs_started (stage_of (pending_of id s.activities)) NoSuchActivity ActivityNotStarted >> Ok (woken v s (kind.ActivityTaskCompleted id result))
written v next_run s (ActivityFail id reason) = needs_started (stage_of (pending_of id s.activities)) NoSuchActivity ActivityNotStarted >> Ok (woken v s (kind.ActivityTaskFailed id reason))
written v next_run s (ActivityTimeout id) = needs_pending (stage_of (pending_of id s.activities)) NoSuchActivity >> Ok (woken v s (kind.ActivityTaskTimedOut id))
written v next_run s (Fire id) = needs_pending (stage_of (pending_of id s.timers)) NoSuchTimer >> Ok (woken v s (kind.TimerFired id))
written v next_run s (ChildStart id) = needs_waiting (stage_of (pending_of id s.children)) NoSuchChild ChildStarted >> Ok (woken v s (kind.ChildWorkflowExecutionStarted id))
written v next_run s (ChildDone id result) = needs_started (stage_of (pending_of id s.children)) NoSuchChild ChildNotStarted >> Ok (woken v s (kind.ChildWorkflowExecutionCompleted id result))
written v next_run s (ChildFail id reason) = needs_started (stage_of (pending_of id s.children)) NoSuchChild ChildNotStarted >> Ok (woken v s (kind.ChildWorkflowExecutionFailed id reason))

-- the kinds, where a history with this last id and them after it keeps within the limit
unfoldable pub within : ℕ → ℕ → List EventKind → Result (List EventKind) CommandError
within limit last kinds = refuse (nat_lt limit (last + length kinds)) HistoryFull >> Ok kinds

-- whether there is a run and it is open
abbrev pub has_open_run : Option StateValue → Bool
has_open_run None = false
has_open_run (Some s) = s.running

-- what a command writes below the tip of a run that has this state
unfoldable pub plan_below : StateValue → Command → ℕ → ℕ → RunId → Result (List EventKind) CommandError
plan_below s command version limit next_run =
    refuse (not s.running) Closed
    >> (behind (failover_close s version) (written version next_run (judged_at s version) command) >>= λ kinds. within limit (s.next - 1) kinds)

-- what a start writes in a new run
unfoldable pub start_of : Option StateValue → Name → ℕ → Result (List EventKind) CommandError
start_of state workflow_type limit = refuse (has_open_run state) AlreadyRunning >> within limit 0 (beginning workflow_type)

-- what any other command writes in the current run
abbrev pub plan_in_run : Option StateValue → Command → ℕ → ℕ → RunId → Result (List EventKind) CommandError
plan_in_run None command version limit next_run = Err (Refused NoWorkflow)
plan_in_run (Some s) command version limit next_run = plan_below s command version limit next_run

-- what a command writes in a workflow whose current run has this state, where it has one
unfoldable pub plan_of : Option StateValue → Command → ℕ → ℕ → RunId → Result (List EventKind) CommandError
plan_of state (Start workflow_type) version limit next_run = start_of state workflow_type limit
plan_of state command version limit next_run = plan_in_run state command version limit next_run
