-- What a cell writes: commands, reapplication, resets.
use Rattle.std.specs.Prelude.{ℕ, ◌+◌, ◌-◌, max, Bool, false, not, nat_lt, ◌==◌, List, [], ◌∷◌, ◌++◌, length, codes, option_to_list, Option, Some, None, Result, Ok, Err, if◌then◌else◌, map, is_some}
use Rattle.ndc_command.specs.declared.command.Command.{Command}
use Rattle.ndc_command.specs.declared.refusal.CommandError.{CommandError}
use Rattle.ndc_command.specs.declared.refusal.CommandError.TheVariants.{Refused, Memory}
use Rattle.ndc_command.specs.declared.refusal.Refusal.{Refusal}
use Rattle.ndc_command.specs.declared.refusal.Refusal.TheVariants as refusal
use Rattle.ndc_command.specs.Laws.{begins_run}
use Rattle.ndc_command.specs.Plan.{beginning, plan_of}
use Rattle.ndc_domain.specs.Clusters.{ClusterList, writer_of}
use Rattle.ndc_domain.specs.declared.clusters.ClusterNo.{ClusterNo}
use Rattle.ndc_domain.specs.declared.record.DomainRecord.{DomainRecord}
use Rattle.ndc_domain.specs.Records.{record_of}
use Rattle.ndc_event.specs.Key.{run_of}
use Rattle.ndc_event.specs.Outcome.{◌>>=◌}
use Rattle.ndc_event.specs.declared.batch.Batch.{Batch}
use Rattle.ndc_event.specs.declared.key.BatchKey.{BatchKey}
use Rattle.ndc_event.specs.declared.kind.EventKind.{EventKind}
use Rattle.ndc_event.specs.declared.kind.EventKind.TheVariants.{WorkflowExecutionTerminated, WorkflowExecutionContinuedAsNew}
use Rattle.ndc_event.specs.declared.name.Name.{Name}
use Rattle.ndc_reapply.specs.declared.stray.Stray.{Stray}
use Rattle.ndc_reapply.specs.Reapplied.{reapplied}
use Rattle.ndc_reset.specs.declared.plan.ResetError.{ResetError}
use Rattle.ndc_reset.specs.declared.plan.ResetError.TheVariants as reset
use Rattle.ndc_reset.specs.Reset.{reset_of}
use Rattle.ndc_model_sets.specs.Branches.{workflow_tip}
use Rattle.ndc_model_sets.specs.Current.{state_to, strays}
use Rattle.ndc_model_sets.specs.Paths.{events_to, versions_of}
use Rattle.ndc_state.specs.Value.{StateValue}
use Rattle.ndc_state.specs.Written.{events_from, failover_close}
use Rattle.ndc_model_cells.specs.declared.message.Message.{Message}
use Rattle.ndc_model_cells.specs.Arrival.{placed_second}
use Rattle.ndc_model_cells.specs.Cells.{Cell, learned_of}
use Rattle.ndc_model_cells.specs.Places.{placed}

-- the desk of a cell: the clusters, which of them it is of, the limit of histories, and its cluster's domain records
pub record Desk : Type 0 where
  pub clusters : ClusterList
  pub me : ClusterNo
  pub limit : ℕ
  pub table : List DomainRecord

-- whether two clusters are one
abbrev pub same_cluster : ClusterNo → ClusterNo → Bool
same_cluster one two = one.number == two.number

-- whether the writer of a version is this cluster
abbrev pub is_writer : ClusterNo → Option ClusterNo → Bool
is_writer me None = false
is_writer me (Some writer) = same_cluster writer me

-- the greatest version of these batches, 0 where there is none
abbrev pub greatest_version : List Batch → ℕ
greatest_version [] = 0
greatest_version (b ∷ batches) = max b.key.version (greatest_version batches)

-- the greatest task of these batches, 0 where there is none
abbrev pub greatest_task : List Batch → ℕ
greatest_task [] = 0
greatest_task (b ∷ batches) = max b.key.task (greatest_task batches)

-- whether the cluster may write with the version of its record: the version is its own, and no greater one is learned
abbrev pub may_write_with : Desk → ℕ → List Batch → Result ℕ Refusal
may_write_with home version batches =
    if not (is_writer home.me (writer_of home.clusters version)) then Err (refusal.NotActive version)
    else if nat_lt version (greatest_version batches) then Err (refusal.Behind (greatest_version batches))
    else Ok version

-- the same by its record of the domain, where it has one
abbrev pub may_write_by : Desk → Option DomainRecord → List Batch → Result ℕ Refusal
may_write_by home None batches = Err refusal.UnknownDomain
may_write_by home (Some one) batches = may_write_with home one.version batches

-- the version with which the cell may write to a workflow, or why it may not
unfoldable pub may_write : Desk → Name → Name → Cell → Result ℕ Refusal
may_write home domain workflow cell = may_write_by home (record_of home.table domain) (learned_of domain workflow cell)

-- a version to write with, where the workflow has a run
abbrev pub where_begun : Option Batch → ℕ → Result ℕ Refusal
where_begun None version = Err refusal.NoWorkflow
where_begun (Some tip) version = Ok version

-- the version with which the cell may write to a workflow that has begun, or why it may not
abbrev pub may_go_on : Desk → Name → Name → Cell → Result ℕ Refusal
may_go_on desk domain workflow cell = may_write desk domain workflow cell >>= where_begun (workflow_tip (learned_of domain workflow cell))

-- the key that is written next with this version
abbrev pub next_key : ℕ → List Batch → BatchKey
next_key version batches = record { version = version; task = greatest_task batches + 1 }

-- the key after another
abbrev pub key_behind : BatchKey → BatchKey
key_behind key = record { version = key.version; task = key.task + 1 }

-- the first batch of a run: it names its carrier, where it is carried
abbrev pub first_batch : Name → Name → BatchKey → Option BatchKey → List EventKind → Batch
first_batch domain workflow key carrier kinds = record {
  domain = domain;
  workflow = workflow;
  run = run_of key;
  key = key;
  parent = None;
  carrier = carrier;
  events = events_from 1 key.version kinds;
}

-- a batch below a tip
abbrev pub batch_below : Name → Name → BatchKey → Batch → StateValue → List EventKind → Batch
batch_below domain workflow key tip s kinds = record {
  domain = domain;
  workflow = workflow;
  run = tip.run;
  key = key;
  parent = Some tip.key;
  carrier = None;
  events = events_from s.next key.version kinds;
}

-- the state of the current branch of the current run, where there is one
abbrev pub state_under : Option Batch → List Batch → Option StateValue
state_under None batches = None
state_under (Some tip) batches = Some (state_to tip.run tip.key batches)

-- the type with which the last of these kinds goes on as a new run, where it does
abbrev pub goes_on_as : List EventKind → Option Name
goes_on_as [] = None
goes_on_as (WorkflowExecutionContinuedAsNew run workflow_type ∷ []) = Some workflow_type
goes_on_as (kind ∷ kinds) = goes_on_as kinds

-- whether a batch ends by going on as another run
abbrev pub goes_on : Batch → Bool
goes_on b = is_some (goes_on_as (map (λ event. event.kind) b.events))

-- what is written at once: a batch, and the one that it carries
pub record Entry : Type 0 where
  pub batch : Batch
  pub second : Option Batch

-- a batch that carries none
abbrev pub alone : Batch → Entry
alone b = record { batch = b; second = None }

-- the batches of an entry
abbrev pub batches_in : Entry → List Batch
batches_in entry = entry.batch ∷ option_to_list entry.second

-- the batch that a closing batch carries: the first of the run that goes on
abbrev pub carried_by : Name → Name → BatchKey → Option Name → Option Batch
carried_by domain workflow key None = None
carried_by domain workflow key (Some workflow_type) = Some (first_batch domain workflow (key_behind key) (Some key) (beginning workflow_type))

-- what kinds below a tip are written as; where there is no tip they begin a run
abbrev pub entry_below : Name → Name → BatchKey → Option Batch → List Batch → List EventKind → Entry
entry_below domain workflow key None batches kinds = alone (first_batch domain workflow key None kinds)
entry_below domain workflow key (Some tip) batches kinds = record {
  batch = batch_below domain workflow key tip (state_to tip.run tip.key batches) kinds;
  second = carried_by domain workflow key (goes_on_as kinds);
}

-- what kinds are written as: they begin a run, or go below a tip
abbrev pub entry_of : Name → Name → Bool → BatchKey → Option Batch → List Batch → List EventKind → Entry
entry_of domain workflow begins key tip batches kinds =
    if begins then alone (first_batch domain workflow key None kinds) else entry_below domain workflow key tip batches kinds

-- what a command writes with this version to what is learned of a workflow, or its refusal
abbrev pub command_entries : Name → Name → Command → ℕ → ℕ → List Batch → Result (List Entry) CommandError
command_entries domain workflow command limit version batches =
    plan_of (state_under (workflow_tip batches) batches) command version limit (run_of (key_behind (next_key version batches)))
    >>= λ kinds. Ok (entry_of domain workflow (begins_run command) (next_key version batches) (workflow_tip batches) batches kinds ∷ [])

-- a refusal to write as that of the command
abbrev pub as_command_error : {A : Type 0} → Result A Refusal → Result A CommandError
as_command_error (Ok x) = Ok x
as_command_error (Err why) = Err (Refused why)

-- what a command at a cell writes, or the first refusal
unfoldable pub command_of : Desk → Name → Name → Command → Cell → Result (List Entry) CommandError
command_of home domain workflow command cell =
    as_command_error (may_write home domain workflow cell)
    >>= λ version. command_entries domain workflow command home.limit version (learned_of domain workflow cell)

-- what reapplication writes below an open tip: a batch with a copy of each stray, where there is one
abbrev pub reapplication_below : Name → Name → ℕ → Option Batch → List Batch → List Stray → List Entry
reapplication_below domain workflow version None batches list = []
reapplication_below domain workflow version (Some tip) batches [] = []
reapplication_below domain workflow version (Some tip) batches (stray ∷ list) =
    if (state_to tip.run tip.key batches).running
    then alone (batch_below domain workflow (next_key version batches) tip (state_to tip.run tip.key batches) (reapplied (state_to tip.run tip.key batches) version (stray ∷ list))) ∷ []
    else []

-- the same where the cell may write
abbrev pub reapplication_by : Name → Name → Result ℕ Refusal → List Batch → List Entry
reapplication_by domain workflow (Err why) batches = []
reapplication_by domain workflow (Ok version) batches = reapplication_below domain workflow version (workflow_tip batches) batches (strays batches)

-- what reapplication writes to a workflow: nothing, where the cell may not write, the current run is closed, or there is no stray
unfoldable pub reapplication_of : Desk → Name → Name → Cell → List Entry
reapplication_of home domain workflow cell = reapplication_by domain workflow (may_write home domain workflow cell) (learned_of domain workflow cell)

-- the kinds that close an open run before a reset
abbrev pub reset_close : StateValue → ℕ → List EventKind
reset_close s version = failover_close s version ++ WorkflowExecutionTerminated (codes "reset") ∷ []

-- the batch that closes the run, where it is open
abbrev pub closing_entries : Name → Name → BatchKey → Batch → StateValue → List Entry
closing_entries domain workflow key tip s =
    if s.running then alone (batch_below domain workflow key tip s (reset_close s key.version)) ∷ [] else []

-- the key of the new run's first batch: after the closing one, where there is one
abbrev pub reset_key : BatchKey → StateValue → BatchKey
reset_key key s = if s.running then key_behind key else key

-- whether the closing batch would take the history of an open run above the limit
abbrev pub is_close_full : ℕ → StateValue → ℕ → Bool
is_close_full limit s version = if s.running then nat_lt limit (s.next - 1 + length (reset_close s version)) else false

-- the refusal of a reset as that of the call
abbrev pub reset_refused : {A : Type 0} → Result A ResetError → Result A CommandError
reset_refused (Ok x) = Ok x
reset_refused (Err reset.NoSuchPoint) = Err (Refused refusal.NoSuchPoint)
reset_refused (Err reset.HistoryFull) = Err (Refused refusal.HistoryFull)
reset_refused (Err reset.Memory) = Err Memory

-- what a reset writes with the kinds of the new run: the batch that closes an open run, and the first one of the new run
abbrev pub reset_entries : Name → Name → ℕ → BatchKey → Batch → StateValue → List EventKind → Result (List Entry) CommandError
reset_entries domain workflow limit key tip s kinds =
    if is_close_full limit s key.version then Err (Refused refusal.HistoryFull)
    else Ok (closing_entries domain workflow key tip s ++ alone (first_batch domain workflow (reset_key key s) None kinds) ∷ [])

-- what a reset at an event of the current branch of the current run writes
abbrev pub reset_below : Name → Name → ℕ → ℕ → ℕ → Option Batch → List Batch → Result (List Entry) CommandError
reset_below domain workflow event limit version None batches = Err (Refused refusal.NoWorkflow)
reset_below domain workflow event limit version (Some tip) batches =
    reset_refused (reset_of (events_to tip.key batches) tip.run event limit)
    >>= λ kinds. reset_entries domain workflow limit (next_key version batches) tip (state_to tip.run tip.key batches) kinds

-- what a reset at a cell writes, or the first refusal
unfoldable pub reset_at : Desk → Name → Name → ℕ → Cell → Result (List Entry) CommandError
reset_at home domain workflow event cell =
    as_command_error (may_write home domain workflow cell)
    >>= λ version. reset_below domain workflow event home.limit version (workflow_tip (learned_of domain workflow cell)) (learned_of domain workflow cell)

-- the batches of an entry go to their places
abbrev pub with_batches : Entry → Cell → Cell
with_batches entry cell = record cell { arrived = placed_second entry.second (placed entry.batch cell.arrived) }

-- the message of an entry, as a cell has it that has learned its batch
abbrev pub entry_message : Entry → Cell → Message
entry_message entry cell = record {
  batch = entry.batch;
  history = versions_of (events_to entry.batch.key (learned_of entry.batch.domain entry.batch.workflow cell));
  second = entry.second;
}

-- an entry is written: its batches go to their places, and its message goes last among those written
abbrev pub with_written : Entry → Cell → Cell
with_written entry cell = record (with_batches entry cell) { written = cell.written ++ entry_message entry (with_batches entry cell) ∷ [] }

-- entries are written in order
abbrev pub with_all_written : List Entry → Cell → Cell
with_all_written [] cell = cell
with_all_written (entry ∷ entries) cell = with_all_written entries (with_written entry cell)
