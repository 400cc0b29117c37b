-- What is written has the version of the writer's record of the domain.
use Rattle.std.proofs.Common.{◌≡◌, ◌≤◌, ℕ, Bool, true, false, List, [], ◌∷◌, ◌++◌, Option, Some, None, Result, Ok, Err, if◌then◌else◌, refl, sym, ◌∙◌, subst, ap, arith}
use Rattle.std.specs.Prelude.{option_to_list}
use Rattle.std.specs.List.{AllByRecursion}
use Rattle.ndc_model_cells.specs.Arrival.{arrived_at, cell_with, has_arrived}
use Rattle.ndc_model_cells.specs.Cells.{Cell, both, empty_cell, learned_of}
use Rattle.ndc_model_cells.specs.Jobs.{after_job, cell_for, cells_after, cells_behind, reapplied_in, workflows_of, written_at}
use Rattle.ndc_model_cells.specs.Writing.{Entry, Desk, alone, as_command_error, batch_below, batches_in, carried_by, command_entries, command_of, entry_message, entry_of, first_batch, goes_on_as, is_close_full, key_behind, may_write, next_key, reapplication_below, reapplication_by, reapplication_of, reset_at, reset_below, reset_close, reset_entries, reset_refused, with_all_written, with_batches, with_written}
use Rattle.ndc_model_cells.specs.declared.job.Job.{Job}
use Rattle.ndc_model_cells.specs.declared.job.Job.TheVariants as job
use Rattle.ndc_model_cells.specs.declared.job.ShardJob.{ShardJob}
use Rattle.ndc_command.specs.Laws.{begins_run}
use Rattle.ndc_command.specs.Plan.{plan_of}
use Rattle.ndc_command.specs.declared.command.Command.{Command}
use Rattle.ndc_command.specs.declared.refusal.CommandError.{CommandError}
use Rattle.ndc_command.specs.declared.refusal.CommandError.TheVariants.{Refused}
use Rattle.ndc_command.specs.declared.refusal.Refusal.{Refusal}
use Rattle.ndc_command.specs.declared.refusal.Refusal.TheVariants as refusal
use Rattle.ndc_domain.specs.Records.{record_of}
use Rattle.ndc_domain.specs.declared.record.DomainRecord.{DomainRecord}
use Rattle.ndc_event.specs.Key.{run_of}
use Rattle.ndc_event.specs.Outcome.{◌>>=◌}
use Rattle.ndc_event.specs.declared.batch.Batch.{Batch}
use Rattle.ndc_event.specs.declared.key.BatchKey.{BatchKey}
use Rattle.ndc_event.specs.declared.kind.EventKind.{EventKind}
use Rattle.ndc_event.specs.declared.name.Name.{Name}
use Rattle.ndc_laws_reached.proofs.WriterLemmas.{may-parts}
use Rattle.ndc_model.proofs.ListLemmas.{all-append}
use Rattle.ndc_model.proofs.WorldLemmas.{set-cases}
use Rattle.ndc_reapply.specs.declared.stray.Stray.{Stray}
use Rattle.ndc_reset.specs.Reset.{reset_of}
use Rattle.ndc_model_sets.specs.Branches.{workflow_tip}
use Rattle.ndc_model_sets.specs.Current.{state_to, strays}
use Rattle.ndc_model_sets.specs.Paths.{events_to}
use Rattle.ndc_state.specs.Value.{StateValue}

-- a table's record of the batch's domain has no greater version
abbrev pub IsAbove : List DomainRecord → Batch → Type 0
IsAbove table b = (old : DomainRecord) → record_of table b.domain ≡ Some old → old.version ≤ b.key.version

-- something holds of all batches that a cell has written
abbrev pub HoldsOfWritten : (Batch → Type 0) → Cell → Type 0
HoldsOfWritten P cell = AllByRecursion (λ sent. AllByRecursion P (both sent)) cell.written

-- it holds of all batches of entries
abbrev pub HoldsOfEntries : (Batch → Type 0) → List Entry → Type 0
HoldsOfEntries P entries = AllByRecursion (λ entry. AllByRecursion P (batches_in entry)) entries

-- it does, where there are entries
abbrev pub HoldsWhereOk : (Batch → Type 0) → Result (List Entry) CommandError → Type 0
HoldsWhereOk P (Ok entries) = HoldsOfEntries P entries
HoldsWhereOk P (Err error) = Unit {0}

entries-kept : (P : Batch → Type 0) (entries : List Entry) (cell : Cell) → HoldsOfEntries P entries → HoldsOfWritten P cell → HoldsOfWritten P (with_all_written entries cell)
entries-kept P [] cell fit holds = holds
entries-kept P (entry ∷ entries) cell fit holds =
    entries-kept P entries (with_written entry cell) fit.1
    (all-append (λ sent. AllByRecursion P (both sent)) cell.written (entry_message entry (with_batches entry cell) ∷ []) holds (fit.0, tt))

result-kept : (P : Batch → Type 0) (r : Result (List Entry) CommandError) (cell : Cell) → HoldsWhereOk P r → HoldsOfWritten P cell → HoldsOfWritten P (written_at r cell)
result-kept P (Ok entries) cell fit holds = entries-kept P entries cell fit holds
result-kept P (Err error) cell fit holds = holds

pub next-holds : {A : Type 0} (P : Batch → Type 0) (r : Result A CommandError) (f : A → Result (List Entry) CommandError) → ((x : A) → r ≡ Ok x → HoldsWhereOk P (f x)) → HoldsWhereOk P (r >>= f)
next-holds P (Ok x) f each = each x refl
next-holds P (Err error) f each = tt

as-ok : (r : Result ℕ Refusal) (version : ℕ) → as_command_error r ≡ Ok version → r ≡ Ok version
as-ok (Ok x) version e = let same : x ≡ version = cc in ap (λ (n : ℕ). Ok n) same
as-ok (Err why) version e = absurd (cc)

-- what holds of all batches of a domain and a version holds of what is written with them
module _ (P : Batch → Type 0) (domain workflow : Name) (key : BatchKey) (each : (b : Batch) → b.domain ≡ domain → b.key.version ≡ key.version → P b) where
  carried-holds : (o : Option Name) → AllByRecursion P (option_to_list (carried_by domain workflow key o))
  carried-holds None = tt
  carried-holds (Some workflow_type) = (each _ refl refl, tt)

  entry-holds : (begins : Bool) (tip : Option Batch) (batches : List Batch) (kinds : List EventKind) → AllByRecursion P (batches_in (entry_of domain workflow begins key tip batches kinds))
  entry-holds true tip batches kinds = (each _ refl refl, tt)
  entry-holds false None batches kinds = (each _ refl refl, tt)
  entry-holds false (Some tip) batches kinds = (each _ refl refl, carried-holds (goes_on_as kinds))

  reset-holds : (limit : ℕ) (tip : Batch) (s : StateValue) (kinds : List EventKind) → HoldsWhereOk P (reset_entries domain workflow limit key tip s kinds)
  reset-holds limit tip s kinds = by (is_close_full limit s key.version) s.running
    where
      closing : (t : Bool) → HoldsOfEntries P (if t then alone (batch_below domain workflow key tip s (reset_close s key.version)) ∷ [] else [])
      closing true = ((each _ refl refl, tt), tt)
      closing false = tt

      opening : (t : Bool) → HoldsOfEntries P (alone (first_batch domain workflow (if t then key_behind key else key) None kinds) ∷ [])
      opening true = ((each _ refl refl, tt), tt)
      opening false = ((each _ refl refl, tt), tt)

      by : (full : Bool) (t : Bool) → HoldsWhereOk P (if full then Err (Refused refusal.HistoryFull) else Ok ((if t then alone (batch_below domain workflow key tip s (reset_close s key.version)) ∷ [] else []) ++ alone (first_batch domain workflow (if t then key_behind key else key) None kinds) ∷ []))
      by true t = tt
      by false t = all-append (λ entry. AllByRecursion P (batches_in entry)) _ _ (closing t) (opening t)

  again-holds : (tip : Batch) (s : StateValue) (kinds : List EventKind) (t : Bool) → HoldsOfEntries P (if t then alone (batch_below domain workflow key tip s kinds) ∷ [] else [])
  again-holds tip s kinds true = ((each _ refl refl, tt), tt)
  again-holds tip s kinds false = tt

-- a cell that stands somewhere writes what has its record's version
module _ (home : Desk) (P : Batch → Type 0) (new : (b : Batch) → IsAbove home.table b → P b) where
  with-version : (domain workflow : Name) (cell : Cell) (version : ℕ) → may_write home domain workflow cell ≡ Ok version → (b : Batch) → b.domain ≡ domain → b.key.version ≡ version → P b
  with-version domain workflow cell version e b named same =
      let r = (may-parts home domain workflow cell version e).by_record in
      new b
      (λ old h.
      let both_are : Some r.found ≡ Some old = sym r.has ∙ ap (record_of home.table) (sym named) ∙ h in
      let one : r.found ≡ old = cc in
      let versions : r.found.version ≡ old.version = ap (λ (x : DomainRecord). x.version) one in
      let version_is = r.version_is in
      omega (arith, versions, version_is, same))

  command-holds : (domain workflow : Name) (command : Command) (cell : Cell) → HoldsWhereOk P (command_of home domain workflow command cell)
  unfolding command_of
  command-holds domain workflow command cell =
      next-holds P (as_command_error (may_write home domain workflow cell)) (λ version. command_entries domain workflow command home.limit version batches)
      (λ version e. next-holds P (plan_of _ command version home.limit (run_of (key_behind (next_key version batches))))
      (λ kinds. Ok (entry_of domain workflow (begins_run command) (next_key version batches) (workflow_tip batches) batches kinds ∷ []))
      (λ kinds f. (entry-holds P domain workflow (next_key version batches) (with-version domain workflow cell version (as-ok (may_write home domain workflow cell) version e)) (begins_run command) (workflow_tip batches) batches kinds, tt)))
    where
      batches : List Batch
      batches = learned_of domain workflow cell

  reset-kept : (domain workflow : Name) (event : ℕ) (cell : Cell) → HoldsWhereOk P (reset_at home domain workflow event cell)
  unfolding reset_at
  reset-kept domain workflow event cell =
      next-holds P (as_command_error (may_write home domain workflow cell)) (λ version. reset_below domain workflow event home.limit version (workflow_tip batches) batches)
      (λ version e. by version (with-version domain workflow cell version (as-ok (may_write home domain workflow cell) version e)) (workflow_tip batches))
    where
      batches : List Batch
      batches = learned_of domain workflow cell

      by : (version : ℕ) → ((b : Batch) → b.domain ≡ domain → b.key.version ≡ version → P b) → (o : Option Batch) → HoldsWhereOk P (reset_below domain workflow event home.limit version o batches)
      by version each None = tt
      by version each (Some tip) =
          next-holds P (reset_refused (reset_of (events_to tip.key batches) tip.run event home.limit))
          (λ kinds. reset_entries domain workflow home.limit (next_key version batches) tip (state_to tip.run tip.key batches) kinds)
          (λ kinds f. reset-holds P domain workflow (next_key version batches) each home.limit tip (state_to tip.run tip.key batches) kinds)

  reapplied-holds : (domain workflow : Name) (cell : Cell) → HoldsOfEntries P (reapplication_of home domain workflow cell)
  unfolding reapplication_of
  reapplied-holds domain workflow cell = by (may_write home domain workflow cell) refl
    where
      batches : List Batch
      batches = learned_of domain workflow cell

      below : (version : ℕ) → ((b : Batch) → b.domain ≡ domain → b.key.version ≡ version → P b) → (o : Option Batch) (list : List Stray) → HoldsOfEntries P (reapplication_below domain workflow version o batches list)
      below version each None list = tt
      below version each (Some tip) [] = tt
      below version each (Some tip) (stray ∷ list) = again-holds P domain workflow (next_key version batches) each tip (state_to tip.run tip.key batches) _ (state_to tip.run tip.key batches).running

      by : (r : Result ℕ Refusal) → may_write home domain workflow cell ≡ r → HoldsOfEntries P (reapplication_by domain workflow r batches)
      by (Err why) e = tt
      by (Ok version) e = below version (with-version domain workflow cell version e) (workflow_tip batches) (strays batches)

  all-reapplied : (workflows : List Batch) (cell : Cell) → HoldsOfWritten P cell → HoldsOfWritten P (reapplied_in home workflows cell)
  all-reapplied [] cell holds = holds
  all-reapplied (b ∷ workflows) cell holds =
      all-reapplied workflows (with_all_written (reapplication_of home b.domain b.workflow cell) cell)
      (entries-kept P (reapplication_of home b.domain b.workflow cell) cell (reapplied-holds b.domain b.workflow cell) holds)

  -- a job
  job-kept : (asked : Job) (cell : Cell) → HoldsOfWritten P cell → HoldsOfWritten P (after_job home asked cell)
  unfolding after_job arrived_at
  job-kept (job.Command domain workflow command) cell holds = result-kept P (command_of home domain workflow command cell) cell (command-holds domain workflow command cell) holds
  job-kept (job.Arrive sent) cell holds = elim (has_arrived sent.batch cell) as (λ (t : Bool). HoldsOfWritten P (if t then cell else cell_with sent cell)) [ true ↦ holds | false ↦ holds ]
  job-kept job.Reapply cell holds = all-reapplied (workflows_of cell.arrived) cell holds
  job-kept (job.Reset domain workflow event) cell holds = result-kept P (reset_at home domain workflow event cell) cell (reset-kept domain workflow event cell) holds

-- jobs in the cells of a cluster, of each of which something holds
pub cells-kept : (home : Desk) (P : ℕ → Batch → Type 0) → ((shard : ℕ) (b : Batch) → IsAbove home.table b → P shard b) → (jobs : List ShardJob) (cells : List Cell)
    → ((shard : ℕ) → HoldsOfWritten (P shard) (cell_for shard cells)) → (shard : ℕ) → HoldsOfWritten (P shard) (cell_for shard (cells_after home jobs cells))
unfolding cells_after
cells-kept home P new [] cells all shard = all shard
cells-kept home P new (asked ∷ jobs) cells all shard =
    cells-kept home P new jobs (cells_behind home asked cells)
    (λ s. set-cases (HoldsOfWritten (P s)) cells asked.shard s (after_job home asked.job (cell_for asked.shard cells)) empty_cell
    (λ at. subst (λ (n : ℕ). HoldsOfWritten (P n) (after_job home asked.job (cell_for asked.shard cells))) (sym at) (job-kept home (P asked.shard) (new asked.shard) asked.job (cell_for asked.shard cells) (all asked.shard)))
    (all s)) shard
