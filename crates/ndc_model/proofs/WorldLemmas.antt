-- What happens in one cell leaves all others.
use Rattle.std.proofs.Common.{◌≡◌, ℕ, zero, suc, Bool, true, false, ◌&&◌, List, [], ◌∷◌, ◌++◌, slice_index_or, slice_set, Option, Some, None, IfSome, Result, Ok, Err, refl, ap, sym, ◌∙◌, if◌then◌else◌}
use Rattle.std.specs.List.{AllByRecursion}
use Rattle.std.specs.Str.{bytes_eq}
use Rattle.ndc_model_cells.specs.declared.job.Job.TheVariants as job
use Rattle.ndc_model_cells.specs.declared.job.ShardJob.{ShardJob}
use Rattle.ndc_model_cells.specs.declared.message.Message.{Message}
use Rattle.ndc_model_cells.specs.Cells.{Cell, empty_cell, learned_of}
use Rattle.ndc_model_cells.specs.Jobs.{after_job, cell_for, cells_after, written_at}
use Rattle.ndc_model_cells.specs.Places.{is_of}
use Rattle.ndc_model_cells.specs.Shards.{shard_of}
use Rattle.ndc_model_cells.specs.Writing.{Entry, Desk, alone, as_command_error, batch_below, carried_by, closing_entries, command_of, entry_of, first_batch, goes_on_as, is_close_full, key_behind, may_write, next_key, reset_at, reset_below, reset_close, reset_key, reset_refused, state_under, with_all_written, with_written}
use Rattle.ndc_model_cells.proofs.CellLemmas.{others_learned, others_learned_by}
use Rattle.ndc_command.specs.declared.command.Command.{Command}
use Rattle.ndc_command.specs.declared.refusal.CommandError.{CommandError}
use Rattle.ndc_command.specs.declared.refusal.CommandError.TheVariants.{Refused}
use Rattle.ndc_command.specs.declared.refusal.Refusal.TheVariants.{HistoryFull}
use Rattle.ndc_command.specs.Laws.{begins_run}
use Rattle.ndc_command.specs.Plan.{plan_of}
use Rattle.ndc_domain.specs.declared.clusters.ClusterNo.{ClusterNo}
use Rattle.ndc_event.specs.Key.{run_of}
use Rattle.ndc_event.specs.Outcome.{◌>>=◌}
use Rattle.ndc_event.specs.declared.batch.Batch.{Batch}
use Rattle.ndc_event.specs.declared.key.BatchKey.{BatchKey}
use Rattle.ndc_event.specs.declared.kind.EventKind.{EventKind}
use Rattle.ndc_event.specs.declared.name.Name.{Name}
use Rattle.ndc_reset.specs.Reset.{reset_of}
use Rattle.ndc_script_types.specs.declared.script.Header.{Header}
use Rattle.ndc_model_sets.specs.Branches.{workflow_tip}
use Rattle.ndc_model_sets.specs.Current.{state_to}
use Rattle.ndc_model_sets.specs.Paths.{events_to}
use Rattle.ndc_state.specs.Value.{StateValue}
use Rattle.ndc_model.specs.Moves.{Trace, arrives, from_world, jobs_done}
use Rattle.ndc_model.specs.Steps.{command_step, reset_step}
use Rattle.ndc_model.specs.World.{Cluster, World, cell_at, cell_of, cluster_at, home_at, new_cluster, with_cells}

-- an item of a list in which one was put
pub set-cases : {X : Type 0} (P : X → Type 0) (xs : List X) (i j : ℕ) (x d : X) → (j ≡ i → P x) → P (slice_index_or xs j d) → P (slice_index_or (slice_set xs i x) j d)
set-cases P [] i j x d here there = there
set-cases P (y ∷ ys) zero zero x d here there = here refl
set-cases P (y ∷ ys) zero (suc j) x d here there = there
set-cases P (y ∷ ys) (suc i) zero x d here there = there
set-cases P (y ∷ ys) (suc i) (suc j) x d here there = set-cases P ys i j x d (λ e. here (ap suc e)) there

-- an item that is put where it stands changes nothing
pub set-same : {X : Type 0} (xs : List X) (i : ℕ) (d : X) → slice_set xs i (slice_index_or xs i d) ≡ xs
set-same [] i d = refl
set-same (x ∷ xs) zero d = refl
set-same (x ∷ xs) (suc i) d = ap (λ ys. x ∷ ys) (set-same xs i d)

-- a cell of a world in which the cells of a cluster became others
pub cells-cases : (P : Cell → Type 0) (cluster other : ClusterNo) (place : ℕ) (cells : List Cell) (w : World) → (other.number ≡ cluster.number → P (cell_for place cells)) → P (cell_at other place w)
    → P (cell_at other place (with_cells cluster cells w))
cells-cases P cluster other place cells w here there =
    set-cases (λ (c : Cluster). P (cell_for place c.cells)) w.clusters cluster.number other.number _ (new_cluster 0) here there

-- the same cells are the same world
pub same-cells : (cluster : ClusterNo) (w : World) → with_cells cluster (cluster_at cluster w).cells w ≡ w
same-cells cluster w = ap (λ (clusters : List Cluster). record w { clusters = clusters }) (set-same w.clusters cluster.number (new_cluster 0))

-- a job that leaves what its cell has learned of a workflow leaves it at each cluster
module _ (header : Header) (domain workflow : Name) (cluster other : ClusterNo) (place : ℕ) (asked : ShardJob) (t : Trace) where
  old : Cell
  old = cell_at cluster asked.shard t.world

  pub job-leaves : learned_of domain workflow (after_job (home_at header cluster t.world) asked.job (cell_at cluster asked.shard t.world)) ≡ learned_of domain workflow (cell_at cluster asked.shard t.world)
      → learned_of domain workflow (cell_at other place (jobs_done header cluster (asked ∷ []) t).world) ≡ learned_of domain workflow (cell_at other place t.world)
  unfolding jobs_done cells_after
  job-leaves same =
      cells-cases (λ c. learned_of domain workflow c ≡ learned_of domain workflow (cell_at other place t.world)) cluster other place _ t.world
      (λ at. set-cases (λ c. learned_of domain workflow c ≡ learned_of domain workflow (cell_at other place t.world)) (cluster_at cluster t.world).cells asked.shard place _ empty_cell
      (λ in_shard. same ∙ ap (λ (n : ℕ). learned_of domain workflow (cell_for asked.shard (slice_index_or t.world.clusters n (new_cluster 0)).cells)) (sym at)
      ∙ ap (λ (s : ℕ). learned_of domain workflow (cell_at other s t.world)) (sym in_shard))
      (ap (λ (n : ℕ). learned_of domain workflow (cell_for place (slice_index_or t.world.clusters n (new_cluster 0)).cells)) (sym at)))
      refl

-- an entry is of other workflows
abbrev pub IsOfOther : Name → Name → Entry → Type 0
IsOfOther domain workflow entry = (is_of domain workflow entry.batch ≡ false) × IfSome entry.second (λ b. is_of domain workflow b ≡ false)

-- entries that are not of a workflow leave it
all-written-others : (domain workflow : Name) (entries : List Entry) (cell : Cell) → AllByRecursion (IsOfOther domain workflow) entries
    → learned_of domain workflow (with_all_written entries cell) ≡ learned_of domain workflow cell
all-written-others domain workflow [] cell all = refl
all-written-others domain workflow (entry ∷ entries) cell all =
    all-written-others domain workflow entries (with_written entry cell) all.1 ∙ others_learned domain workflow entry cell all.0.0 all.0.1

-- what is to be written, where it is of another workflow
abbrev pub IsOfOthers : Name → Name → Result (List Entry) CommandError → Type 0
IsOfOthers domain workflow (Ok entries) = AllByRecursion (IsOfOther domain workflow) entries
IsOfOthers domain workflow (Err error) = Unit {0}

written-others : (domain workflow : Name) (result : Result (List Entry) CommandError) (cell : Cell) → IsOfOthers domain workflow result
    → learned_of domain workflow (written_at result cell) ≡ learned_of domain workflow cell
written-others domain workflow (Ok entries) cell all = all-written-others domain workflow entries cell all
written-others domain workflow (Err error) cell all = refl

-- an answer after a first one
then-others : {A : Type 0} (domain workflow : Name) (first : Result A CommandError) (rest : A → Result (List Entry) CommandError) → ((x : A) → IsOfOthers domain workflow (rest x))
    → IsOfOthers domain workflow (first >>= rest)
then-others domain workflow (Ok x) rest each = each x
then-others domain workflow (Err error) rest each = tt

module _ (domain workflow d v : Name) (apart : (bytes_eq d domain && bytes_eq v workflow) ≡ false) where
  carried-others : (key : BatchKey) (going_on : Option Name) → IfSome (carried_by d v key going_on) (λ b. is_of domain workflow b ≡ false)
  carried-others key None = tt
  carried-others key (Some workflow_type) = apart

  entry-others : (begins : Bool) (key : BatchKey) (tip : Option Batch) (batches : List Batch) (kinds : List EventKind)
      → IsOfOther domain workflow (entry_of d v begins key tip batches kinds)
  entry-others true key tip batches kinds = (apart, tt)
  entry-others false key None batches kinds = (apart, tt)
  entry-others false key (Some tip) batches kinds = (apart, carried-others key (goes_on_as kinds))

  command-others : (home : Desk) (command : Command) (cell : Cell) → IsOfOthers domain workflow (command_of home d v command cell)
  unfolding command_of
  command-others home command cell =
      then-others domain workflow (as_command_error (may_write home d v cell)) _
      (λ version. then-others domain workflow
      (plan_of (state_under (workflow_tip (learned_of d v cell)) (learned_of d v cell)) command version home.limit (run_of (key_behind (next_key version (learned_of d v cell))))) _
      (λ kinds. (entry-others (begins_run command) (next_key version (learned_of d v cell)) (workflow_tip (learned_of d v cell)) (learned_of d v cell) kinds, tt)))

  closing-others : (running : Bool) (key : BatchKey) (tip : Batch) (s : StateValue) (last : Entry) → IsOfOther domain workflow last
      → AllByRecursion (IsOfOther domain workflow) ((if running then alone (batch_below d v key tip s (reset_close s key.version)) ∷ [] else []) ++ last ∷ [])
  closing-others true key tip s last other = ((apart, tt), (other, tt))
  closing-others false key tip s last other = (other, tt)

  reset-others : (home : Desk) (event : ℕ) (cell : Cell) → IsOfOthers domain workflow (reset_at home d v event cell)
  unfolding reset_at
  reset-others home event cell =
      then-others domain workflow (as_command_error (may_write home d v cell)) _ (λ version. below version (workflow_tip (learned_of d v cell)))
    where
      by : (full : Bool) (key : BatchKey) (tip : Batch) (s : StateValue) (kinds : List EventKind)
          → IsOfOthers domain workflow (if full then Err (Refused HistoryFull) else Ok (closing_entries d v key tip s ++ alone (first_batch d v (reset_key key s) None kinds) ∷ []))
      by true key tip s kinds = tt
      by false key tip s kinds = closing-others s.running key tip s (alone (first_batch d v (reset_key key s) None kinds)) (apart, tt)

      below : (version : ℕ) (tip : Option Batch) → IsOfOthers domain workflow (reset_below d v event home.limit version tip (learned_of d v cell))
      below version None = tt
      below version (Some tip) =
          then-others domain workflow (reset_refused (reset_of (events_to tip.key (learned_of d v cell)) tip.run event home.limit)) _
          (λ kinds. by (is_close_full home.limit (state_to tip.run tip.key (learned_of d v cell)) version) (next_key version (learned_of d v cell)) tip (state_to tip.run tip.key (learned_of d v cell)) kinds)

  -- a command to a workflow leaves what any cluster has learned of another
  pub command-leaves : (header : Header) (cluster other : ClusterNo) (command : Command) (w : World)
      → learned_of domain workflow (cell_of header other domain workflow (command_step header cluster d v command w).world) ≡ learned_of domain workflow (cell_of header other domain workflow w)
  unfolding command_step after_job
  command-leaves header cluster other command w =
      job-leaves header domain workflow cluster other (shard_of domain workflow header.shards)
      (record { shard = shard_of d v header.shards; job = job.Command d v command }) (from_world w)
      (written-others domain workflow (command_of (home_at header cluster w) d v command (cell_of header cluster d v w)) (cell_of header cluster d v w)
      (command-others (home_at header cluster w) command (cell_of header cluster d v w)))

  pub reset-leaves : (header : Header) (cluster other : ClusterNo) (event : ℕ) (w : World)
      → learned_of domain workflow (cell_of header other domain workflow (reset_step header cluster d v event w).world) ≡ learned_of domain workflow (cell_of header other domain workflow w)
  unfolding reset_step after_job
  reset-leaves header cluster other event w =
      job-leaves header domain workflow cluster other (shard_of domain workflow header.shards)
      (record { shard = shard_of d v header.shards; job = job.Reset d v event }) (from_world w)
      (written-others domain workflow (reset_at (home_at header cluster w) d v event (cell_of header cluster d v w)) (cell_of header cluster d v w)
      (reset-others (home_at header cluster w) event (cell_of header cluster d v w)))

pub command_leaves_others : (header : Header) (cluster other : ClusterNo) (d v domain workflow : Name) (command : Command) (w : World) → (bytes_eq d domain && bytes_eq v workflow) ≡ false
    → learned_of domain workflow (cell_of header other domain workflow (command_step header cluster d v command w).world) ≡ learned_of domain workflow (cell_of header other domain workflow w)
command_leaves_others header cluster other d v domain workflow command w apart = command-leaves domain workflow d v apart header cluster other command w

pub reset_leaves_others : (header : Header) (cluster other : ClusterNo) (d v domain workflow : Name) (event : ℕ) (w : World) → (bytes_eq d domain && bytes_eq v workflow) ≡ false
    → learned_of domain workflow (cell_of header other domain workflow (reset_step header cluster d v event w).world) ≡ learned_of domain workflow (cell_of header other domain workflow w)
reset_leaves_others header cluster other d v domain workflow event w apart = reset-leaves domain workflow d v apart header cluster other event w

-- a message that arrives leaves what any cluster has learned of another workflow
pub arrival_leaves_others : (header : Header) (cluster other : ClusterNo) (shard : ℕ) (domain workflow : Name) (sent : Message) (t : Trace) → is_of domain workflow sent.batch ≡ false
    → IfSome sent.second (λ b. is_of domain workflow b ≡ false)
    → learned_of domain workflow (cell_of header other domain workflow (jobs_done header cluster (arrives shard sent ∷ []) t).world) ≡ learned_of domain workflow (cell_of header other domain workflow t.world)
unfolding after_job
arrival_leaves_others header cluster other shard domain workflow sent t one two =
    job-leaves header domain workflow cluster other (shard_of domain workflow header.shards) (arrives shard sent) t
    (others_learned_by domain workflow sent (cell_at cluster shard t.world) one two)
