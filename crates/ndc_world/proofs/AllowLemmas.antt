-- What may be asked of cells may be asked of those that do all of it.
use Rattle.std.specs.Prelude.{List, [], ◌∷◌}
use Rattle.ndc_script_types.specs.declared.script.Act.{Act}
use Rattle.ndc_script_types.specs.declared.script.Act.TheVariants as act
use Rattle.ndc_script_types.specs.declared.script.Header.{Header}
use Rattle.ndc_model_cells.specs.declared.job.Job.{Job}
use Rattle.ndc_model_cells.specs.declared.job.Job.TheVariants as job
use Rattle.ndc_model_cells.specs.declared.job.ShardJob.{ShardJob}
use Rattle.ndc_model_cells.specs.Cells.{Cell}
use Rattle.ndc_model_cells.specs.Jobs.{cell_for, cells_behind}
use Rattle.ndc_model_cells.specs.Writing.{Desk}
use Rattle.ndc_domain.specs.declared.clusters.ClusterNo.{ClusterNo}
use Rattle.ndc_model.specs.Allowed.{LineIsAllowed, job_for, letter_jobs}
use Rattle.ndc_model.specs.Moves.{Trace, all_reapply, bootstrapped, due_arrived, flights_arrived, from_world, quietly, reapplied_all, settled_once, without_flights}
use Rattle.ndc_model.specs.World.{World, all_clusters, others_of}
use Rattle.ndc_model.specs.Conditions.{EachStep, again_jobs, flight_jobs, MayBootstrap, MayDoAll, MaySettleOnce, all_bootstrapped, all_due_arrived, due_jobs, late_jobs, reader_bootstrapped, tables_merged}
use Rattle.ndc_model_cells.specs.Conditions.{AreAllowed, Condition}
use Rattle.ndc_model_cells.specs.Allowed.{IsAllowed}

module _ (allows : Condition) (may : (home : Desk) (asked : Job) (at : Cell) → IsAllowed home asked at → allows home asked at) where
  jobs-may : (home : Desk) (jobs : List ShardJob) (cells : List Cell) → AreAllowed IsAllowed home jobs cells → AreAllowed allows home jobs cells
  jobs-may home [] cells given = tt
  jobs-may home (asked ∷ jobs) cells given = (may home asked.job (cell_for asked.shard cells) given.0, jobs-may home jobs (cells_behind home asked cells) given.1)

  each-may : {X Y : Type 0} (P Q : Y → X → Type 0) → ((y : Y) (x : X) → P y x → Q y x) → (step : Y → X → Y) (y : Y) (xs : List X) → EachStep P step y xs → EachStep Q step y xs
  each-may P Q gives step y [] given = tt
  each-may P Q gives step y (x ∷ xs) given = (gives y x given.0, each-may P Q gives step (step y x) xs given.1)

  pub all_may : (header : Header) (cluster : ClusterNo) (jobs : List ShardJob) (w : World) → MayDoAll IsAllowed header cluster jobs w → MayDoAll allows header cluster jobs w
  all_may header cluster jobs w given = jobs-may _ jobs _ given

  bootstrap-may : (header : Header) (t : Trace) (reader : ClusterNo) → MayBootstrap IsAllowed header t reader → MayBootstrap allows header t reader
  bootstrap-may header t reader given =
      each-may (λ (v : Trace) source. MayDoAll IsAllowed header reader (late_jobs header reader source v.world) v.world) (λ (v : Trace) source. MayDoAll allows header reader (late_jobs header reader source v.world) v.world)
      (λ (v : Trace) source may_all. all_may header reader (late_jobs header reader source v.world) v.world may_all) (bootstrapped header reader) t (others_of header reader) given

  once-may : (header : Header) (t : Trace) → MaySettleOnce IsAllowed header t → MaySettleOnce allows header t
  once-may header t given = record {
    bootstrap = each-may (MayBootstrap IsAllowed header) (MayBootstrap allows header) (bootstrap-may header) (reader_bootstrapped header) (quietly (tables_merged header) t) (all_clusters header) given.bootstrap;
    due = each-may (λ (v : Trace) reader. MayDoAll IsAllowed header reader (due_jobs header reader v.world) v.world) (λ (v : Trace) reader. MayDoAll allows header reader (due_jobs header reader v.world) v.world)
        (λ (v : Trace) reader may_all. all_may header reader (due_jobs header reader v.world) v.world may_all) (due_arrived header) (all_bootstrapped header (quietly (tables_merged header) t)) (all_clusters header) given.due;
    reapply = each-may (λ (v : Trace) cluster. MayDoAll IsAllowed header cluster (all_reapply header) v.world) (λ (v : Trace) cluster. MayDoAll allows header cluster (all_reapply header) v.world)
        (λ (v : Trace) cluster may_all. all_may header cluster (all_reapply header) v.world may_all) (reapplied_all header)
        (all_due_arrived header (all_bootstrapped header (quietly (tables_merged header) t))) (all_clusters header) given.reapply;
  }

  -- the jobs of a line
  pub line_may : (header : Header) (line : Act) (w : World) → LineIsAllowed IsAllowed header line w → LineIsAllowed allows header line w
  line_may header (act.Command cluster domain workflow command) w given = all_may header cluster (job_for header domain workflow (job.Command domain workflow command) ∷ []) w given
  line_may header (act.Reset cluster domain workflow event) w given = all_may header cluster (job_for header domain workflow (job.Reset domain workflow event) ∷ []) w given
  line_may header (act.Work cluster) w given = record {
    arrive = all_may header cluster (flight_jobs header cluster w) w given.arrive;
    reapply = all_may header cluster (all_reapply header) (flights_arrived header cluster w).world given.reapply;
  }
  line_may header (act.Resend cluster) w given = all_may header cluster (again_jobs header cluster w) w given
  line_may header (act.Bootstrap reader source) w given = all_may header reader (late_jobs header reader source w) w given
  line_may header act.Settle w given = record {
    first = once-may header (from_world (without_flights w)) given.first;
    second = once-may header (settled_once header (from_world (without_flights w))) given.second;
  }
  line_may header (act.MergeLetters reader) w given = all_may header reader (letter_jobs header reader w) w given
  line_may header _ w given = tt
