-- What must hold so that cells may do the jobs of a line.
use Rattle.std.specs.Prelude.{List, [], ◌∷◌, map}
use Rattle.std.specs.List.{filter_map}
use Rattle.ndc_script_types.specs.declared.script.Act.{Act}
use Rattle.ndc_script_types.specs.declared.script.Act.TheVariants as act
use Rattle.ndc_script_types.specs.declared.script.BurstJob.{BurstJob}
use Rattle.ndc_script_types.specs.declared.script.Header.{Header}
use Rattle.ndc_model_cells.specs.declared.job.Job.TheVariants as job
use Rattle.ndc_model_cells.specs.declared.job.Job.{Job}
use Rattle.ndc_model_cells.specs.declared.job.ShardJob.{ShardJob}
use Rattle.ndc_model_cells.specs.Shards.{shard_of}
use Rattle.ndc_domain.specs.declared.clusters.ClusterNo.{ClusterNo}
use Rattle.ndc_event.specs.declared.name.Name.{Name}
use Rattle.ndc_model.specs.Letters.{letter_job}
use Rattle.ndc_model.specs.World.{World, cluster_at}
use Rattle.ndc_model.specs.Conditions.{MayDoAll, MaySettle, MayWork, again_jobs, late_jobs}
use Rattle.ndc_model_cells.specs.Conditions.{Condition}

-- a job for the shard of a workflow
abbrev pub job_for : Header → Name → Name → Job → ShardJob
job_for header domain workflow asked = record { shard = shard_of domain workflow header.shards; job = asked }

-- the jobs in which the messages of the letters of a cluster arrive
abbrev pub letter_jobs : Header → ClusterNo → World → List ShardJob
letter_jobs header reader w = filter_map (letter_job header w) (cluster_at reader w).letters

-- the commands of a burst as jobs
abbrev pub burst_jobs : Header → List BurstJob → List ShardJob
burst_jobs header jobs = map (λ one. job_for header one.domain one.workflow (job.Command one.domain one.workflow one.command)) jobs

-- the jobs of a line may be done, each in the cells that those before it leave; most lines have none, and a burst is done as the lines in it
abbrev pub LineIsAllowed : Condition → Header → Act → World → Type 0
LineIsAllowed allows header (act.Command cluster domain workflow command) w = MayDoAll allows header cluster (job_for header domain workflow (job.Command domain workflow command) ∷ []) w
LineIsAllowed allows header (act.Reset cluster domain workflow event) w = MayDoAll allows header cluster (job_for header domain workflow (job.Reset domain workflow event) ∷ []) w
LineIsAllowed allows header (act.Work cluster) w = MayWork allows header cluster w
LineIsAllowed allows header (act.Resend cluster) w = MayDoAll allows header cluster (again_jobs header cluster w) w
LineIsAllowed allows header (act.Bootstrap reader source) w = MayDoAll allows header reader (late_jobs header reader source w) w
LineIsAllowed allows header act.Settle w = MaySettle allows header w
LineIsAllowed allows header (act.MergeLetters reader) w = MayDoAll allows header reader (letter_jobs header reader w) w
LineIsAllowed allows header other w = Unit {0}
