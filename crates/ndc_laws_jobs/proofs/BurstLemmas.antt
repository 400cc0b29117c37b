-- The commands of a burst may be asked, one after the other.
use Rattle.std.proofs.Common.{ℕ, ◌≤◌, ◌+◌, List, [], ◌∷◌, length, subst, refl, ◌≡◌, arith}
use Rattle.std.specs.List.{All, AllByRecursion}
use Rattle.ndc_script_types.specs.WellFormed.{IsCluster, IsWellFormedHeader, IsWellFormedJob, IsWorkflowAt}
use Rattle.ndc_script_types.specs.declared.script.BurstJob.{BurstJob}
use Rattle.ndc_script_types.specs.declared.script.Header.{Header}
use Rattle.ndc_model_cells.specs.declared.job.Job.TheVariants as job
use Rattle.ndc_command.specs.declared.command.Command.{Command}
use Rattle.ndc_domain.specs.declared.clusters.ClusterNo.{ClusterNo}
use Rattle.ndc_event.specs.declared.name.Name.{Name}
use Rattle.ndc_laws_reached.proofs.BringLemmas.{world_after}
use Rattle.ndc_laws_reached.proofs.MoveLemmas.{command-kept}
use Rattle.ndc_model.proofs.ListLemmas.{all-listed}
use Rattle.ndc_model.specs.Facts.{IsReached}
use Rattle.ndc_model.specs.Moves.{jobs_done}
use Rattle.ndc_model.specs.Steps.{command_step}
use Rattle.ndc_model.specs.World.{World}
use Rattle.ndc_model.specs.Conditions.{MayDoAll}
use Rattle.ndc_model_cells.specs.Allowed.{IsAllowed}
use Rattle.ndc_model.specs.Allowed.{burst_jobs, job_for}
use Rattle.ndc_laws_jobs.proofs.AskLemmas.{command-allowed}
use Rattle.ndc_laws_jobs.proofs.ComeLemmas.{allowed-more}

-- the world after a command is that after its job
command-behind : (header : Header) (cluster : ClusterNo) (domain workflow : Name) (command : Command) (w : World)
    → (command_step header cluster domain workflow command w).world ≡ world_after header cluster (job_for header domain workflow (job.Command domain workflow command) ∷ []) w
unfolding command_step jobs_done
command-behind header cluster domain workflow command w = refl

module _ (header : Header) (well : IsWellFormedHeader header) (cluster : ClusterNo) (known : IsCluster header cluster) where
  jobs-allowed : (jobs : List BurstJob) → AllByRecursion IsWellFormedJob jobs → (lines : ℕ) (w : World) → lines + length jobs ≤ 100000 → IsReached header lines w → MayDoAll IsAllowed header cluster (burst_jobs header jobs) w
  jobs-allowed [] fit lines w few is = tt
  jobs-allowed (one ∷ jobs) fit lines w few is =
      let names : IsWorkflowAt header cluster one.domain one.workflow = record { known = known; domain_name = fit.0.domain; workflow_name = fit.0.workflow } in
      allowed-more header cluster w is.shaped known (job_for header one.domain one.workflow (job.Command one.domain one.workflow one.command)) (burst_jobs header jobs)
      (command-allowed header well lines w is cluster one.domain one.workflow names one.command fit.0.command)
      (jobs-allowed jobs fit.1 (lines + 1) (world_after header cluster (job_for header one.domain one.workflow (job.Command one.domain one.workflow one.command) ∷ []) w) (omega (arith, few))
      (subst (IsReached header (lines + 1)) (command-behind header cluster one.domain one.workflow one.command w)
      (command-kept header well lines (omega (arith, few)) w is cluster one.domain one.workflow names one.command fit.0.command)))

-- the commands of a burst
pub burst_allowed : (header : Header) (lines : ℕ) (cluster : ClusterNo) (jobs : List BurstJob) (w : World) → IsWellFormedHeader header → IsCluster header cluster → All IsWellFormedJob jobs → lines + length jobs ≤ 100000
    → IsReached header lines w → MayDoAll IsAllowed header cluster (burst_jobs header jobs) w
burst_allowed header lines cluster jobs w well known fit few is = jobs-allowed header well cluster known jobs (all-listed IsWellFormedJob jobs fit) lines w few is
