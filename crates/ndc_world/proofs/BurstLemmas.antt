-- The lines in a burst, one after the other, are its jobs done one after the other.
use Rattle.std.proofs.Common.{◌≡◌, ℕ, zero, suc, drop, ◌+◌, ◌≤◌, ◌<◌, List, [], ◌∷◌, ◌++◌, append-nil, length, map, refl, sym, ◌∙◌, ap, subst, arith}
use Rattle.std.specs.Prelude.{decimal, codes}
use Rattle.std.specs.List.{All, AllByRecursion}
use Rattle.ndc_script_types.specs.WellFormed.{IsCluster, IsWellFormedHeader, IsWellFormedJob, IsWorkflowAt}
use Rattle.ndc_script_types.specs.declared.script.BurstJob.{BurstJob}
use Rattle.ndc_script_types.specs.declared.script.Header.{Header}
use Rattle.ndc_model_cells.specs.declared.job.Job.TheVariants as job
use Rattle.ndc_model_cells.specs.declared.job.JobReply.{JobReply}
use Rattle.ndc_model_cells.specs.declared.job.ShardJob.{ShardJob}
use Rattle.ndc_model_cells.specs.Jobs.{cells_after, cells_behind, replies_to, reply_to}
use Rattle.ndc_domain.specs.declared.clusters.ClusterNo.{ClusterNo}
use Rattle.ndc_laws_reached.proofs.BringLemmas.{after-more, world_after}
use Rattle.ndc_laws_reached.proofs.LetterLemmas.{shard-below}
use Rattle.ndc_model.specs.Allowed.{burst_jobs, job_for}
use Rattle.ndc_laws_reached.proofs.MoveLemmas.{command-kept}
use Rattle.ndc_index.specs.declared.seen.Seen.{Seen}
use Rattle.ndc_model.proofs.ListLemmas.{all-listed, set-there}
use Rattle.ndc_model.specs.Facts.{IsReached}
use Rattle.ndc_model.specs.Fair.{IsShaped}
use Rattle.ndc_model.specs.Laws.{is_refusal}
use Rattle.ndc_model.specs.Lines.{act_step, answers_of, job_line, ran_from, seen_in, world_behind}
use Rattle.ndc_model.specs.Moves.{jobs_done, notes_of}
use Rattle.ndc_model.specs.Steps.{command_step, outcome_answer, seen_at, seen_of}
use Rattle.ndc_model.specs.World.{Cluster, World, cell_at, cluster_at, home_at, new_cluster}
use Rattle.ndc_model.proofs.WorldLemmas.{same-cells}
use Rattle.ndc_world_replication.proofs.ShardLemmas.{cells_there}
use Rattle.ndc_world.specs.Bursts.{burst_text}
use Rattle.ndc_world.specs.Counts.{one_if, refusals, refused_in}

-- the replies of a cluster to jobs, done one after the other
abbrev pub replies_of : Header → ClusterNo → List ShardJob → World → List JobReply
replies_of header cluster jobs w = replies_to (home_at header cluster w) jobs (cluster_at cluster w).cells

-- the job of a line in a burst
abbrev pub one_job : Header → BurstJob → ShardJob
one_job header one = job_for header one.domain one.workflow (job.Command one.domain one.workflow one.command)

module _ (header : Header) (cluster : ClusterNo) (w : World) where
  -- what a command line leaves, answers and makes learned
  one-world : (one : BurstJob) → (act_step header (job_line cluster one).act w).world ≡ world_after header cluster (one_job header one ∷ []) w
  unfolding act_step command_step jobs_done
  one-world one = refl

  one-answer : (one : BurstJob) → (act_step header (job_line cluster one).act w).answer ≡ outcome_answer (reply_to (home_at header cluster w) (one_job header one).job (cell_at cluster (one_job header one).shard w)).outcome
  unfolding act_step command_step
  one-answer one = refl

  one-seen : (one : BurstJob) → (act_step header (job_line cluster one).act w).seen ≡ seen_at cluster (reply_to (home_at header cluster w) (one_job header one).job (cell_at cluster (one_job header one).shard w)).learned
  unfolding act_step command_step jobs_done replies_to
  one-seen one = append-nil _

  step-world : (one : BurstJob) → (command_step header cluster one.domain one.workflow one.command w).world ≡ world_after header cluster (one_job header one ∷ []) w
  unfolding command_step jobs_done
  step-world one = refl

  -- replies to a first job and to the others
  more-replies : (asked : ShardJob) (jobs : List ShardJob) → IsShaped header w → IsCluster header cluster
      → replies_of header cluster (asked ∷ jobs) w ≡ reply_to (home_at header cluster w) asked.job (cell_at cluster asked.shard w) ∷ replies_of header cluster jobs (world_after header cluster (asked ∷ []) w)
  unfolding replies_to cells_after
  more-replies asked jobs shaped known =
      ap (λ (c : Cluster). reply_to (home_at header cluster w) asked.job (cell_at cluster asked.shard w) ∷ replies_to (record { clusters = header.clusters; me = cluster; limit = header.limit; table = c.table }) jobs c.cells) (sym there)
    where
      there : cluster_at cluster (world_after header cluster (asked ∷ []) w) ≡ record (cluster_at cluster w) { cells = cells_behind (home_at header cluster w) asked (cluster_at cluster w).cells }
      there = set-there w.clusters cluster.number (record (cluster_at cluster w) { cells = cells_behind (home_at header cluster w) asked (cluster_at cluster w).cells }) (new_cluster 0) (omega (arith, known, shaped.clusters))

  no-jobs : world_after header cluster [] w ≡ w
  unfolding cells_after
  no-jobs = same-cells cluster w

  no-refusal : 0 ≡ refusals (replies_of header cluster [] w)
  unfolding replies_to
  no-refusal = refl

-- the lines in a burst, run one after the other
pub record IsBurst (header : Header) (lines : ℕ) (cluster : ClusterNo) (jobs : List BurstJob) (w : World) : Type 0 where
  pub world : world_behind w (ran_from header w (map (job_line cluster) jobs)) ≡ world_after header cluster (burst_jobs header jobs) w
  pub answers : answers_of (ran_from header w (map (job_line cluster) jobs)) ≡ burst_text jobs (replies_of header cluster (burst_jobs header jobs) w)
  pub seen : seen_in (ran_from header w (map (job_line cluster) jobs)) ≡ seen_of (notes_of cluster (burst_jobs header jobs) (replies_of header cluster (burst_jobs header jobs) w))
  pub refused : refused_in (ran_from header w (map (job_line cluster) jobs)) ≡ refusals (replies_of header cluster (burst_jobs header jobs) w)
  pub reached : IsReached header (lines + length jobs) (world_after header cluster (burst_jobs header jobs) w)

-- a first line in a burst, and the others in the world that it leaves
module _ (header : Header) (lines : ℕ) (cluster : ClusterNo) (one : BurstJob) (jobs : List BurstJob) (w : World) (shaped : IsShaped header w) (known : IsCluster header cluster)
    (rest : IsBurst header (lines + 1) cluster jobs (world_after header cluster (one_job header one ∷ []) w)) where
  abbrev left : World
  left = world_after header cluster (one_job header one ∷ []) w

  abbrev reply : JobReply
  reply = reply_to (home_at header cluster w) (one_job header one).job (cell_at cluster (one_job header one).shard w)

  replies-are : replies_of header cluster (burst_jobs header (one ∷ jobs)) w ≡ reply ∷ replies_of header cluster (burst_jobs header jobs) left
  replies-are = more-replies header cluster w (one_job header one) (burst_jobs header jobs) shaped known

  joined-answers : answers_of (ran_from header w (map (job_line cluster) (one ∷ jobs))) ≡ burst_text (one ∷ jobs) (replies_of header cluster (burst_jobs header (one ∷ jobs)) w)
  joined-answers =
      ap (λ (v : World). (decimal one.number ++ codes " " ++ (act_step header (job_line cluster one).act w).answer) ++ answers_of (ran_from header v (map (job_line cluster) jobs))) (one-world header cluster w one)
      ∙ ap (λ (l : List ℕ). (decimal one.number ++ codes " " ++ (act_step header (job_line cluster one).act w).answer) ++ l) rest.answers
      ∙ ap (λ (l : List ℕ). (decimal one.number ++ codes " " ++ l) ++ burst_text jobs (replies_of header cluster (burst_jobs header jobs) left)) (one-answer header cluster w one)
      ∙ ap (burst_text (one ∷ jobs)) (sym replies-are)

  joined-seen : seen_in (ran_from header w (map (job_line cluster) (one ∷ jobs))) ≡ seen_of (notes_of cluster (burst_jobs header (one ∷ jobs)) (replies_of header cluster (burst_jobs header (one ∷ jobs)) w))
  joined-seen =
      ap (λ (v : World). (act_step header (job_line cluster one).act w).seen ++ seen_in (ran_from header v (map (job_line cluster) jobs))) (one-world header cluster w one)
      ∙ ap (λ (l : List Seen). (act_step header (job_line cluster one).act w).seen ++ l) rest.seen
      ∙ ap (λ (l : List Seen). l ++ seen_of (notes_of cluster (burst_jobs header jobs) (replies_of header cluster (burst_jobs header jobs) left))) (one-seen header cluster w one)
      ∙ ap (λ (l : List JobReply). seen_of (notes_of cluster (burst_jobs header (one ∷ jobs)) l)) (sym replies-are)

  joined-refused : refused_in (ran_from header w (map (job_line cluster) (one ∷ jobs))) ≡ refusals (replies_of header cluster (burst_jobs header (one ∷ jobs)) w)
  joined-refused =
      ap (λ (v : World). one_if (is_refusal (act_step header (job_line cluster one).act w).answer) + refused_in (ran_from header v (map (job_line cluster) jobs))) (one-world header cluster w one)
      ∙ ap (λ (n : ℕ). one_if (is_refusal (act_step header (job_line cluster one).act w).answer) + n) rest.refused
      ∙ ap (λ (l : List ℕ). one_if (is_refusal l) + refusals (replies_of header cluster (burst_jobs header jobs) left)) (one-answer header cluster w one)
      ∙ ap refusals (sym replies-are)

  same-lines : lines + 1 + length jobs ≡ lines + length (one ∷ jobs)
  same-lines = omega arith

  joined : IsBurst header lines cluster (one ∷ jobs) w
  joined = record {
    world =
        ap (λ (v : World). world_behind v (ran_from header v (map (job_line cluster) jobs))) (one-world header cluster w one)
        ∙ rest.world ∙ after-more header cluster w shaped known (one_job header one) (burst_jobs header jobs);
    answers = joined-answers;
    seen = joined-seen;
    refused = joined-refused;
    reached = subst (λ (n : ℕ). IsReached header n (world_after header cluster (burst_jobs header (one ∷ jobs)) w)) same-lines
        (subst (IsReached header (lines + 1 + length jobs)) (after-more header cluster w shaped known (one_job header one) (burst_jobs header jobs)) rest.reached);
  }

module _ (header : Header) (well : IsWellFormedHeader header) (cluster : ClusterNo) (known : IsCluster header cluster) where
  lines-burst : (jobs : List BurstJob) → AllByRecursion IsWellFormedJob jobs → (lines : ℕ) (w : World) → lines + length jobs ≤ 100000 → IsReached header lines w → IsBurst header lines cluster jobs w
  lines-burst [] fit lines w few is = record {
    world = sym (no-jobs header cluster w);
    answers = refl;
    seen = no-seen;
    refused = no-refusal header cluster w;
    reached = subst (λ (n : ℕ). IsReached header n (world_after header cluster [] w)) same (subst (IsReached header lines) (sym (no-jobs header cluster w)) is);
  }
    where
      same : lines ≡ lines + 0
      same = omega arith

      no-seen : [] ≡ seen_of (notes_of cluster [] (replies_of header cluster [] w))
      no-seen = refl
  lines-burst (one ∷ jobs) fit lines w few is =
      let names : IsWorkflowAt header cluster one.domain one.workflow = record { known = known; domain_name = fit.0.domain; workflow_name = fit.0.workflow } in
      let next : IsReached header (lines + 1) (world_after header cluster (one_job header one ∷ []) w) =
      subst (IsReached header (lines + 1)) (step-world header cluster w one) (command-kept header well lines (omega (arith, few)) w is cluster one.domain one.workflow names one.command fit.0.command) in
      joined header lines cluster one jobs w is.shaped known (lines-burst jobs fit.1 (lines + 1) (world_after header cluster (one_job header one ∷ []) w) (omega (arith, few)) next)

-- the lines in a well-formed burst
pub burst_runs : (header : Header) (lines : ℕ) (cluster : ClusterNo) (jobs : List BurstJob) (w : World) → IsWellFormedHeader header → IsCluster header cluster → All IsWellFormedJob jobs
    → lines + length jobs ≤ 100000 → IsReached header lines w → IsBurst header lines cluster jobs w
burst_runs header lines cluster jobs w well known fit few is = lines-burst header well cluster known jobs (all-listed IsWellFormedJob jobs fit) lines w few is

-- where no reply is left there is no more text
no-reply-text : (jobs : List BurstJob) → burst_text jobs [] ≡ []
no-reply-text [] = refl
no-reply-text (job ∷ jobs) = refl

pub no_more_text : (jobs : List BurstJob) (replies : List JobReply) (place : ℕ) → length replies ≤ place → burst_text (drop place jobs) (drop place replies) ≡ []
no_more_text jobs [] zero most = no-reply-text jobs
no_more_text jobs (reply ∷ replies) zero most = absurd (omega (arith, most))
no_more_text [] [] (suc place) most = refl
no_more_text (job ∷ jobs) [] (suc place) most = no-reply-text (drop place jobs)
no_more_text [] (reply ∷ replies) (suc place) most = refl
no_more_text (job ∷ jobs) (reply ∷ replies) (suc place) most = no_more_text jobs replies place (omega (arith, most))

-- the jobs of a burst are for shards of the header
jobs-below : (header : Header) (jobs : List BurstJob) → 0 < header.shards → AllByRecursion (λ (asked : ShardJob). asked.shard < header.shards) (burst_jobs header jobs)
jobs-below header [] some = tt
jobs-below header (one ∷ jobs) some = (shard-below one.domain one.workflow header.shards some, jobs-below header jobs some)

pub jobs_there : (header : Header) (cluster : ClusterNo) (jobs : List BurstJob) (w : World) → IsShaped header w → IsCluster header cluster → 0 < header.shards
    → AllByRecursion (λ (asked : ShardJob). asked.shard < length (cluster_at cluster w).cells) (burst_jobs header jobs)
jobs_there header cluster jobs w shaped known some =
    subst (λ (n : ℕ). AllByRecursion (λ (asked : ShardJob). asked.shard < n) (burst_jobs header jobs)) (sym (cells_there header w cluster known shaped)) (jobs-below header jobs some)
