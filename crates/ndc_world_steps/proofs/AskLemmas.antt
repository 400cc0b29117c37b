-- What lines of jobs leave and tell.
use Rattle.std.proofs.Common.{◌≡◌, ℕ, List, [], ◌∷◌, ◌++◌, append-nil, codes, decimal, ◌∙◌, ap}
use Rattle.std.specs.List.{flat_map}
use Rattle.ndc_script_types.specs.declared.script.Header.{Header}
use Rattle.ndc_world_answers.specs.declared.tally.Tally.{Tally}
use Rattle.ndc_model_cells.specs.declared.job.Job.TheVariants as job
use Rattle.ndc_model_cells.specs.declared.job.JobReply.{JobReply}
use Rattle.ndc_model_cells.specs.declared.job.ShardJob.{ShardJob}
use Rattle.ndc_model_cells.specs.Jobs.{cells_after, replies_to}
use Rattle.ndc_model_cells.specs.Shards.{shard_of}
use Rattle.ndc_command.specs.declared.command.Command.{Command}
use Rattle.ndc_domain.specs.declared.clusters.ClusterNo.{ClusterNo}
use Rattle.ndc_event.specs.declared.name.Name.{Name}
use Rattle.ndc_model.specs.Allowed.{job_for}
use Rattle.ndc_index.specs.declared.seen.Seen.{Seen}
use Rattle.ndc_model.specs.Moves.{Note, jobs_done, notes_of, worked}
use Rattle.ndc_model.specs.Sending.{work_step}
use Rattle.ndc_model.specs.Steps.{Stepped, seen_of, writing_step}
use Rattle.ndc_model.specs.Texts.{ok}
use Rattle.ndc_model.specs.World.{World, cluster_at, home_at, with_cells}
use Rattle.ndc_world_replication.specs.Dones.{notes_in}
use Rattle.ndc_world_replication.specs.declared.working.Done.{Done}
use Rattle.ndc_world_steps.specs.Telling.{tally_of}
use Rattle.ndc_world_steps.specs.Told.{first_answer}

stepped : World → List ℕ → List Seen → Stepped
stepped w answer seen = record { world = w; answer = answer; seen = seen }

same-step : (w v : World) (answer other : List ℕ) (seen more : List Seen) → w ≡ v → answer ≡ other → seen ≡ more → stepped w answer seen ≡ stepped v other more
same-step w v answer other seen more e f h = cc

-- of one job that writes
pub asked_is : (header : Header) (cluster : ClusterNo) (asked : ShardJob) (w v : World) (answer : List ℕ) (seen : List Seen) (jobs : List ShardJob) (replies : List JobReply) → jobs ≡ asked ∷ []
    → v ≡ with_cells cluster (cells_after (home_at header cluster w) jobs (cluster_at cluster w).cells) w → replies ≡ replies_to (home_at header cluster w) jobs (cluster_at cluster w).cells
    → answer ≡ first_answer replies → seen ≡ seen_of (notes_of cluster jobs replies) → record { world = v; answer = answer; seen = seen } ≡ writing_step header cluster asked w
unfolding jobs_done replies_to stepped
asked_is header cluster asked w v answer seen jobs replies one world given text told =
    let first : replies ≡ replies_to (home_at header cluster w) (asked ∷ []) (cluster_at cluster w).cells = given ∙ ap (λ (l : List ShardJob). replies_to (home_at header cluster w) l (cluster_at cluster w).cells) one in
    same-step v _ answer _ seen _
    (world ∙ ap (λ (l : List ShardJob). with_cells cluster (cells_after (home_at header cluster w) l (cluster_at cluster w).cells) w) one)
    (text ∙ ap first_answer first)
    (told ∙ ap (λ (l : List ShardJob). seen_of (notes_of cluster l replies)) one ∙ ap (λ (l : List JobReply). seen_of (notes_of cluster (asked ∷ []) l)) first)

-- of a cluster that works
pub worked_is : (header : Header) (cluster : ClusterNo) (w v : World) (arrived reapplied : Done) (t : Tally) (answer : List ℕ) (seen : List Seen) → v ≡ (worked header cluster w).world
    → notes_in arrived ++ notes_in reapplied ≡ (worked header cluster w).notes → t ≡ tally_of (flat_map notes_in (arrived ∷ reapplied ∷ [])) → seen ≡ seen_of (flat_map notes_in (arrived ∷ reapplied ∷ []))
    → answer ≡ ok (codes "learned" ∷ decimal t.learned ∷ codes "known" ∷ decimal t.known ∷ codes "putoff" ∷ decimal t.put_off ∷ codes "reapplied" ∷ decimal t.applied ∷ [])
    → record { world = v; answer = answer; seen = seen } ≡ work_step header cluster w
unfolding stepped
worked_is header cluster w v arrived reapplied t answer seen world notes counted told text =
    let all : flat_map notes_in (arrived ∷ reapplied ∷ []) ≡ (worked header cluster w).notes = ap (λ (l : List Note). notes_in arrived ++ l) (append-nil (notes_in reapplied)) ∙ notes in
    same-step v _ answer _ seen _ world (text ∙ ap said (counted ∙ ap tally_of all)) (told ∙ ap seen_of all)
  where
    said : Tally → List ℕ
    said tally = ok (codes "learned" ∷ decimal tally.learned ∷ codes "known" ∷ decimal tally.known ∷ codes "putoff" ∷ decimal tally.put_off ∷ codes "reapplied" ∷ decimal tally.applied ∷ [])

-- jobs for the shard of a workflow
pub command_is : (header : Header) (domain workflow d v : Name) (command m : Command) (shard : ℕ) → shard ≡ shard_of domain workflow header.shards → d ≡ domain → v ≡ workflow → m ≡ command
    → record { shard = shard; job = job.Command d v m } ≡ job_for header domain workflow (job.Command domain workflow command)
command_is header domain workflow d v command m shard e f h k = cc

pub reset_is : (header : Header) (domain workflow d v : Name) (event shard : ℕ) → shard ≡ shard_of domain workflow header.shards → d ≡ domain → v ≡ workflow
    → record { shard = shard; job = job.Reset d v event } ≡ job_for header domain workflow (job.Reset domain workflow event)
reset_is header domain workflow d v event shard e f h = cc
