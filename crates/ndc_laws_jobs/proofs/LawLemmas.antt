-- What the laws say of single jobs.
use Rattle.std.proofs.Common.{ℕ, ◌<◌, ◌≤◌, ◌+◌, ◌*◌}
use Rattle.ndc_script_types.specs.WellFormed.{AreTwoClusters, IsCluster, IsWellFormedCommand, IsWellFormedHeader, IsWorkflowAt}
use Rattle.ndc_script_types.specs.declared.script.Header.{Header}
use Rattle.ndc_model_cells.specs.declared.job.Job.TheVariants as job
use Rattle.ndc_model_cells.specs.declared.message.Message.{Message}
use Rattle.ndc_model_cells.specs.Shards.{shard_of}
use Rattle.ndc_command.specs.declared.command.Command.{Command}
use Rattle.ndc_domain.specs.declared.clusters.ClusterNo.{ClusterNo}
use Rattle.ndc_event.specs.declared.name.Name.{Name}
use Rattle.ndc_laws_reached.specs.Writing.{count_in}
use Rattle.ndc_laws_reached.proofs.WorkflowApplyLemmas.{applying-kept}
use Rattle.ndc_model.specs.Facts.{IsReached}
use Rattle.ndc_model.specs.Fair.{IsMessageTrue}
use Rattle.ndc_model.specs.Moves.{all_reapply}
use Rattle.ndc_model.specs.World.{World, cell_at, home_at}
use Rattle.ndc_model.specs.Conditions.{MayDoAll, late_jobs}
use Rattle.ndc_model_cells.specs.Allowed.{IsAllowed, MayArrive}
use Rattle.ndc_model.specs.Allowed.{letter_jobs}
use Rattle.ndc_laws_jobs.proofs.AskLemmas.{command-allowed, reset-allowed}
use Rattle.ndc_laws_jobs.proofs.ComeLemmas.{late_allowed}
use Rattle.ndc_laws_jobs.proofs.LetterLemmas.{letters_allowed}
use Rattle.ndc_laws_jobs.proofs.OneLemmas.{may-arrive}
use Rattle.ndc_laws_jobs.proofs.ReapplyLemmas.{reapply-allowed}

pub message_may : (header : Header) (lines : ℕ) (w : World) (cluster : ClusterNo) (shard : ℕ) (sent : Message) → IsCluster header cluster → shard < header.shards → IsReached header lines w → IsMessageTrue header shard w sent
    → MayArrive sent (cell_at cluster shard w)
message_may header lines w cluster shard sent known below is true_is = may-arrive header lines w is shard below sent true_is cluster known

pub late_may : (header : Header) (lines : ℕ) (reader source : ClusterNo) (w : World) → AreTwoClusters header reader source → IsReached header lines w → MayDoAll IsAllowed header reader (late_jobs header reader source w) w
late_may header lines reader source w two is = late_allowed header lines reader source two w is

pub letters_may : (header : Header) (lines : ℕ) (reader : ClusterNo) (w : World) → IsCluster header reader → 0 < header.shards → IsReached header lines w → MayDoAll IsAllowed header reader (letter_jobs header reader w) w
letters_may header lines reader w known some is = letters_allowed header lines reader known some w is

pub command_may : (header : Header) (lines : ℕ) (cluster : ClusterNo) (domain workflow : Name) (command : Command) (w : World) → IsWellFormedHeader header → IsWorkflowAt header cluster domain workflow
    → IsWellFormedCommand command → IsReached header lines w → IsAllowed (home_at header cluster w) (job.Command domain workflow command) (cell_at cluster (shard_of domain workflow header.shards) w)
command_may header lines cluster domain workflow command w well names fit is = command-allowed header well lines w is cluster domain workflow names command fit

pub reset_may : (header : Header) (lines : ℕ) (cluster : ClusterNo) (domain workflow : Name) (event : ℕ) (w : World) → IsWellFormedHeader header → IsWorkflowAt header cluster domain workflow → lines < 100000
    → IsReached header lines w → IsAllowed (home_at header cluster w) (job.Reset domain workflow event) (cell_at cluster (shard_of domain workflow header.shards) w)
reset_may header lines cluster domain workflow event w well names few is = reset-allowed header well lines w is cluster domain workflow names few event

pub reapply_may : (header : Header) (lines : ℕ) (cluster : ClusterNo) (w : World) → IsCluster header cluster → IsReached header lines w → ((domain workflow : Name) → count_in header domain workflow w + 1 ≤ 2 * lines)
    → MayDoAll IsAllowed header cluster (all_reapply header) w
reapply_may header lines cluster w known is room = reapply-allowed header lines (applying-kept header lines) cluster known w is (λ domain workflow owned. room domain workflow)
