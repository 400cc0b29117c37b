-- Jobs that clusters have done, and the traces that they make.
use Rattle.std.specs.Prelude.{ℕ, ◌==◌, List, [], ◌∷◌, if◌then◌else◌}
use Rattle.std.specs.List.{flat_map, range_with_len}
use Rattle.ndc_cluster.specs.Idle.{idle_reply}
use Rattle.ndc_domain.specs.declared.clusters.ClusterNo.{ClusterNo}
use Rattle.ndc_model.specs.Moves.{Note, Trace, notes_of}
use Rattle.ndc_model.specs.World.{World}
use Rattle.ndc_model_cells.specs.declared.job.Job.TheVariants.{Reapply}
use Rattle.ndc_model_cells.specs.declared.job.JobReply.{JobReply}
use Rattle.ndc_model_cells.specs.declared.job.ShardJob.{ShardJob}
use Rattle.ndc_world_replication.specs.declared.working.Done.{Done}

-- the note of a cell that has applied nothing again
abbrev pub idle_note : ClusterNo → Note
idle_note cluster = record { cluster = cluster; job = Reapply; reply = idle_reply }

-- the notes of jobs, and among them those of the cells of these shards that were passed by, each in its place
abbrev pub notes_passing : ClusterNo → List ℕ → List ShardJob → List JobReply → List Note
notes_passing cluster [] jobs replies = notes_of cluster jobs replies
notes_passing cluster (shard ∷ shards) [] replies = idle_note cluster ∷ notes_passing cluster shards [] replies
notes_passing cluster (shard ∷ shards) (asked ∷ jobs) [] = idle_note cluster ∷ notes_passing cluster shards (asked ∷ jobs) []
notes_passing cluster (shard ∷ shards) (asked ∷ jobs) (reply ∷ replies) =
    if shard == asked.shard then record { cluster = cluster; job = asked.job; reply = reply } ∷ notes_passing cluster shards jobs replies
    else idle_note cluster ∷ notes_passing cluster shards (asked ∷ jobs) (reply ∷ replies)

-- the notes of what a cluster has done: of its jobs, and of the cells that need not be asked to apply their strays again
abbrev pub notes_in : Done → List Note
notes_in done = notes_passing done.cluster (range_with_len 0 done.reapplied) done.jobs.items done.replies.items

-- a world with the notes of all that was done on the way
abbrev pub trace_of : World → List Done → Trace
trace_of w dones = record { world = w; notes = flat_map notes_in dones }
