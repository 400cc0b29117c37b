-- What jobs came to, counted.
use Rattle.std.specs.Prelude.{◌+◌, List, [], ◌∷◌, map, sum}
use Rattle.std.specs.List.{flat_map}
use Rattle.ndc_model.specs.Moves.{Note}
use Rattle.ndc_model_cells.specs.declared.job.Job.{Job}
use Rattle.ndc_model_cells.specs.declared.job.JobReply.{JobReply}
use Rattle.ndc_model_cells.specs.declared.job.ShardJob.{ShardJob}
use Rattle.ndc_domain.specs.declared.clusters.ClusterNo.{ClusterNo}
use Rattle.ndc_index.specs.declared.seen.Seen.{Seen}
use Rattle.ndc_model.specs.Steps.{applied_by, applied_count, arrived_by, arrived_count, known_by, known_count, learned_by, learned_count, put_off_by, put_off_count, seen_at}
use Rattle.ndc_world_answers.specs.declared.tally.Tally.{Tally}

-- nothing is counted
abbrev pub no_tally : Tally
no_tally = record { learned = 0; known = 0; put_off = 0; arrived = 0; applied = 0 }

-- the counts of notes are added
abbrev pub with_notes : List Note → Tally → Tally
with_notes notes tally = record {
  learned = tally.learned + sum (map learned_by notes);
  known = tally.known + sum (map known_by notes);
  put_off = tally.put_off + sum (map put_off_by notes);
  arrived = tally.arrived + sum (map arrived_by notes);
  applied = tally.applied + sum (map applied_by notes);
}

-- the counts of a job and its reply are added
abbrev pub with_reply : Job → JobReply → Tally → Tally
with_reply job reply tally = record {
  learned = tally.learned + learned_count reply.outcome reply.learned;
  known = tally.known + known_count reply.outcome;
  put_off = tally.put_off + put_off_count reply.outcome;
  arrived = tally.arrived + arrived_count job reply.outcome;
  applied = tally.applied + applied_count reply.outcome;
}

-- the counts of jobs and their replies are added, one after the other
abbrev pub with_replies : List ShardJob → List JobReply → Tally → Tally
with_replies [] replies tally = tally
with_replies (asked ∷ jobs) [] tally = tally
with_replies (asked ∷ jobs) (reply ∷ replies) tally = with_replies jobs replies (with_reply asked.job reply tally)

-- what replies made learned at a cluster, in order
abbrev pub seen_by : ClusterNo → List JobReply → List Seen
seen_by cluster replies = flat_map (λ reply. seen_at cluster reply.learned) replies
