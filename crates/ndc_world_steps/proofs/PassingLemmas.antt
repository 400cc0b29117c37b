-- Cells that are passed by tell nothing.
use Rattle.std.proofs.Common.{◌≡◌, ◌==◌, ◌+◌, ℕ, Bool, true, false, List, [], ◌∷◌, ◌++◌, if◌then◌else◌, refl, ap, sym, ◌∙◌, arith}
use Rattle.ndc_cluster.specs.Idle.{idle_reply}
use Rattle.ndc_domain.specs.declared.clusters.ClusterNo.{ClusterNo}
use Rattle.ndc_index.specs.declared.seen.Seen.{Seen}
use Rattle.ndc_model.specs.Moves.{Note, notes_of}
use Rattle.ndc_model.specs.Steps.{seen_at, seen_of}
use Rattle.ndc_model_cells.specs.declared.job.Job.TheVariants.{Reapply}
use Rattle.ndc_model_cells.specs.declared.job.JobReply.{JobReply}
use Rattle.ndc_model_cells.specs.declared.job.ShardJob.{ShardJob}
use Rattle.ndc_world_answers.proofs.TallyLemmas.{with-note}
use Rattle.ndc_world_answers.specs.Tallies.{with_notes, with_reply}
use Rattle.ndc_world_answers.specs.declared.tally.Tally.{Tally}
use Rattle.ndc_world_replication.specs.Dones.{idle_note, notes_passing}

module _ (cluster : ClusterNo) where
  -- an idle cell counts nothing
  idle-counts : (t : Tally) → with_reply Reapply idle_reply t ≡ t
  idle-counts t = λ i. record { learned = none t.learned i; known = none t.known i; put_off = none t.put_off i; arrived = none t.arrived i; applied = none t.applied i }
    where
      none : (n : ℕ) → n + 0 ≡ n
      none n = omega arith

  idle-first : (notes : List Note) (t : Tally) → with_notes (idle_note cluster ∷ notes) t ≡ with_notes notes t
  idle-first notes t = with-note (idle_note cluster) notes t ∙ ap (with_notes notes) (idle-counts t)

  -- what is counted is counted without them
  pub passed_tally : (shards : List ℕ) (jobs : List ShardJob) (replies : List JobReply) (t : Tally) → with_notes (notes_passing cluster shards jobs replies) t ≡ with_notes (notes_of cluster jobs replies) t
  passed_tally [] jobs replies t = refl
  passed_tally (shard ∷ shards) [] replies t = idle-first (notes_passing cluster shards [] replies) t ∙ passed_tally shards [] replies t
  passed_tally (shard ∷ shards) (asked ∷ jobs) [] t = idle-first (notes_passing cluster shards (asked ∷ jobs) []) t ∙ passed_tally shards (asked ∷ jobs) [] t
  passed_tally (shard ∷ shards) (asked ∷ jobs) (reply ∷ replies) t = by (shard == asked.shard) (passed_tally shards jobs replies (with_reply asked.job reply t)) (passed_tally shards (asked ∷ jobs) (reply ∷ replies) t)
    where
      here : Note
      here = record { cluster = cluster; job = asked.job; reply = reply }

      by : (test : Bool) → with_notes (notes_passing cluster shards jobs replies) (with_reply asked.job reply t) ≡ with_notes (notes_of cluster jobs replies) (with_reply asked.job reply t)
          → with_notes (notes_passing cluster shards (asked ∷ jobs) (reply ∷ replies)) t ≡ with_notes (here ∷ notes_of cluster jobs replies) t
          → with_notes (if test then here ∷ notes_passing cluster shards jobs replies else idle_note cluster ∷ notes_passing cluster shards (asked ∷ jobs) (reply ∷ replies)) t
          ≡ with_notes (here ∷ notes_of cluster jobs replies) t
      by true rest other = with-note here (notes_passing cluster shards jobs replies) t ∙ rest ∙ sym (with-note here (notes_of cluster jobs replies) t)
      by false rest other = idle-first (notes_passing cluster shards (asked ∷ jobs) (reply ∷ replies)) t ∙ other

  -- what is seen is seen without them
  pub passed_seen : (shards : List ℕ) (jobs : List ShardJob) (replies : List JobReply) → seen_of (notes_passing cluster shards jobs replies) ≡ seen_of (notes_of cluster jobs replies)
  passed_seen [] jobs replies = refl
  passed_seen (shard ∷ shards) [] replies = passed_seen shards [] replies
  passed_seen (shard ∷ shards) (asked ∷ jobs) [] = passed_seen shards (asked ∷ jobs) []
  passed_seen (shard ∷ shards) (asked ∷ jobs) (reply ∷ replies) = by (shard == asked.shard) (passed_seen shards jobs replies) (passed_seen shards (asked ∷ jobs) (reply ∷ replies))
    where
      here : Note
      here = record { cluster = cluster; job = asked.job; reply = reply }

      by : (test : Bool) → seen_of (notes_passing cluster shards jobs replies) ≡ seen_of (notes_of cluster jobs replies)
          → seen_of (notes_passing cluster shards (asked ∷ jobs) (reply ∷ replies)) ≡ seen_of (here ∷ notes_of cluster jobs replies)
          → seen_of (if test then here ∷ notes_passing cluster shards jobs replies else idle_note cluster ∷ notes_passing cluster shards (asked ∷ jobs) (reply ∷ replies)) ≡ seen_of (here ∷ notes_of cluster jobs replies)
      by true rest other = ap (λ (l : List Seen). seen_at cluster reply.learned ++ l) rest
      by false rest other = other
