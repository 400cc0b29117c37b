use Rattle.std.proofs.Common.{List, ◌++◌, ap, ap₂, sym, ◌∙◌}
use Rattle.std.specs.List.{range_with_len}
use Rattle.ndc_index.specs.declared.seen.Seen.{Seen}
use Rattle.ndc_model.specs.Moves.{notes_of}
use Rattle.ndc_model.specs.Steps.{seen_of}
use Rattle.ndc_model_cells.specs.declared.job.JobReply.{JobReply}
use Rattle.ndc_model_cells.specs.declared.job.ShardJob.{ShardJob}
use Rattle.ndc_world_answers.specs.Tallies.{with_notes}
use Rattle.ndc_world_steps.proofs.PassingLemmas.{passed_seen, passed_tally}
use Rattle.ndc_world_steps.proofs.moving.tell.Goals as goal

pub returns-clause-tally : goal.returns-clause-tally
returns-clause-tally c =
    c.in_ok-add.ensures c.args.done.cluster
    ∙ ap₂ (λ (jobs : List ShardJob) (replies : List JobReply). with_notes (notes_of c.args.done.cluster jobs replies) c.args.tally.now) c.as_slice.ensures.value c.as_slice-2.ensures.value
    ∙ sym (passed_tally c.args.done.cluster (range_with_len 0 c.args.done.reapplied) c.args.done.jobs.items c.args.done.replies.items c.args.tally.now)

pub returns-clause-seen : goal.returns-clause-seen
returns-clause-seen c =
    c.in_ok-add_seen.ensures
    ∙ ap (λ (l : List Seen). c.args.seen.now.items ++ l)
    (ap (λ (jobs : List ShardJob). seen_of (notes_of c.args.done.cluster jobs c.args.done.replies.items)) c.as_slice-3.ensures.value
    ∙ sym (passed_seen c.args.done.cluster (range_with_len 0 c.args.done.reapplied) c.args.done.jobs.items c.args.done.replies.items))
