use Rattle.std.proofs.Common.{◌≤◌, List, length, subst}
use Rattle.ndc_event.specs.declared.batch.Event.{Event}
use Rattle.ndc_state.specs.Replay.{allowed_count}
use Rattle.ndc_rebuild.proofs.PathLemmas.{CountsWithin-le, allowed_count-le}
use Rattle.ndc_run.proofs.growing.grow.Goals as goal

pub returns-in-Err-clause-most_steps : goal.returns-in-Err-clause-most_steps
returns-in-Err-clause-most_steps g c =
    CountsWithin-le c.args.steps.now (allowed_count c.mark-tracked.result.now.current c.as_slice.result.now) (length c.args.batch.now.events) c.apply_all.new.steps
    (subst (λ (l : List Event). allowed_count c.mark-tracked.result.now.current c.as_slice.result.now ≤ length l) c.as_slice.ensures (allowed_count-le c.mark-tracked.result.now.current c.as_slice.result.now))
    c.in-Err.ensures.most_steps
