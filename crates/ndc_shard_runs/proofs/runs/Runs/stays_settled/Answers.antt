use Rattle.std.proofs.Common.{List, ◌∙◌, ap, sym, subst}
use Rattle.ndc_event.specs.declared.batch.Batch.{Batch}
use Rattle.ndc_shard_runs.specs.Kept.{follows, lies_beside, StaysSettled}
use Rattle.ndc_shard_runs.specs.RunMap.{all_of}
use Rattle.ndc_shard_runs.proofs.DueLemmas.{stays-settled}
use Rattle.ndc_shard_runs.proofs.runs.Runs.stays_settled.Goals as goal

pub returns : goal.returns
returns c h =
    let b = c.args.batch.now in
    subst (λ (l : List Batch). StaysSettled b l) c.self.view_is
    (stays-settled (all_of c.self.inside.runs) b c.self.inside.strays c.lies_beside-beside.result c.follows-follows.result c.self.invariant.sound
    (c.lies_beside-beside.ensures ∙ ap (λ (l : List Batch). lies_beside l b) (sym c.self.view_is)) (c.follows-follows.ensures ∙ ap (λ (l : List Batch). follows l b) (sym c.self.view_is))
    c.self.invariant.known (sym c.stay_empty.ensures ∙ h))
