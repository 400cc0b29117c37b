use Rattle.std.proofs.Common.{ap, ◌∙◌, get_or, set}
use Rattle.std.proofs.lemmas.List.Edits.{map_over_more}
use Rattle.ndc_model.specs.Queues.{after_rewind}
use Rattle.ndc_cluster_links.proofs.link.rewind_lanes.Goals as goal

pub loop-lane-preserved : goal.loop-lane-preserved
loop-lane-preserved c =
    ap (λ z. set c.loop-lane.lane-items c.loop-lane.lane-index z) c.rewind.ensures
    ∙ map_over_more after_rewind _ c.loop-lane.lane-items c.loop-lane.lane-index (get_or c.loop-lane.lane-items c.loop-lane.lane-index c.lane-item.result) c.loop-lane-test.true
    c.loop-lane.invariant (ap (λ z. get_or c.loop-lane.lane-items c.loop-lane.lane-index z) c.lane-item.is)
