use Rattle.std.proofs.Common.{ap, ◌∙◌, get_or, set}
use Rattle.std.proofs.lemmas.List.Edits.{map_over_more}
use Rattle.ndc_model.specs.Moves.{without_flight}
use Rattle.ndc_cluster_links.proofs.link.empty_lanes.Goals as goal

pub loop-lane-preserved : goal.loop-lane-preserved
loop-lane-preserved c =
    ap (λ z. set c.loop-lane.lane-items c.loop-lane.lane-index z) c.take-messages.ensures.empty
    ∙ map_over_more without_flight _ c.loop-lane.lane-items c.loop-lane.lane-index (get_or c.loop-lane.lane-items c.loop-lane.lane-index c.lane-item.result) c.loop-lane-test.true
    c.loop-lane.invariant (ap (λ z. get_or c.loop-lane.lane-items c.loop-lane.lane-index z) c.lane-item.is)
