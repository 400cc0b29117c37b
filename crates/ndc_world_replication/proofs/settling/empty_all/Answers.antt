use Rattle.std.proofs.Common.{ap, ◌∙◌, get_or, set}
use Rattle.std.proofs.lemmas.List.Edits.{map_over_more}
use Rattle.ndc_model.specs.Moves.{link_without_flights}
use Rattle.ndc_world_replication.proofs.settling.empty_all.Goals as goal

pub loop-link-preserved : goal.loop-link-preserved
loop-link-preserved c =
    ap (λ z. set c.loop-link.link-items c.loop-link.link-index z) c.empty.ensures
    ∙ map_over_more link_without_flights _ c.loop-link.link-items c.loop-link.link-index (get_or c.loop-link.link-items c.loop-link.link-index c.link-item.result) c.loop-link-test.true
    c.loop-link.invariant (ap (λ z. get_or c.loop-link.link-items c.loop-link.link-index z) c.link-item.is)
