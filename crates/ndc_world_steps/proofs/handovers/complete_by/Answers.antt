use Rattle.std.proofs.Common.{◌≡◌, length, ap, ◌∙◌, arith}
use Rattle.ndc_model.specs.World.{World}
use Rattle.ndc_world_steps.proofs.HandoverLemmas.{over_length}
use Rattle.ndc_world_steps.proofs.handovers.complete_by.Goals as goal

pub table_of-requires : goal.table_of-requires
table_of-requires g c =
    let same : length c.hand_over.new.replication.clusters ≡ length c.args.replication.now.clusters = ap (λ (w : World). length w.clusters) c.in_ok-hand_over-in-Ok.ensures ∙ over_length c.args.handover.now c.args.replication.now in
    omega (arith, c.requires.to, same)
