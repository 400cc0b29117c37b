use Rattle.std.proofs.Common.{sym, ◌∙◌}
use Rattle.ndc_world_steps.proofs.HandoverLemmas.{lanes_of}
use Rattle.ndc_world_steps.proofs.handovers.complete_one.Goals as goal

pub ready_in-requires-clause-places : goal.ready_in-requires-clause-places
ready_in-requires-clause-places g c =
    lanes_of c.args.header.now c.args.replication.now c.args.handover.now.to c.args.handover.now.from c.requires.shaped
    (record { first = c.requires.fit.clusters.second; second = c.requires.fit.clusters.first; differ = λ same. c.requires.fit.clusters.differ (sym same) })
    ∙ sym c.requires.fit.places
