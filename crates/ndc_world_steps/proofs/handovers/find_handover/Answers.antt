use Rattle.ndc_world_steps.specs.Links.{is_handover_to}
use Rattle.ndc_world_replication.proofs.FindLemmas.{found, nowhere}
use Rattle.ndc_world_steps.proofs.handovers.find_handover.Goals as goal

pub returns-in_default : goal.returns-in_default
returns-in_default c = nowhere (is_handover_to c.args.target c.args.domain.now) c.args.handovers.now c.in_default.ensures

pub returns : goal.returns
returns c =
    found (is_handover_to c.args.target c.args.domain.now) c.args.handovers.now c.in-Some.place c.index-handovers-place.result c.in-Some.ensures c.index-handovers-place.is
