use Rattle.std.specs.Prelude.{◌&&◌}
use Rattle.ndc_model_cells.specs.Writing.{same_cluster}
use Rattle.ndc_laws.proofs.HandoverLemmas.{taken-current, taken-over}
use Rattle.ndc_laws.proofs.handover_laws.at_the_end_of_a_handover_all_of_the_old_version_is_learned.Goals as goal
use Rattle.ndc_model.specs.Handovers.{is_handover_of}
use Rattle.ndc_model_sets.proofs.Lists.{find-among}

pub returns-clause-learned : goal.returns-clause-learned
returns-clause-learned c = λ header lines w at domain workflow handover b fit is opened ready has version.
    taken-over header fit lines w is handover (find-among (λ one. is_handover_of domain one && same_cluster one.to at) w.handovers handover opened) ready workflow b has version

pub returns-clause-current : goal.returns-clause-current
returns-clause-current c = λ header lines w at domain workflow handover b fit is opened ready has version most.
    taken-current header fit lines w is handover (find-among (λ one. is_handover_of domain one && same_cluster one.to at) w.handovers handover opened) ready workflow b has version most
