use Rattle.std.specs.Prelude.{◌&&◌}
use Rattle.ndc_model_cells.specs.Writing.{same_cluster}
use Rattle.ndc_laws.proofs.EndLemmas.{goes-on-behind}
use Rattle.ndc_laws.proofs.handover_laws.behind_a_handover_the_target_goes_on_where_all_that_was_written_ends.Goals as goal
use Rattle.ndc_model.specs.Handovers.{is_handover_of}
use Rattle.ndc_model_sets.proofs.Lists.{find-among}

pub returns : goal.returns
returns c = λ header lines w at domain workflow handover b fit is opened ready has version most.
    goes-on-behind header fit lines w is handover (find-among (λ one. is_handover_of domain one && same_cluster one.to at) w.handovers handover opened) ready workflow b has version most at domain opened
