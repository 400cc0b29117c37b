use Rattle.std.proofs.Common.{ap, ◌∙◌}
use Rattle.ndc_graceful.specs.declared.handover.Handover.{Handover}
use Rattle.std.specs.Prelude.{List, find, is_some}
use Rattle.ndc_model.specs.Handovers.{is_handover_of}
use Rattle.ndc_world_replication.proofs.FindLemmas.{any_found}
use Rattle.ndc_world_steps.proofs.handovers.is_open.Goals as goal

pub returns : goal.returns
returns g c = c.has_handover.ensures ∙ any_found (is_handover_of c.args.domain.now) c.handovers.result.now ∙ ap (λ (l : List Handover). is_some (find (is_handover_of c.args.domain.now) l)) c.handovers.ensures
