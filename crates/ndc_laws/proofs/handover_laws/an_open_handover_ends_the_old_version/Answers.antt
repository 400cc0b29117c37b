use Rattle.ndc_laws.proofs.HandoverLemmas.{nothing-old}
use Rattle.ndc_laws.proofs.handover_laws.an_open_handover_ends_the_old_version.Goals as goal

pub returns : goal.returns
returns c = nothing-old
