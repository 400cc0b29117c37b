use Rattle.ndc_laws_reached.proofs.WorkflowApplyLemmas.{writing_keeps}
use Rattle.ndc_laws_reached.proofs.writing_laws.writing_keeps_worlds_reached.Goals as goal

-- src/writing_laws.rt:9:1
pub returns : goal.returns
returns c = writing_keeps
