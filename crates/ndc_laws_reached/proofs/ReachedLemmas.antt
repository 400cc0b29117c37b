-- A line keeps a world reached.
use Rattle.std.proofs.Common.{ℕ, ◌+◌, ◌<◌}
use Rattle.ndc_script_types.specs.WellFormed.{IsWellFormedAct, IsWellFormedHeader}
use Rattle.ndc_script_types.specs.declared.script.Act.{Act}
use Rattle.ndc_script_types.specs.declared.script.Header.{Header}
use Rattle.ndc_laws_reached.proofs.LineLemmas.{line_kept}
use Rattle.ndc_laws_reached.proofs.WorkflowApplyLemmas.{writing_keeps}
use Rattle.ndc_model.specs.Facts.{IsReached}
use Rattle.ndc_model.specs.Lines.{act_step}
use Rattle.ndc_model.specs.World.{World}

-- a line that may write anything keeps a world as it should be
pub line_reached : (header : Header) (lines : ℕ) (line : Act) (w : World) → IsWellFormedHeader header → IsWellFormedAct header line → lines < 100000 → IsReached header lines w → IsReached header (lines + 1) (act_step header line w).world
line_reached header lines line w sound asked below is = line_kept header lines line w sound asked below (writing_keeps header lines sound below) is
