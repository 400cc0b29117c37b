use Rattle.ndc_script.proofs.GeneratedFits.{generated_fits}
use Rattle.ndc_script.proofs.laws.generated_scripts_are_well_formed.Goals as goal

pub returns : goal.returns
returns c = generated_fits
