use Rattle.ndc_script.proofs.GeneratedFits.{generated_fits}
use Rattle.ndc_script.proofs.generating.generate.Goals as goal

pub returns-clause-well_formed : goal.returns-clause-well_formed
returns-clause-well_formed c = rw c.in_ok-script.ensures (generated_fits c.args.count c.args.seed c.requires.most)
