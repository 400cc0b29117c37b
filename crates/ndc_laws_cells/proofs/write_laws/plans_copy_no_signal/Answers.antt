use Rattle.ndc_laws_cells.proofs.WriteLaws.{plans_few, plans_fit, plans_plain}
use Rattle.ndc_laws_cells.proofs.write_laws.plans_copy_no_signal.Goals as goal

pub returns-clause-plain : goal.returns-clause-plain
returns-clause-plain c = plans_plain

pub returns-clause-few : goal.returns-clause-few
returns-clause-few c = plans_few

pub returns-clause-fit : goal.returns-clause-fit
returns-clause-fit c = plans_fit
