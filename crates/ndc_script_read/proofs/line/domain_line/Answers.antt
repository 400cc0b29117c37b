use Rattle.ndc_script_read.proofs.TargetFits.{domain_fits}
use Rattle.ndc_script_read.proofs.line.domain_line.Goals as goal

pub returns-in_ok-at-in-len2-clause-well_formed : goal.returns-in_ok-at-in-len2-clause-well_formed
returns-in_ok-at-in-len2-clause-well_formed c =
    rw c.domain_act.ensures
    (domain_fits c.args.header.now c.args.verb c.in_ok-at-in-len2.at c.in_ok-domain-in-len2.domain c.in_ok-at-in-len2.ensures.below c.in_ok-domain-in-len2.ensures.well_formed)
