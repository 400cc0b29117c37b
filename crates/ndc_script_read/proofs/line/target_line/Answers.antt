use Rattle.ndc_script_read.proofs.TargetFits.{target_fits}
use Rattle.ndc_script_read.proofs.line.target_line.Goals as goal

pub returns-in_ok-clusters-in-len3-clause-well_formed : goal.returns-in_ok-clusters-in-len3-clause-well_formed
returns-in_ok-clusters-in-len3-clause-well_formed c =
    rw c.target_act.ensures
    (target_fits c.args.header.now c.args.verb c.in_ok-clusters-in-len3.clusters.one c.in_ok-domain-in-len3.domain c.in_ok-clusters-in-len3.clusters.two
    c.in_ok-clusters-in-len3.ensures.first c.in_ok-domain-in-len3.ensures.well_formed c.in_ok-clusters-in-len3.ensures.second)
