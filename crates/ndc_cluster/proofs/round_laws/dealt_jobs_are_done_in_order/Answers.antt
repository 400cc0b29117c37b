use Rattle.ndc_cluster.proofs.DealLemmas.{cells_dealt, replies_dealt}
use Rattle.ndc_cluster.proofs.round_laws.dealt_jobs_are_done_in_order.Goals as goal

pub returns-clause-cells : goal.returns-clause-cells
returns-clause-cells c = cells_dealt

pub returns-clause-replies : goal.returns-clause-replies
returns-clause-replies c = replies_dealt
