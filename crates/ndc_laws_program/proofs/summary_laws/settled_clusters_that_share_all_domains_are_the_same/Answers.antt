use Rattle.ndc_laws_program.proofs.SameLemmas.{clusters-same}
use Rattle.ndc_laws_program.proofs.summary_laws.settled_clusters_that_share_all_domains_are_the_same.Goals as goal

pub returns : goal.returns
returns c = clusters-same
