use Rattle.ndc_tree.proofs.PathLemmas.{versions_are_chains}
use Rattle.ndc_tree.proofs.laws.batches_of_one_version_are_a_chain.Goals as goal

pub returns : goal.returns
returns c = versions_are_chains
