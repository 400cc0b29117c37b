use Rattle.ndc_laws.proofs.AncestorLemmas.{waits-for-ancestors}
use Rattle.ndc_laws.proofs.world_laws.batches_wait_exactly_while_an_ancestor_is_missing.Goals as goal

pub returns : goal.returns
returns c = waits-for-ancestors
