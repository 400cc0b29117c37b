use Rattle.ndc_shard_runs.proofs.NamedLemmas.{named-copies-fit}
use Rattle.ndc_shard_runs.proofs.laws.copies_that_name_originals_fit_what_comes_next.Goals as goal

pub returns : goal.returns
returns c = λ batches b sound named next taken fit. named-copies-fit batches b sound next taken named fit
