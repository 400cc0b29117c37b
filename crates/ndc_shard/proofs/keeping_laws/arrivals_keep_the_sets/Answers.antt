use Rattle.ndc_shard.proofs.KeepLaws.{arrival-keeps-author, arrival-keeps-others, arrival-keeps-set, arrival-keeps-this-whole}
use Rattle.ndc_shard.proofs.keeping_laws.arrivals_keep_the_sets.Goals as goal

pub returns-clause-kept : goal.returns-clause-kept
returns-clause-kept c = arrival-keeps-set

pub returns-clause-author : goal.returns-clause-author
returns-clause-author c = arrival-keeps-author

pub returns-clause-whole : goal.returns-clause-whole
returns-clause-whole c = arrival-keeps-this-whole

pub returns-clause-others : goal.returns-clause-others
returns-clause-others c = arrival-keeps-others
