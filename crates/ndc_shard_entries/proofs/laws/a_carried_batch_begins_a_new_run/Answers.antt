use Rattle.ndc_shard_entries.proofs.LawProofs.{second-begins, second-fresh}
use Rattle.ndc_shard_entries.proofs.laws.a_carried_batch_begins_a_new_run.Goals as goal

pub returns-clause-fresh : goal.returns-clause-fresh
returns-clause-fresh c = second-fresh

pub returns-clause-begins : goal.returns-clause-begins
returns-clause-begins c = λ batches domain workflow entry second sound after few is two. second-begins batches domain workflow entry second sound is two after few
