use Rattle.ndc_shard.proofs.KeepLaws.{sent-is-of}
use Rattle.ndc_shard.proofs.keeping_laws.what_is_sent_is_of_the_set.Goals as goal

pub returns : goal.returns
returns c = sent-is-of
