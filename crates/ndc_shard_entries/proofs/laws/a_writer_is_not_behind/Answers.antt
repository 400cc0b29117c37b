use Rattle.ndc_shard_entries.proofs.LawProofs.{writes_ahead}
use Rattle.ndc_shard_entries.proofs.laws.a_writer_is_not_behind.Goals as goal

pub returns : goal.returns
returns c = writes_ahead
