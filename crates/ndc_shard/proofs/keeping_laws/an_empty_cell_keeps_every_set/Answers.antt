use Rattle.ndc_shard.proofs.KeepLaws.{empty-keeps}
use Rattle.ndc_shard.proofs.keeping_laws.an_empty_cell_keeps_every_set.Goals as goal

pub returns : goal.returns
returns c = empty-keeps
