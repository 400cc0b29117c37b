use Rattle.ndc_shard.proofs.FoundLemmas.{refused}
use Rattle.ndc_shard.proofs.asking.refuses.Goals as goal

pub returns-in-Err : goal.returns-in-Err
returns-in-Err c is workflow cell = refused c.args.desk.now c.args.domain.now workflow cell c.version_of.result c.in-Err.field-0 c.version_of.ensures c.in-Err.is
