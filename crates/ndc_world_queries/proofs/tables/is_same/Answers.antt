use Rattle.ndc_world_queries.proofs.TableLemmas.{table_told}
use Rattle.ndc_world_queries.proofs.tables.is_same.Goals as goal

pub returns : goal.returns
returns c = table_told c.args.one.now c.args.two.now c.same.result c.same.ensures
