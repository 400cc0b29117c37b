use Rattle.ndc_world_queries.proofs.PartLemmas.{none_first}
use Rattle.ndc_world_queries.proofs.parts.counts_of.Goals as goal

pub returns-in_default-clause-branches : goal.returns-in_default-clause-branches
returns-in_default-clause-branches g c = none_first (λ cell. g.C.Cell.cell cell.now) c.args.cells.now c.args.batch.now c.in_default.ensures.cases
