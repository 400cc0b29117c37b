use Rattle.ndc_laws_cells.proofs.WriteLaws.{below_is_added, first_is_added}
use Rattle.ndc_laws_cells.proofs.write_laws.a_batch_that_replays_is_added.Goals as goal

pub returns-clause-below : goal.returns-clause-below
returns-clause-below c = below_is_added

pub returns-clause-first : goal.returns-clause-first
returns-clause-first c = first_is_added
