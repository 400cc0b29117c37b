use Rattle.ndc_dump.proofs.Dumped.{can-be-dumped, rebuilt}
use Rattle.ndc_dump.proofs.dump_laws.what_is_read_can_be_printed.Goals as goal

pub returns-clause-set : goal.returns-clause-set
returns-clause-set c = can-be-dumped

pub returns-clause-again : goal.returns-clause-again
returns-clause-again c = rebuilt
