use Rattle.ndc_dump.proofs.Printed.{bare-again}
use Rattle.ndc_dump.proofs.dump_laws.bare_batches_are_read.Goals as goal

pub returns : goal.returns
returns c = bare-again
