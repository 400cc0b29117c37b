use Rattle.ndc_dump.proofs.Printed.{dump-again}
use Rattle.ndc_dump.proofs.dump_laws.what_is_printed_is_read.Goals as goal

pub returns : goal.returns
returns c = dump-again
