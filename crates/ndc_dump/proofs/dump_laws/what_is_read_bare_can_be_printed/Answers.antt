use Rattle.ndc_dump.proofs.BareDumps.{can-be-printed, printed-again}
use Rattle.ndc_dump.proofs.dump_laws.what_is_read_bare_can_be_printed.Goals as goal

pub returns-clause-set : goal.returns-clause-set
returns-clause-set c = can-be-printed

pub returns-clause-again : goal.returns-clause-again
returns-clause-again c = printed-again
