use Rattle.ndc_dump.proofs.Dumped.{printed-of}
use Rattle.ndc_dump.proofs.dump_laws.only_what_is_printed_is_read.Goals as goal

pub returns : goal.returns
returns c = printed-of
