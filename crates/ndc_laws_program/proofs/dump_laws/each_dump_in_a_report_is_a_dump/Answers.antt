use Rattle.ndc_laws_program.proofs.DumpLemmas.{dump-line}
use Rattle.ndc_laws_program.proofs.dump_laws.each_dump_in_a_report_is_a_dump.Goals as goal

pub returns : goal.returns
returns c = dump-line
