use Rattle.ndc_probe.proofs.ProbeLemmas.{told_is_report}
use Rattle.ndc_probe.proofs.probing.what_lines_answer_is_the_report.Goals as goal

pub returns : goal.returns
returns c = told_is_report
