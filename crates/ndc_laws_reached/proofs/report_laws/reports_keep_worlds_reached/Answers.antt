use Rattle.ndc_laws_reached.proofs.BeatLemmas.{beat_kept}
use Rattle.ndc_laws_reached.proofs.ReportLemmas.{sync_kept}
use Rattle.ndc_laws_reached.proofs.report_laws.reports_keep_worlds_reached.Goals as goal

pub returns-clause-told : goal.returns-clause-told
returns-clause-told c = beat_kept

pub returns-clause-taken_over : goal.returns-clause-taken_over
returns-clause-taken_over c = sync_kept
