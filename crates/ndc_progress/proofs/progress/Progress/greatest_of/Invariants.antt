use Rattle.std.proofs.Common.{◌≡◌, drop}
use Rattle.ndc_progress.specs.Reports.{greatest_of, merged}
use Rattle.ndc_progress.proofs.progress.Progress.greatest_of.Given as goal

abbrev pub invariant-loop-report : goal.invariant-loop-report
invariant-loop-report l = merged l.greatest (drop l.report-index l.reports) ≡ greatest_of l.reports
