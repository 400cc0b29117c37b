use Rattle.std.proofs.Common.{◌≡◌, replicate}
use Rattle.ndc_progress.specs.Holdings.{new_holding}
use Rattle.ndc_progress.proofs.reports.Reports.new.Given as goal

abbrev pub invariant-loop-place : goal.invariant-loop-place
invariant-loop-place l = l.holdings.items ≡ replicate l._place (new_holding l.clusters)
