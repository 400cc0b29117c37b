use Rattle.std.proofs.Common.{◌≡◌, map, take}
use Rattle.ndc_progress.proofs.progress.reports_of.Given as goal

abbrev pub invariant-loop-entry : goal.invariant-loop-entry
invariant-loop-entry l = l.reports.items ≡ map (λ entry. entry.1) (take l.entry-index l.taken)
