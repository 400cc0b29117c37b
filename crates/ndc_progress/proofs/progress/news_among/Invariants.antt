use Rattle.std.proofs.Common.{◌≡◌, map}
use Rattle.std.specs.Map.{values_of}
use Rattle.ndc_progress.specs.Keyed.{keyed, news}
use Rattle.ndc_progress.proofs.progress.news_among.Given as goal

abbrev pub invariant-loop-report : goal.invariant-loop-report
invariant-loop-report l = l.taken.items ≡ keyed (news (values_of l.own.entries) (map (λ report. report.now) l.yielded))
