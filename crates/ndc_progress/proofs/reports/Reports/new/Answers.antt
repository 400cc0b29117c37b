use Rattle.std.proofs.Common.{◌≡◌, ℕ, List, [], ap, arith, replicate, ◌∙◌}
use Rattle.ndc_progress.specs.Holdings.{held_by}
use Rattle.ndc_progress.specs.declared.report.Report.{Report}
use Rattle.ndc_progress.proofs.HoldingLemmas.{held_new}
use Rattle.ndc_progress.proofs.reports.Reports.new.Goals as goal

pub returns : goal.returns
returns c =
    let all : c.loop-place._place ≡ c.args.clusters = omega (arith, c.loop-place-test.false, c.loop-place.auto._place-end) in
    ap held_by c.loop-place.invariant ∙ held_new c.loop-place._place c.args.clusters ∙ ap (λ (count : ℕ). replicate {A = List Report} count []) all
