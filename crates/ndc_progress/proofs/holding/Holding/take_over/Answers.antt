use Rattle.std.proofs.Common.{List, ◌++◌, ap, sym, ◌∙◌}
use Rattle.ndc_progress.specs.Keyed.{news}
use Rattle.ndc_progress.specs.Reports.{greatest_of, merged}
use Rattle.ndc_progress.specs.declared.report.Report.{Report}
use Rattle.ndc_progress.proofs.HoldingLemmas.{greatest_news}
use Rattle.ndc_progress.proofs.holding.Holding.take_over.Goals as goal

pub invariant_of-self-2 : goal.invariant_of-self-2
invariant_of-self-2 c =
    let log = c.self.inside.log.items in
    let fresh = c.args.fresh.now in
    c.in_ok-count.ensures.merged ∙ ap (λ (own : List Report). merged own fresh) c.self.invariant ∙ sym (greatest_news log fresh c.requires.once)
    ∙ ap (λ (own : List Report). greatest_of (log ++ news own fresh)) (sym c.self.invariant) ∙ ap greatest_of (sym c.in_ok-count.ensures.news)
