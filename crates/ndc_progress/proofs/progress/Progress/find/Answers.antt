use Rattle.std.proofs.Common.{ap, subst, ◌∙◌}
use Rattle.ndc_progress.proofs.HeldLemmas.{lookup_held}
use Rattle.ndc_progress.proofs.MergeLemmas.{once}
use Rattle.ndc_progress.specs.Keyed.{AreOnce}
use Rattle.ndc_progress.specs.Reports.{held}
use Rattle.ndc_progress.proofs.progress.Progress.find.Goals as goal

pub returns-clause-found : goal.returns-clause-found
returns-clause-found c =
    c.get.ensures.value ∙ lookup_held c.args.activity.now c.self.inside.reports.entries c.self.invariant
    ∙ ap (held c.args.activity.now) c.self.view_is

pub returns-clause-once : goal.returns-clause-once
returns-clause-once c = subst AreOnce c.self.view_is (once c.self.inside.reports.entries c.self.invariant)
