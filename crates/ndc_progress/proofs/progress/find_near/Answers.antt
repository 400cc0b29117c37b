use Rattle.std.proofs.Common.{sym, ap, ◌∙◌}
use Rattle.std.specs.Map.{values_of}
use Rattle.ndc_progress.specs.Reports.{held}
use Rattle.ndc_progress.specs.declared.report.ActivityRef.{ActivityRef}
use Rattle.ndc_progress.proofs.HeldLemmas.{lookup_held, same_is_one}
use Rattle.ndc_progress.proofs.progress.find_near.Goals as goal

pub returns-then-eq : goal.returns-then-eq
returns-then-eq c =
    sym c.in-Some.ensures.value ∙ lookup_held c.in-Some.there.now c.args.own.now.entries c.requires
    ∙ ap (λ (a : ActivityRef). held a (values_of c.args.own.now.entries)) (same_is_one c.in-Some.there.now c.args.activity.now (sym c.eq.ensures ∙ c.if-eq.true))

pub returns-in-Some-get_full : goal.returns-in-Some-get_full
returns-in-Some-get_full c = c.in-Some-get_full.ensures.value ∙ lookup_held c.args.activity.now c.args.own.now.entries c.requires

pub returns-in-None : goal.returns-in-None
returns-in-None c = c.in-None.ensures.value ∙ lookup_held c.args.activity.now c.args.own.now.entries c.requires
