use Rattle.std.proofs.Common.{ap, sym, ◌∙◌}
use Rattle.ndc_world_steps.specs.Versions.{version_in}
use Rattle.ndc_world_steps.proofs.ActivityLemmas.{version_known, version_nowhere}
use Rattle.ndc_world_steps.proofs.activities.version_to.Goals as goal

pub returns-in-Some : goal.returns-in-Some
returns-in-Some c =
    c.version_in.ensures ∙ ap (version_in c.args.id) c.items.ensures.items
    ∙ version_known c.args.id c.args.key c.args.runs.now c.in-Some.history c.requires (sym c.in-Some.is ∙ c.in_ok-history.ensures)

pub returns-in-None : goal.returns-in-None
returns-in-None c = version_nowhere c.args.id c.args.key c.args.runs.now (sym c.in-None.is ∙ c.in_ok-history.ensures)
