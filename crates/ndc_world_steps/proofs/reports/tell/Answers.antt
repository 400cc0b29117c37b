use Rattle.std.proofs.Common.{[], ap, slice_index_or, ◌∙◌}
use Rattle.ndc_progress.specs.Reports.{held, stale_by}
use Rattle.ndc_world_steps.proofs.ActivityLemmas.{may_tell}
use Rattle.ndc_world_steps.proofs.reports.tell.Goals as goal

pub tell-requires-clause-held : goal.tell-requires-clause-held
tell-requires-clause-held c =
    may_tell c.args.activity c.args.version (slice_index_or c.args.reports.now c.args.cluster [])
    (c.in_default.ensures ∙ ap (stale_by c.args.version) (c.find.ensures.found ∙ ap (held c.args.activity) c.of.ensures)) c.requires.beats
