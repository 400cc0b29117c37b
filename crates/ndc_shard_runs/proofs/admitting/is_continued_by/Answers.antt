use Rattle.std.proofs.Common.{◌∙◌, ap, sym}
use Rattle.ndc_shard_runs.specs.Fitting.{is_continued_by}
use Rattle.ndc_shard_runs.proofs.LastLemmas.{last-event-at}
use Rattle.ndc_shard_runs.proofs.admitting.is_continued_by.Goals as goal

pub returns-in-Some : goal.returns-in-Some
returns-in-Some c =
    c.continues.ensures ∙ sym (ap (is_continued_by c.args.run) (last-event-at c.args.events.now c.in-Some.event.now (sym c.in-Some.ensures.value)))
