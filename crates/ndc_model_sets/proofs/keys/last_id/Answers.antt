use Rattle.ndc_model_sets.proofs.EventLemmas.{last-id-at}
use Rattle.std.proofs.Common.{sym}
use Rattle.ndc_model_sets.proofs.keys.last_id.Goals as goal

pub returns-in-Some : goal.returns-in-Some
returns-in-Some c = last-id-at c.args.events.now c.in-Some.event.now (sym c.in-Some.ensures.value)
