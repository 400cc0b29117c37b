use Rattle.std.proofs.Common.{[]}
use Rattle.ndc_explain_sides.specs.Partings.{with_ends, with_partings}
use Rattle.ndc_explain_sides.specs.Traces.{with_standing}
use Rattle.ndc_explain_sides.proofs.LossLaws.{lost_once}
use Rattle.ndc_explain_sides.proofs.laws.each_event_is_lost_once.Goals as goal

pub returns : goal.returns
returns c = λ keys batches. lost_once keys (with_partings keys batches []) (with_standing keys (with_ends keys batches []) batches []) batches
