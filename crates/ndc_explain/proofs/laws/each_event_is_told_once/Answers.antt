use Rattle.std.proofs.Common.{[]}
use Rattle.ndc_explain_sides.proofs.LossLaws.{lost_once}
use Rattle.ndc_explain_sides.specs.Partings.{with_ends, with_partings}
use Rattle.ndc_explain_sides.specs.Traces.{with_standing}
use Rattle.ndc_explain.proofs.LossLaws.{told_once}
use Rattle.ndc_explain.specs.Losses.{is_told}
use Rattle.ndc_explain.specs.Standing.{standing}
use Rattle.ndc_explain.proofs.laws.each_event_is_told_once.Goals as goal

pub returns-clause-lost : goal.returns-clause-lost
returns-clause-lost c = λ view.
    let keys = standing view in
    lost_once keys (with_partings keys view.batches []) (with_standing keys (with_ends keys view.batches []) view.batches []) view.batches

pub returns-clause-once : goal.returns-clause-once
returns-clause-once c = λ all loss. told_once (is_told all loss.event) loss.is_both
