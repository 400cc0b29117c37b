use Rattle.std.proofs.Common.{[]}
use Rattle.ndc_explain_sides.specs.Partings.{with_ends, with_partings}
use Rattle.ndc_explain_sides.specs.Traces.{with_lost, with_standing}
use Rattle.ndc_explain_sides.proofs.LossLaws.{all_stand, none_stands}
use Rattle.ndc_explain_sides.proofs.laws.what_stands_is_not_lost.Goals as goal

pub returns-clause-lost : goal.returns-clause-lost
returns-clause-lost c = λ keys batches. none_stands keys (with_partings keys batches []) (with_standing keys (with_ends keys batches []) batches []) batches

pub returns-clause-alone : goal.returns-clause-alone
returns-clause-alone c = λ keys batches. all_stand keys (with_ends keys batches []) (with_lost keys (with_partings keys batches []) batches []) batches
