use Rattle.std.proofs.Common.{[]}
use Rattle.ndc_model_sets.specs.Origins.{signals}
use Rattle.ndc_reapply.proofs.LawProofs.{strays_apart}
use Rattle.ndc_explain.proofs.LawProofs.{same_origins}
use Rattle.ndc_explain.proofs.laws.each_signal_is_told_once.Goals as goal

pub returns-clause-told : goal.returns-clause-told
returns-clause-told c = λ view origin. same_origins (signals view.batches) origin

pub returns-clause-once : goal.returns-clause-once
returns-clause-once c = λ view. strays_apart (signals view.batches) []
