use Rattle.std.proofs.Common.{subst}
use Rattle.std.specs.Option.{option_copied}
use Rattle.ndc_shard_workflows.specs.Learnable.{CanBothBeLearned}
use Rattle.ndc_shard_workflows.proofs.BeginLemmas.{begins-behind}
use Rattle.ndc_shard_workflows.proofs.LearnableLemmas.{first-sound}
use Rattle.ndc_shard_workflows.proofs.learning.learn.Goals as goal

pub learn_both-requires-clause-sound : goal.learn_both-requires-clause-sound
learn_both-requires-clause-sound g c =
    let can = subst (λ o. CanBothBeLearned c.args.runs.now c.args.batch.now (option_copied o)) c.in-Some.is c.requires in
    first-sound c.args.runs.now c.args.batch.now c.in-Some.second.now can

pub learn_both-requires-clause-second_fresh : goal.learn_both-requires-clause-second_fresh
learn_both-requires-clause-second_fresh g c =
    let can = subst (λ o. CanBothBeLearned c.args.runs.now c.args.batch.now (option_copied o)) c.in-Some.is c.requires in
    can.order.order.1.0.0.0

pub learn_both-requires-clause-begins : goal.learn_both-requires-clause-begins
learn_both-requires-clause-begins g c =
    let can = subst (λ o. CanBothBeLearned c.args.runs.now c.args.batch.now (option_copied o)) c.in-Some.is c.requires in
    begins-behind c.args.runs.now c.args.batch.now c.in-Some.second.now can.order.order.0.0.0 (first-sound c.args.runs.now c.args.batch.now c.in-Some.second.now can) can.order.sound
    can.order.order.1.0.0.0 can.begins c.are_tasks_small.ensures.learned c.are_tasks_small.ensures.first c.are_tasks_small.ensures.second
