use Rattle.std.proofs.Common.{◌≡◌, drop}
use Rattle.ndc_shard_waiting.specs.Learning.{with_messages}
use Rattle.ndc_shard_workflows.specs.Learnable.{CanBeLearned}
use Rattle.ndc_shard_workflows.proofs.learning.learn_all.Given as goal

-- those left can be learned, and with them all are learned
abbrev pub invariant-loop-sent : goal.invariant-loop-sent
invariant-loop-sent g l = CanBeLearned l.runs (drop l.sent-index l.messages) × (with_messages (drop l.sent-index l.messages) l.runs ≡ with_messages l.messages l.fn.runs)
