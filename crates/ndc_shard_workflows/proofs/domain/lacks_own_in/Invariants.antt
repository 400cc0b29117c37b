use Rattle.std.proofs.Common.{◌≡◌}
use Rattle.ndc_shard_workflows.specs.Lacking.{one_lacks_own}
use Rattle.ndc_shard_workflows.proofs.domain.lacks_own_in.Given as goal

-- where one of all tells of it, one of those that are left does
abbrev pub invariant-loop-workflow : goal.invariant-loop-workflow
invariant-loop-workflow l = one_lacks_own l.terms l.workflow-iterator ≡ one_lacks_own l.terms l.workflows.entries
