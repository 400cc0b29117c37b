use Rattle.std.proofs.Common.{◌≡◌}
use Rattle.ndc_shard_workflows.specs.Lacking.{some_lack_own}
use Rattle.ndc_shard_workflows.proofs.domains.lacks_own_in.Given as goal

-- where one of all tells of it, one of those that are left does
abbrev pub invariant-loop-domain : goal.invariant-loop-domain
invariant-loop-domain l = some_lack_own l.terms l.domain-iterator ≡ some_lack_own l.terms l.domains.entries
