use Rattle.std.proofs.Common.{◌≡◌, ◌++◌}
use Rattle.ndc_shard_workflows.specs.Reading.{learned_in_domain}
use Rattle.ndc_shard_workflows.proofs.domain.add_learned.Given as goal

-- those gone over, and those of the workflows that are left, are all
abbrev pub invariant-loop-name : goal.invariant-loop-name
invariant-loop-name l = l.list.items ++ learned_in_domain l.domain l.name-iterator ≡ l.fn.list.items ++ learned_in_domain l.domain l.workflows.entries
