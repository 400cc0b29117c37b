use Rattle.std.proofs.Common.{◌≡◌, ◌++◌, map}
use Rattle.ndc_shard_workflows.specs.Reading.{workflows_named}
use Rattle.ndc_shard_workflows.proofs.domains.named_in.Given as goal

-- those gone over, and those of the domains that are left, are all
abbrev pub invariant-loop-name : goal.invariant-loop-name
invariant-loop-name l = map (λ w. w.now) l.list.items ++ workflows_named l.names l.name-iterator ≡ workflows_named l.names l.domains.entries
