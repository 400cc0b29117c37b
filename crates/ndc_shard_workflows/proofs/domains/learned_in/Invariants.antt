use Rattle.std.proofs.Common.{◌≡◌, ◌++◌}
use Rattle.ndc_shard_workflows.specs.Reading.{learned_in_all}
use Rattle.ndc_shard_workflows.proofs.domains.learned_in.Given as goal

-- those gone over, and those of the domains that are left, are all
abbrev pub invariant-loop-name : goal.invariant-loop-name
invariant-loop-name l = l.list.items ++ learned_in_all l.name-iterator ≡ learned_in_all l.domains.entries
