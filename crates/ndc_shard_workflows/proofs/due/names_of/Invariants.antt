use Rattle.std.proofs.Common.{◌≡◌, map}
use Rattle.ndc_shard_workflows.proofs.due.names_of.Given as goal

-- those gone over are copied
abbrev pub invariant-loop-name : goal.invariant-loop-name
invariant-loop-name l = l.names.items ≡ map (λ name. name.now) l.yielded
