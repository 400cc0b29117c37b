use Rattle.std.proofs.Common.{◌≡◌, map}
use Rattle.ndc_shard_workflows.proofs.listing.Listing.list.Given as goal

-- those gone over are copied
abbrev pub invariant-loop-names : goal.invariant-loop-names
invariant-loop-names l = l.list.items ≡ map (λ names. names.now) l.yielded
