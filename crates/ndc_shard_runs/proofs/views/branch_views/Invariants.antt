use Rattle.std.proofs.Common.{◌≡◌, ◌++◌, map, drop}
use Rattle.ndc_shard_runs.specs.View.{branch_with}
use Rattle.ndc_shard_runs.proofs.views.branch_views.Given as goal

-- the branches so far, and those of the other tips, are all
abbrev pub invariant-loop-key : goal.invariant-loop-key
invariant-loop-key g l = l.list.items ++ map (branch_with l.run) (drop l.key-index l.key-items) ≡ map (branch_with l.run) l.key-items
