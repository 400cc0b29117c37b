use Rattle.std.proofs.Common.{◌≡◌, ◌++◌, drop, map}
use Rattle.std.specs.List.{flat_map}
use Rattle.ndc_event.specs.declared.key.RunId.{RunId}
use Rattle.ndc_model_sets.specs.Branches.{histories}
use Rattle.ndc_shard.specs.Histories.{branch_ending, histories_at}
use Rattle.ndc_shard.proofs.histories.Histories.of.Given as goal

-- the histories of the branches that end with batches gone over, and those of the others, are all
abbrev pub invariant-loop-batch : goal.invariant-loop-batch
invariant-loop-batch l =
    (run : RunId) → histories_at run l.all ++ flat_map (branch_ending run l.parents.keys l.runs) (map (λ b. b.now) (drop l.batch-index l.batch-items)) ≡ histories run l.runs
