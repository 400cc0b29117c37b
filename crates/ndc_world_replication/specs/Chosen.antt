-- Jobs of reapplication for some of the shards of a cluster.
use Rattle.std.specs.Prelude.{◌≡◌, ◌⊎◌, ◌+◌, ℕ, zero, suc, List, [], ◌∷◌}
use Rattle.ndc_cluster.specs.Idle.{IsIdle}
use Rattle.ndc_model_cells.specs.declared.job.Job.TheVariants.{Reapply}
use Rattle.ndc_model_cells.specs.declared.job.ShardJob.{ShardJob}
use Rattle.ndc_model_cells.specs.Cells.{Cell}
use Rattle.ndc_model_cells.specs.Jobs.{cell_for}
use Rattle.ndc_model_cells.specs.Writing.{Desk}

-- the job of a shard to apply its strays again
abbrev pub reapplies : ℕ → ShardJob
reapplies shard = record { shard = shard; job = Reapply }

-- such jobs for some of so many shards from this one on, in order: the cells of all others are idle
abbrev pub AreChosen : Desk → List Cell → ℕ → ℕ → List ShardJob → Type 0
AreChosen desk cells zero shard jobs = jobs ≡ []
AreChosen desk cells (suc count) shard [] = IsIdle desk (cell_for shard cells) × AreChosen desk cells count (shard + 1) []
AreChosen desk cells (suc count) shard (asked ∷ jobs) =
    (asked ≡ reapplies shard) × AreChosen desk cells count (shard + 1) jobs ⊎ IsIdle desk (cell_for shard cells) × AreChosen desk cells count (shard + 1) (asked ∷ jobs)
