use Rattle.std.proofs.Common.{◌≡◌, map}
use Rattle.std.specs.List.{range_with_len}
use Rattle.ndc_model_cells.specs.Jobs.{cell_for}
use Rattle.ndc_model.specs.Moves.{all_arrive}
use Rattle.ndc_model_cells.specs.Domains.{learned_of_domains}
use Rattle.ndc_world_replication.proofs.bootstrapping.learned_jobs.Given as goal

abbrev pub invariant-loop-shard : goal.invariant-loop-shard
invariant-loop-shard g l = l.jobs.items ≡ all_arrive (λ shard. learned_of_domains l.fn.domains (cell_for shard (map g.C.Cell.cell l.fn.cells))) (range_with_len 0 l.shard)
