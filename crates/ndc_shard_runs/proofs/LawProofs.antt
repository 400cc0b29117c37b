-- The laws of what is learned of a workflow.
use Rattle.std.proofs.Common.{◌≡◌, List, None}
use Rattle.std.specs.List.{filter}
use Rattle.ndc_event.specs.declared.batch.Batch.{Batch}
use Rattle.ndc_event.specs.declared.key.RunId.{RunId}
use Rattle.ndc_model_sets.specs.Branches.{tips}
use Rattle.ndc_model_sets.specs.Current.{current_state, state_to, strays}
use Rattle.ndc_model_sets.specs.Origins.{origins_in}
use Rattle.ndc_model_sets.specs.Paths.{path_to}
use Rattle.ndc_model_sets.specs.Sets.{batch_at, Has, arrived}
use Rattle.ndc_model_sets.specs.Sound.{IsSound}
use Rattle.ndc_shard_runs.specs.Kept.{Follows, is_unlisted}
use Rattle.ndc_shard_runs.specs.RunMap.{part_of}
use Rattle.ndc_shard_runs.proofs.FollowLemmas.{strays-behind}
use Rattle.ndc_shard_runs.proofs.PartLemmas.{part-path, part-state, part-tips}
use Rattle.ndc_shard_runs.proofs.StrayLemmas.{part-current}

pub paths_of_parts : (batches : List Batch) (run : RunId) (b : Batch) → IsSound batches → Has batches b → b.run ≡ run → path_to b.key (part_of run batches) ≡ path_to b.key batches
paths_of_parts batches run b sound has own = part-path batches sound run b has own

pub states_of_parts : (batches : List Batch) (run : RunId) (b : Batch) → IsSound batches → Has batches b → b.run ≡ run → state_to run b.key (part_of run batches) ≡ state_to run b.key batches
states_of_parts batches run b sound has own = part-state batches sound run b has own

pub tips_of_parts : (batches : List Batch) (run : RunId) → IsSound batches → tips run (part_of run batches) ≡ tips run batches
tips_of_parts batches run sound = part-tips batches sound run

pub current_of_parts : (batches : List Batch) (run : RunId) → IsSound batches → current_state run (part_of run batches) ≡ current_state run batches
current_of_parts batches run sound = part-current batches sound run

pub strays_behind : (batches : List Batch) (b : Batch) → IsSound batches → IsSound (arrived b batches) → batch_at b.key batches ≡ None → Follows batches b
    → strays (arrived b batches) ≡ filter (is_unlisted (origins_in b.run b.events)) (strays batches)
strays_behind batches b sound after none follows = strays-behind batches b sound after none follows
