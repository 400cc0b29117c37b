use Rattle.std.proofs.Common.{◌≡◌, ◌≤◌, ◌*◌, ◌^◌, ℕ, List, drop, length, map, take}
use Rattle.ndc_model_cells.specs.Jobs.{cell_for}
use Rattle.ndc_model_cells.specs.declared.message.Message.{Message}
use Rattle.ndc_cluster_links.proofs.PlaceLemmas.{changed_front}
use Rattle.ndc_cluster_links.specs.Links.{done_of, flights_of}
use Rattle.ndc_cluster_links.specs.Rest.{AreRests}
use Rattle.ndc_model.specs.Queues.{after_renewal}
use Rattle.ndc_cluster_links.proofs.link.renew_lanes.Given as goal

abbrev pub invariant-loop-shard : goal.invariant-loop-shard
invariant-loop-shard g l = record {
  len : length l.lanes.items ≡ length l.initial.lanes.items;
  rest : drop l.shard l.lanes.items ≡ drop l.shard l.initial.lanes.items;
  flights : flights_of l.lanes.items ≡ flights_of l.initial.lanes.items;
  done : l.done ≡ done_of (take l.shard l.lanes.items);
  most : l.done ≤ l.shard * 10 ^ 12;
  renewed : (whole : ℕ → List Message) → AreRests l.queues whole
      → l.lanes.items ≡ changed_front (λ shard lane. after_renewal l.reader l.table (cell_for shard (map g.C.Cell.cell l.cells)) (whole shard) lane) 0 l.shard l.initial.lanes.items;
}
