use Rattle.std.proofs.Common.{◌≡◌, ◌≤◌, ◌*◌, ◌^◌, ℕ, List, None, drop, length, take, sum}
use Rattle.ndc_model_cells.specs.declared.message.Message.{Message}
use Rattle.ndc_cluster_links.proofs.PlaceLemmas.{changed_front}
use Rattle.ndc_cluster_links.specs.Links.{done_of}
use Rattle.ndc_cluster_links.specs.Rest.{AreRests}
use Rattle.ndc_model.specs.Moves.{map_from}
use Rattle.ndc_model.specs.Queues.{after_pull, put_in_flight}
use Rattle.ndc_cluster_links.proofs.link.pull_lanes.Given as goal

abbrev pub invariant-loop-shard : goal.invariant-loop-shard
invariant-loop-shard l = record {
  len : length l.lanes.items ≡ length l.initial.lanes.items;
  rest : drop l.shard l.lanes.items ≡ drop l.shard l.initial.lanes.items;
  done : done_of l.lanes.items ≡ done_of l.initial.lanes.items;
  most : l.count ≤ l.shard * 10 ^ 12;
  pulled : (whole : ℕ → List Message) → AreRests l.queues whole
      → l.lanes.items ≡ changed_front (λ shard lane. after_pull l.reader l.table None (whole shard) lane) 0 l.shard l.initial.lanes.items;
  counted : (whole : ℕ → List Message) → AreRests l.queues whole
      → l.count ≡ sum (map_from (λ shard lane. length (put_in_flight l.reader l.table None (whole shard) lane)) 0 (take l.shard l.initial.lanes.items));
}
