-- What is read and changed of a link for one shard, and how much of it is done in all.
use Rattle.std.specs.Prelude.{ℕ, List, map, slice_set, sum}
use Rattle.ndc_model_cells.specs.declared.message.Message.{Message}
use Rattle.ndc_model.specs.Queues.{Lane}
use Rattle.ndc_model.specs.World.{Link, lane_in}

-- what is in flight over a link for a shard
abbrev pub flight_in : ℕ → Link → List Message
flight_in shard link = (lane_in link shard).flight

-- a lane takes the place of another
abbrev pub with_lane_in : ℕ → Lane → Link → Link
with_lane_in shard lane link = record link { lanes = slice_set link.lanes shard lane }

-- what is in flight for a shard becomes another list
abbrev pub with_flight_in : ℕ → List Message → Link → Link
with_flight_in shard flight link = with_lane_in shard (record (lane_in link shard) { flight = flight }) link

-- how many entries are done, over all lanes
abbrev pub done_of : List Lane → ℕ
done_of lanes = sum (map (λ (lane : Lane). lane.levels.done) lanes)

-- what is in flight, lane by lane
abbrev pub flights_of : List Lane → List (List Message)
flights_of lanes = map (λ (lane : Lane). lane.flight) lanes
