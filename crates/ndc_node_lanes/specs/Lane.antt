-- What a reader keeps of one shard of a source: how far it has heard, and which of the entries told it has not learned.
use Rattle.std.specs.Prelude.{◌≡◌, ℕ, ◌+◌, ◌≤◌, max, true, not, nat_le, nat_lt, List, [], ◌∷◌, ◌++◌, length, Result, Ok, Err, if◌then◌else◌}
use Rattle.std.specs.List.{filter}
use Rattle.ndc_event.specs.declared.key.BatchKey.{BatchKey}
use Rattle.ndc_event.specs.declared.name.Name.{Name}
use Rattle.ndc_node_lanes.specs.Told.{are_in_turn, is_for}
use Rattle.ndc_node_lanes.specs.declared.read_lane.HearError.{HearError}
use Rattle.ndc_node_lanes.specs.declared.read_lane.HearError.TheVariants.{Full, Hole, OutOfTurn}
use Rattle.ndc_node_lanes.specs.declared.told.Told.{Told}

-- the source's epoch; how many entries of its queue were told, from the first one on; those among them that are addressed to the
-- reader and not learned; and how many of these there may be
pub record LaneValue : Type 0 where
  pub epoch : ℕ
  pub read : ℕ
  pub held : List Told
  pub most : ℕ

-- what is held is in turn and was told, and there is room for it
pub record IsLane (lane : LaneValue) : Type 0 where
  pub turn : are_in_turn 0 lane.read lane.held ≡ true
  pub few : length lane.held ≤ lane.most

-- the place of the first of these entries, or this number where there is none
abbrev pub first_place : ℕ → List Told → ℕ
first_place otherwise [] = otherwise
first_place otherwise (entry ∷ entries) = entry.place

-- how many entries are done, from the first one on: all before the first that is held, and all that were told where none is
abbrev pub done_of : LaneValue → ℕ
done_of lane = first_place lane.read lane.held

-- a lane at the beginning of an epoch
abbrev pub begun : ℕ → ℕ → LaneValue
begun epoch most = record { epoch = epoch; read = 0; held = []; most = most }

-- the entries that were not told before
abbrev pub fresh : ℕ → List Told → List Told
fresh read entries = filter (λ entry. nat_le read entry.place) entries

-- what is heard of the entries up to the next place: the fresh ones are held, or there is no room for them
abbrev pub with_fresh : ℕ → List Told → LaneValue → Result LaneValue HearError
with_fresh next entries lane =
    if nat_lt lane.most (length lane.held + length entries) then Err Full
    else Ok (record lane { read = max lane.read next; held = lane.held ++ entries })

-- a lane that hears the entries from one place up to another, or why it does not
unfoldable pub heard : ℕ → ℕ → List Told → LaneValue → Result LaneValue HearError
heard from next entries lane =
    if nat_lt lane.read from then Err Hole
    else if not (are_in_turn from next entries) then Err OutOfTurn
    else with_fresh next (fresh lane.read entries) lane

-- a lane after which the batch of this key of a workflow is learned
abbrev pub with_learned : Name → Name → BatchKey → LaneValue → LaneValue
with_learned domain workflow key lane = record lane { held = filter (λ entry. not (is_for domain workflow key entry)) lane.held }

-- a lane that is told again what is not done
abbrev pub rewound : LaneValue → LaneValue
rewound lane = record lane { read = done_of lane; held = [] }
