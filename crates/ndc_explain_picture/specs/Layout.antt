-- The layout of a picture: a lane for each cluster, or for each version that none is known to write with, and in it one block below the other, each below its parent's.
use Rattle.std.specs.Prelude.{ℕ, Bool, true, is_some, ◌+◌, ◌-◌, ◌*◌, ◌%◌, ◌^◌, max, min, nat_eq, nat_lt, List, [], ◌∷◌, ◌++◌, length, Option, Some, None, if◌then◌else◌}
use Rattle.std.specs.Map.{lookup}
use Rattle.indexmap.specs.IndexMap.{insert_entry}
use Rattle.ndc_domain.specs.Clusters.{ClusterList, writer_of}
use Rattle.ndc_domain.specs.declared.clusters.ClusterNo.{ClusterNo}
use Rattle.ndc_event.specs.declared.batch.Batch.{Batch}
use Rattle.ndc_event.specs.declared.key.BatchKey.{BatchKey}
use Rattle.ndc_model_sets.specs.Sets.{earlier_of}
use Rattle.ndc_explain_picture.specs.Blocks.{kinds_of, summary_of}
use Rattle.ndc_explain_picture.specs.declared.layout.Head.{Head}
use Rattle.ndc_explain_picture.specs.declared.layout.Lane.{Lane}
use Rattle.ndc_explain_picture.specs.declared.places.Place.{Place}
use Rattle.ndc_explain.specs.declared.summary.Summary.{Summary}
use Rattle.ndc_explain_picture.specs.Places.{Placed, bottom_of, nothing_placed, place_at, with_batches}

-- the places of blocks, and the lanes: the number of the last one, where it begins and where its last block ends; where the lane at the right begins;
-- where the deepest block ends; the heads of lanes; and where each lane begins and ends
pub record Layouted : Type 0 where
  pub number : ℕ
  pub left : ℕ
  pub bottom : ℕ
  pub right : ℕ
  pub depth : ℕ
  pub heads : List Head
  pub lanes : List (ℕ × Lane)
  pub places : Placed

-- the sum of two lengths; the greatest that can be told where it is longer
abbrev pub plus : ℕ → ℕ → ℕ
plus one two = min (one + two) (2 ^ 64 - 1)

-- how many lines a block has below its key and its run, for so many events: one each, and after six of them one more
abbrev pub lines_for : ℕ → ℕ
lines_for events = if nat_lt 6 events then 7 else events

-- how high a block of so many events is
abbrev pub height_for : ℕ → ℕ
height_for events = 46 + lines_for events * 15

-- the number of the lane of a version: the initial version of the cluster that writes with it, or the version itself where none is known
abbrev pub lane_by : Option ClusterNo → ClusterList → ℕ → ℕ
lane_by None clusters version = version
lane_by (Some cluster) clusters version = version % clusters.increment

unfoldable pub lane_number : Option ClusterList → ℕ → ℕ
lane_number None version = version
lane_number (Some clusters) version = lane_by (writer_of clusters version) clusters version

-- in this lane, or in a new one at the right, which gets the version as its head
abbrev pub in_lane : ℕ → ℕ → Option Lane → Layouted → Layouted
in_lane number version (Some lane) now =
    record { number = number; left = lane.left; bottom = lane.bottom; right = now.right; depth = now.depth; heads = now.heads; lanes = now.lanes; places = now.places }
in_lane number version None now =
    record {
      number = number;
      left = plus now.right 340;
      bottom = 40;
      right = plus now.right 340;
      depth = now.depth;
      heads = now.heads ++ record { version = version; left = plus now.right 340 } ∷ [];
      lanes = now.lanes;
      places = now.places;
    }

-- in the lane of a version
abbrev pub lane_of : Option ClusterList → ℕ → Layouted → Layouted
lane_of clusters version now = in_lane (lane_number clusters version) version (lookup (nat_eq (lane_number clusters version)) now.lanes) now

-- where a block of this height goes: below what is in the lane and below the block of the earlier batch
abbrev pub top_for : Option BatchKey → Layouted → ℕ
top_for earlier now = plus (max now.bottom (bottom_of (place_at earlier now.places))) 28

abbrev pub place_for : Option BatchKey → ℕ → Layouted → Place
place_for earlier height now = record { left = now.left; top = top_for earlier now; bottom = plus (top_for earlier now) height }

-- with a block at this place
abbrev pub with_place : List Batch → Place → Layouted → Layouted
with_place block place now = record {
  number = now.number;
  left = now.left;
  bottom = place.bottom;
  right = now.right;
  depth = max now.depth place.bottom;
  heads = now.heads;
  lanes = insert_entry nat_eq now.lanes now.number (record { left = now.left; bottom = place.bottom });
  places = with_batches place block now.places;
}

-- with a block in the lane
abbrev pub with_laid : List Batch → Summary → Layouted → Layouted
with_laid block summary now = with_place block (place_for (earlier_of summary.parent summary.carrier) (height_for (length (kinds_of block))) now) now

-- with a block in the lane of its version
abbrev pub with_block : Option ClusterList → List Batch → Option Summary → Layouted → Layouted
with_block clusters block None now = now
with_block clusters block (Some summary) now = with_laid block summary (lane_of clusters summary.first.version now)

abbrev pub with_blocks : Option ClusterList → List (List Batch) → Layouted → Layouted
with_blocks clusters [] now = now
with_blocks clusters (block ∷ blocks) now = with_blocks clusters blocks (with_block clusters block (summary_of block) now)

-- no lane yet
abbrev pub no_lane : Layouted
no_lane = record { number = 0; left = 0; bottom = 0; right = 0; depth = 0; heads = []; lanes = []; places = nothing_placed }

-- the layout of blocks
abbrev pub layout_of : Option ClusterList → List (List Batch) → Layouted
layout_of clusters blocks = with_blocks clusters blocks no_lane

-- how wide and how high a picture of this layout is
abbrev pub width_of : Layouted → ℕ
width_of layout = plus layout.right 330

abbrev pub depth_of : Layouted → ℕ
depth_of layout = plus (max layout.depth 180) 20

-- whether a block has a place
abbrev pub is_placed : Placed → List Batch → Bool
is_placed places [] = true
is_placed places (b ∷ block) = is_some (place_at (Some b.key) places)
