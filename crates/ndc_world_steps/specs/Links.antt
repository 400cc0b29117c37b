-- What a reader has of a source, where it has anything, and open handovers.
use Rattle.std.specs.Prelude.{◌≡◌, Bool, false, ◌&&◌, length, List, [], map, Option, Some, None}
use Rattle.ndc_event.specs.declared.name.Name.{Name}
use Rattle.ndc_queue.specs.Levels.{LevelPair}
use Rattle.ndc_script_types.specs.WellFormed.{AreTwoClusters}
use Rattle.ndc_script_types.specs.declared.script.Header.{Header}
use Rattle.ndc_model_cells.specs.Writing.{same_cluster}
use Rattle.ndc_domain.specs.declared.clusters.ClusterNo.{ClusterNo}
use Rattle.ndc_graceful.specs.declared.handover.Handover.{Handover}
use Rattle.ndc_model.specs.Handovers.{is_handover_of}
use Rattle.ndc_model.specs.World.{Link, is_late_in}

-- its levels, by shard
abbrev pub levels_by : Option Link → List LevelPair
levels_by None = []
levels_by (Some link) = map (λ lane. lane.levels) link.lanes

-- whether a domain is one of those that it still lacks
abbrev pub is_late_by : Name → Option Link → Bool
is_late_by domain None = false
is_late_by domain (Some link) = is_late_in domain link

-- whether a handover is of a domain, and to a target
abbrev pub is_handover_to : ClusterNo → Name → Handover → Bool
is_handover_to target domain handover = is_handover_of domain handover && same_cluster handover.to target

-- a handover is between two clusters of the header, and has a place for each shard
pub record IsBetween (header : Header) (handover : Handover) : Type 0 where
  pub clusters : AreTwoClusters header handover.from handover.to
  pub places : length handover.places ≡ header.shards
