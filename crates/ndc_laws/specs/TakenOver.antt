-- Progress reports that are taken over from several clusters.
use Rattle.std.specs.Prelude.{List, [], ◌∷◌}
use Rattle.std.specs.List.{IsAmong}
use Rattle.ndc_script_types.specs.declared.script.Act.TheVariants as act
use Rattle.ndc_script_types.specs.declared.script.Header.{Header}
use Rattle.ndc_domain.specs.declared.clusters.ClusterNo.{ClusterNo}
use Rattle.ndc_model.specs.Lines.{act_step}
use Rattle.ndc_model.specs.World.{World}

-- the world in which a cluster has taken over the reports of others, one after the other
abbrev pub synced : Header → ClusterNo → List ClusterNo → World → World
synced header to [] w = w
synced header to (from ∷ others) w = synced header to others (act_step header (act.Sync to from) w).world

-- two lists have the same clusters, in whatever order and however often
pub record HaveTheSameClusters (one two : List ClusterNo) : Type 0 where
  pub there : (cluster : ClusterNo) → IsAmong one cluster → IsAmong two cluster
  pub back : (cluster : ClusterNo) → IsAmong two cluster → IsAmong one cluster
