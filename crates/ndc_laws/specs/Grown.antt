-- Tables that have grown from one world to another.
use Rattle.std.specs.Prelude.{List}
use Rattle.ndc_script_types.specs.WellFormed.{IsWellFormedAct}
use Rattle.ndc_script_types.specs.declared.script.Header.{Header}
use Rattle.ndc_script_types.specs.declared.script.Line.{Line}
use Rattle.ndc_domain.specs.declared.clusters.ClusterNo.{ClusterNo}
use Rattle.ndc_laws_reached.specs.Tables.{TableGrows}
use Rattle.ndc_model.specs.Lines.{ran_from, world_behind}
use Rattle.ndc_model.specs.World.{World, cluster_at}

-- each cluster's table has grown from one world to another
abbrev pub TablesGrow : World → World → Type 0
TablesGrow w v = (cluster : ClusterNo) → TableGrows (cluster_at cluster w).table (cluster_at cluster v).table

-- a line that is well-formed
abbrev pub IsWellFormedLine : Header → Line → Type 0
IsWellFormedLine header line = IsWellFormedAct header line.act

-- the world that these lines lead to, run one after the other
abbrev pub world_after : Header → List Line → World → World
world_after header more w = world_behind w (ran_from header w more)
