-- Progress reports, and the lines that told them.
use Rattle.std.specs.Prelude.{◌≡◌, List, [], ◌∷◌, ◌++◌, Some}
use Rattle.ndc_script_types.specs.declared.script.Act.{Act}
use Rattle.ndc_script_types.specs.declared.script.Act.TheVariants as act
use Rattle.ndc_script_types.specs.declared.script.Header.{Header}
use Rattle.ndc_script_types.specs.declared.script.Line.{Line}
use Rattle.ndc_domain.specs.Clusters.{writer_of}
use Rattle.ndc_domain.specs.declared.clusters.ClusterNo.{ClusterNo}
use Rattle.ndc_event.specs.declared.name.Name.{Name}
use Rattle.ndc_laws.specs.Grown.{world_after}
use Rattle.ndc_model.specs.Lines.{act_step}
use Rattle.ndc_model.specs.World.{World, cluster_at, opening_world}
use Rattle.ndc_progress.specs.declared.report.Report.{Report}

-- a line that asks for this, from one world to another, told a report: it is a `beat` of the cluster that writes with the report's version, and
-- puts the report after those of the cluster
pub record Tells (header : Header) (asked : Act) (w v : World) (report : Report) : Type 0 where
  pub cluster : ClusterNo
  pub domain : Name
  pub workflow : Name
  pub id : Name
  pub details : Name
  pub asks : asked ≡ act.Beat cluster domain workflow id details
  pub writes : writer_of header.clusters report.version ≡ Some cluster
  pub puts : (cluster_at cluster v).reports ≡ (cluster_at cluster w).reports ++ report ∷ []

-- one of these lines, run from the opening world on, told the report
pub record WasTold (header : Header) (lines : List Line) (report : Report) : Type 0 where
  pub front : List Line
  pub back : List Line
  pub told : Line
  pub parts : lines ≡ front ++ told ∷ back
  pub tells : Tells header told.act (world_after header front (opening_world header)) (act_step header told.act (world_after header front (opening_world header))).world report
