-- Clusters that keep no progress reports, with what each of them holds of activities beside them.
use Rattle.std.specs.Prelude.{◌≡◌, ℕ, List, map}
use Rattle.ndc_script_types.specs.declared.script.Header.{Header}
use Rattle.ndc_script_types.specs.declared.script.Line.{Line}
use Rattle.ndc_index.specs.declared.seen.Seen.{Seen}
use Rattle.ndc_model.specs.Lines.{answers_of, ran_from, seen_in, world_behind}
use Rattle.ndc_model.specs.Steps.{Stepped}
use Rattle.ndc_model.specs.World.{World}
use Rattle.ndc_progress.specs.Reports.{greatest_of}
use Rattle.ndc_progress.specs.declared.report.Report.{Report}
use Rattle.ndc_model.specs.Bare.{bare}

-- all progress reports of each cluster
abbrev pub reports_of : World → List (List Report)
reports_of w = map (λ cluster. cluster.reports) w.clusters

-- clusters without reports represent a world, with the greatest report of each activity that each cluster of it has
pub record StandFor (v : World) (held : List (List Report)) (w : World) : Type 0 where
  pub clusters : v ≡ bare w
  pub reports : held ≡ map greatest_of (reports_of w)

-- they are as a line leaves the world that they represented, and tell what it tells
pub record IsLeftBy (step : Stepped) (v : World) (held : List (List Report)) (told : List ℕ) (shown : List Seen) : Type 0 where
  pub stands : StandFor v held step.world
  pub answer : told ≡ step.answer
  pub seen : shown ≡ step.seen

-- lines that are not on reports, one after the other, are as they are from the world for which they stood
pub record AreLeftBy (header : Header) (lines : List Line) (v : World) (reports : List (List Report)) (w : World) : Type 0 where
  pub stands : StandFor (world_behind v (ran_from header v lines)) reports (world_behind w (ran_from header w lines))
  pub answers : answers_of (ran_from header v lines) ≡ answers_of (ran_from header w lines)
  pub seen : seen_in (ran_from header v lines) ≡ seen_in (ran_from header w lines)
