-- Worlds without what was told of activities.
use Rattle.std.specs.Prelude.{Bool, true, false, [], map}
use Rattle.ndc_script_types.specs.declared.script.Act.{Act}
use Rattle.ndc_script_types.specs.declared.script.Act.TheVariants as act
use Rattle.ndc_model.specs.Moves.{Trace}
use Rattle.ndc_model.specs.Steps.{Stepped}
use Rattle.ndc_model.specs.World.{Cluster, World}

-- a cluster without its progress reports
abbrev pub bare_cluster : Cluster → Cluster
bare_cluster cluster = record cluster { reports = [] }

-- a world without any progress report
abbrev pub bare : World → World
bare w = record w { clusters = map bare_cluster w.clusters }

-- the same of a world with the jobs that led to it
abbrev pub bare_trace : Trace → Trace
bare_trace t = record t { world = bare t.world }

-- the same of what a line leaves and answers
abbrev pub bare_step : Stepped → Stepped
bare_step step = record step { world = bare step.world }

-- whether a line tells of activities, takes reports over or shows one
abbrev pub is_on_reports : Act → Bool
is_on_reports (act.Beat cluster domain workflow id details) = true
is_on_reports (act.Sync to from) = true
is_on_reports (act.ProgressOf cluster domain workflow id) = true
is_on_reports _ = false
