-- What must hold so that cells may do jobs.
use Rattle.std.specs.Prelude.{List, [], ◌∷◌}
use Rattle.ndc_model_cells.specs.declared.job.Job.{Job}
use Rattle.ndc_model_cells.specs.declared.job.ShardJob.{ShardJob}
use Rattle.ndc_model_cells.specs.Cells.{Cell}
use Rattle.ndc_model_cells.specs.Jobs.{after_job, cell_for, cells_behind}
use Rattle.ndc_model_cells.specs.Writing.{Desk}

-- what a cell must be so that it may be asked to do a job
abbrev pub Condition : Type 1
Condition = Desk → Job → Cell → Type 0

-- the condition of each job holds of the cells that the jobs before it leave
abbrev pub AreAllowed : Condition → Desk → List ShardJob → List Cell → Type 0
AreAllowed allows home [] cells = Unit {0}
AreAllowed allows home (asked ∷ jobs) cells = allows home asked.job (cell_for asked.shard cells) × AreAllowed allows home jobs (cells_behind home asked cells)

-- the condition of each job holds of the cell that the jobs before it leave
abbrev pub MayDo : Condition → Desk → List Job → Cell → Type 0
MayDo allows home [] cell = Unit {0}
MayDo allows home (asked ∷ jobs) cell = allows home asked cell × MayDo allows home jobs (after_job home asked cell)
