-- Jobs under a condition that holds of all.
use Rattle.std.proofs.Common.{List, [], ◌∷◌}
use Rattle.ndc_model_cells.specs.Cells.{Cell}
use Rattle.ndc_model_cells.specs.Writing.{Desk}
use Rattle.ndc_model_cells.specs.declared.job.Job.{Job}
use Rattle.ndc_model_cells.specs.declared.job.ShardJob.{ShardJob}
use Rattle.ndc_model_cells.specs.Jobs.{cells_behind}
use Rattle.ndc_model_cells.specs.Conditions.{AreAllowed, Condition}

pub all_allowed : (allows : Condition) (home : Desk) → ((job : Job) (cell : Cell) → allows home job cell) → (jobs : List ShardJob) (cells : List Cell) → AreAllowed allows home jobs cells
all_allowed allows home all [] cells = tt {0}
all_allowed allows home all (asked ∷ jobs) cells = (all _ _, all_allowed allows home all jobs (cells_behind home asked cells))
