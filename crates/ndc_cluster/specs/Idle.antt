-- Cells that have nothing to apply again.
use Rattle.std.specs.Prelude.{◌≡◌, []}
use Rattle.ndc_model_cells.specs.declared.job.Job.TheVariants.{Reapply}
use Rattle.ndc_model_cells.specs.declared.job.JobReply.{JobReply}
use Rattle.ndc_model_cells.specs.declared.job.Outcome.TheVariants.{Reapplied}
use Rattle.ndc_model_cells.specs.Cells.{Cell}
use Rattle.ndc_model_cells.specs.Jobs.{after_job, reply_to}
use Rattle.ndc_model_cells.specs.Writing.{Desk}

-- the reply of a cell that has applied nothing again
abbrev pub idle_reply : JobReply
idle_reply = record { outcome = Reapplied 0; learned = [] }

-- a cell that applies nothing again where it is asked to: it stays as it is, and its reply tells nothing
pub record IsIdle (desk : Desk) (cell : Cell) : Type 0 where
  pub stays : after_job desk Reapply cell ≡ cell
  pub reply : reply_to desk Reapply cell ≡ idle_reply
