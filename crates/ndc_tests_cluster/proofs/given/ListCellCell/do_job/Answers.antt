use Rattle.std.proofs.Common.{◌≡◌, ◌∙◌, List, [], refl, sym, subst, ap}
use Rattle.ndc_event.specs.declared.batch.Batch.{Batch}
use Rattle.ndc_model_cells.specs.Cells.{Cell}
use Rattle.ndc_model_cells.specs.Jobs.{after_job, learned_in, outcome_of, reply_to}
use Rattle.ndc_model_cells.specs.Writing.{Desk}
use Rattle.ndc_model_cells.specs.declared.job.Job.{Job}
use Rattle.ndc_model_cells.specs.declared.job.Job.TheVariants.{Reapply}
use Rattle.ndc_model_cells.specs.declared.job.JobReply.{JobReply}
use Rattle.ndc_model_cells.specs.declared.job.Outcome.TheVariants.{Reapplied}
use Rattle.ndc_model_cells.specs.declared.message.Message.{Message}
use Rattle.ndc_tests_cluster.proofs.given.ListCellCell.do_job.Goals as goal

-- a cell in which nothing has arrived
abbrev empty : List Message → Cell
empty written = record { arrived = []; written = written; waiting = [] }

-- it has nothing to apply again
stays : (home : Desk) (written : List Message) → empty written ≡ after_job home Reapply (empty written)
unfolding after_job
stays home written = refl

replies : (home : Desk) (written : List Message) → record { outcome = Reapplied 0; learned = [] } ≡ reply_to home Reapply (empty written)
unfolding outcome_of learned_in
replies home written = refl

pub returns-in-Reapply-clause-done : goal.returns-in-Reapply-clause-done
returns-in-Reapply-clause-done c =
    subst (λ (job : Job). empty c.args.self.now.written.items ≡ after_job c.args._desk.now job (empty c.args.self.now.written.items)) (sym c.in-Reapply.is) (stays c.args._desk.now c.args.self.now.written.items)

pub returns-in-Reapply-clause-reply : goal.returns-in-Reapply-clause-reply
returns-in-Reapply-clause-reply c =
    ap (λ (learned : List Batch). record { outcome = Reapplied 0; learned = learned }) (c.new-in-Reapply.ensures ∙ c.new.ensures.items)
    ∙ subst (λ (job : Job). record { outcome = Reapplied 0; learned = [] } ≡ reply_to c.args._desk.now job (empty c.args.self.now.written.items)) (sym c.in-Reapply.is) (replies c.args._desk.now c.args.self.now.written.items)
