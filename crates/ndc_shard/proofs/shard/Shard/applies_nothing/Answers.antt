use Rattle.std.proofs.Common.{[], subst, sym}
use Rattle.ndc_model_cells.specs.Cells.{Cell}
use Rattle.ndc_model_cells.specs.Places.{AreInOrder}
use Rattle.ndc_shard_workflows.specs.Due.{AreDue}
use Rattle.ndc_shard_workflows.proofs.ListLemmas.{due-are, reapplied-all, written-all}
use Rattle.ndc_shard.proofs.AgainLemmas.{due-same}
use Rattle.ndc_shard.specs.Sent.{messages_at}
use Rattle.ndc_shard.proofs.shard.Shard.applies_nothing.Goals as goal

pub returns-clause-cell : goal.returns-clause-cell
returns-clause-cell c is desk =
    sym (reapplied-all desk [] c.args.self.now (subst (λ (cell : Cell). AreInOrder cell.arrived) c.self.view_is c.has_none_due.ensures.cell.ordered)
    (due-are desk [] c.args.self.now
    (subst (AreDue []) c.self.view_is (due-same (messages_at c.self.inside.places.items c.self.inside.workflows) [] c.self.inside.workflows (c.has_none_due.ensures.none is)))))

pub returns-clause-batches : goal.returns-clause-batches
returns-clause-batches c is desk =
    sym (written-all desk [] c.args.self.now (subst (λ (cell : Cell). AreInOrder cell.arrived) c.self.view_is c.has_none_due.ensures.cell.ordered)
    (due-are desk [] c.args.self.now
    (subst (AreDue []) c.self.view_is (due-same (messages_at c.self.inside.places.items c.self.inside.workflows) [] c.self.inside.workflows (c.has_none_due.ensures.none is)))))
