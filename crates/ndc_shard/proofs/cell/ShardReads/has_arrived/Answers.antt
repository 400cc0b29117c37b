use Rattle.std.proofs.Common.{sym, ◌∙◌, ap}
use Rattle.ndc_shard_workflows.specs.Workflow.{has_arrived}
use Rattle.ndc_model_cells.specs.Workflow.{workflow_of}
use Rattle.ndc_shard.proofs.ReadingLemmas.{arrived-there}
use Rattle.ndc_shard.proofs.cell.ShardReads.has_arrived.Goals as goal

pub returns-in-Some : goal.returns-in-Some
returns-in-Some c =
    c.has_arrived.ensures ∙ ap (has_arrived c.args.key) (c.in-Some.ensures.found ∙ ap (workflow_of c.args.domain.now c.args.workflow.now) c.held.ensures)
    ∙ arrived-there c.args.domain.now c.args.workflow.now c.args.key c.args.self.now

pub returns-in-None : goal.returns-in-None
returns-in-None c =
    ap (has_arrived c.args.key) (sym c.in-None.ensures.none ∙ ap (workflow_of c.args.domain.now c.args.workflow.now) c.held.ensures)
    ∙ arrived-there c.args.domain.now c.args.workflow.now c.args.key c.args.self.now
