use Rattle.std.proofs.Common.{◌≡◌, Option, IfOk, sym, subst}
use Rattle.ndc_model_cells.specs.declared.message.Message.{Message}
use Rattle.ndc_model_sets.specs.Learned.{learned}
use Rattle.ndc_model_sets.specs.Sound.{IsSound}
use Rattle.ndc_model_cells.specs.Workflow.{WorkflowValue}
use Rattle.ndc_shard_workflows.proofs.PlaceLemmas.{place-is}
use Rattle.ndc_shard_workflows.proofs.cell.message_there.Goals as goal

pub message_in-requires : goal.message_in-requires
message_in-requires c = subst (λ (w : WorkflowValue). IsSound (learned w.arrived)) (sym c.in-Some.ensures.found) c.in-Some.ensures.sound

pub returns-in-Some : goal.returns-in-Some
returns-in-Some c =
    subst (λ (m : Option Message). IfOk c.message_in.result (λ message. message ≡ m))
    (place-is c.args.workflows.now (record { domain = c.args.domain.now; workflow = c.args.workflow.now; key = c.args.key }) c.in-Some.found.now c.in-Some.ensures.found) c.message_in.ensures
