use Rattle.std.proofs.Common.{Some, ◌∙◌, ap, cond}
use Rattle.ndc_event.specs.Key.{key_eq}
use Rattle.ndc_model_sets.proofs.KeyOrder.{key_cmp-by}
use Rattle.ndc_shard_waiting.proofs.ShortcutLemmas.{shortcut-changed}
use Rattle.ndc_shard_workflows.specs.Messages.{lesser, noted_at}
use Rattle.ndc_shard_workflows.proofs.CarriedLemmas.{noted}
use Rattle.ndc_shard_workflows.proofs.carried.Carried.note.Goals as goal

pub returns : goal.returns
returns c =
    noted c.args.workflow.now.arrived c.args.batch.now c.in-Some.carrier c.lesser-least.result c.args.self.now c.insert.new.self.entries c.in-Some.ensures
    (c.lesser-least.ensures ∙ ap (lesser c.args.batch.now.key) c.get.ensures)
    (λ one. shortcut-changed _ key_cmp-by c.in-Some.carrier (Some c.lesser-least.result) c.self.inside.map.entries c.insert.new.self.entries c.in_ok-insert.ensures.updates.0 one
    ∙ ap (λ l. cond (key_eq c.in-Some.carrier one) (Some c.lesser-least.result) (noted_at one l)) c.self.view_is)
