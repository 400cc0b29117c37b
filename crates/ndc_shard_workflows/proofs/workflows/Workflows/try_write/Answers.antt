use Rattle.std.specs.Option.{option_copied}
use Rattle.ndc_model_cells.specs.Writing.{Entry}
use Rattle.ndc_shard_workflows.proofs.HoldLemmas.{hold-either}
use Rattle.ndc_shard_workflows.proofs.RecountLemmas.{counted-either}
use Rattle.ndc_shard_workflows.proofs.WaitLemmas.{behind-either}
use Rattle.ndc_shard_workflows.proofs.workflows.Workflows.try_write.Goals as goal

pub invariant_of-self : goal.invariant_of-self
invariant_of-self g c =
    let b = c.args.batch.now in
    let entry : Entry = record { batch = b; second = option_copied c.args.second } in (
      hold-either entry c.self.inside.domains c.is_in_order.ensures.cell (c.is_in_order.ensures.workflows b.domain b.workflow) c.write.result c.self.inside.due c.write.new.due c.write.new.self
          c.write.ensures.may c.write.ensures.ok c.write.ensures.err c.self.invariant.0 c.write.ensures.listed c.write.ensures.kept,
      behind-either entry c.self.inside.domains c.write.result c.self.inside.behind c.write.new.self c.write.ensures.ok c.write.ensures.err c.self.invariant.1,
      counted-either entry c.self.inside.domains c.write.result c.self.inside.waiting c.write.new.self c.write.ensures.ok c.write.ensures.err c.self.invariant.2,
    )
