use Rattle.std.proofs.Common.{List, sym, ◌∙◌, ap}
use Rattle.ndc_model.specs.Again.{served_by_author}
use Rattle.ndc_model_cells.specs.declared.message.Message.{Message}
use Rattle.ndc_resend.specs.Bringing.{asked_from}
use Rattle.ndc_resend.proofs.OrderLemmas.{asked_last}
use Rattle.ndc_world_replication.proofs.replication.Replication.ask_all.Goals as goal

pub loop-gap-preserved : goal.loop-gap-preserved
loop-gap-preserved g c = (
  ap (λ (l : List Message). asked_from (served_by_author c.args.header.now c.args.shard c.args.self.now) l c.pop.new.self.items) c.in_ok-ask_for.ensures.asked
      ∙ sym (asked_last (served_by_author c.args.header.now c.args.shard c.args.self.now) c.loop-gap.messages.items c.loop-gap.left.items c.pop.new.self.items c.in-Some.gap c.in-Some.ensures.items)
      ∙ c.loop-gap.invariant.0,
  c.in_ok-ask_for.ensures.keys,
)
