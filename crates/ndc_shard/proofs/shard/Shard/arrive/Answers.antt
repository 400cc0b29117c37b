use Rattle.std.proofs.Common.{subst, sym}
use Rattle.ndc_model_cells.specs.Allowed.{MayArrive}
use Rattle.ndc_model_cells.specs.declared.message.Message.{Message}
use Rattle.ndc_shard.proofs.KeepingLemmas.{can-arrive}
use Rattle.ndc_shard.proofs.shard.Shard.arrive.Goals as goal

pub take_in-requires : goal.take_in-requires
take_in-requires g c =
    subst (λ (m : Message). MayArrive m c.args.self.now) (sym c.in_ok-try_copy.ensures) (can-arrive c.args.message.now c.args.self.now c.is_in_order.ensures.cell c.is_in_order.ensures.carried c.requires)
