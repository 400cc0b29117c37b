use Rattle.std.proofs.Common.{◌≡◌, ◌<◌, ◌∙◌, List, length, ap, sym, subst}
use Rattle.ndc_cluster.specs.Homes.{HomeValue, desk_of}
use Rattle.ndc_model_cells.specs.Writing.{Desk, reset_at}
use Rattle.ndc_model_cells.specs.Allowed.{MayBeAsked}
use Rattle.ndc_event.specs.declared.batch.Batch.{Batch}
use Rattle.ndc_shard.proofs.KeepingLemmas.{can-reset}
use Rattle.ndc_shard.proofs.ReplyLemmas.{keys-kept}
use Rattle.ndc_shard.proofs.shard.Shard.reset.Goals as goal

pub write_reset-requires : goal.write_reset-requires
write_reset-requires g c =
    let same : c.new-desk.result ≡ desk_of c.args.home.now c.args.table.now = c.new-desk.ensures ∙ ap (λ (h : HomeValue). desk_of h c.args.table.now) c.home.view_is in
    subst (λ (d : Desk). MayBeAsked d c.args.domain.now c.args.workflow.now (reset_at d c.args.domain.now c.args.workflow.now c.args.event c.args.self.now) c.args.self.now) (sym same)
    (can-reset (desk_of c.args.home.now c.args.table.now) c.args.domain.now c.args.workflow.now c.args.self.now c.is_in_order.ensures.cell (c.is_in_order.ensures.workflows c.args.domain.now c.args.workflow.now) c.requires c.args.event)

pub returns-clause-unchanged : goal.returns-clause-unchanged
returns-clause-unchanged g c =
    keys-kept _ c.as_slice.result.now (subst (λ (l : List Batch). 0 < length l) (sym c.as_slice.ensures) c.in_ok-batches.ensures.some) c.keys_of.result c.keys_of.ensures
