use Rattle.std.proofs.Common.{◌≡◌, ◌∙◌, ap, sym, subst}
use Rattle.ndc_cluster.specs.Homes.{HomeValue, desk_of}
use Rattle.ndc_model_cells.specs.Allowed.{MayReapply}
use Rattle.ndc_model_cells.specs.Jobs.{workflows_of}
use Rattle.ndc_model_cells.specs.Writing.{Desk}
use Rattle.ndc_shard_workflows.specs.Reapplied.{IsReappliedInFirst}
use Rattle.ndc_shard_workflows.proofs.FrontLemmas.{whole-first}
use Rattle.ndc_shard_workflows.proofs.ResultLemmas.{on-any-err}
use Rattle.ndc_shard.proofs.KeepingLemmas.{can-reapply}
use Rattle.ndc_shard.proofs.shard.Shard.reapply.Goals as goal

pub apply_again-requires : goal.apply_again-requires
apply_again-requires g c =
    let same : c.new-desk.result ≡ desk_of c.args.home.now c.args.table.now = c.new-desk.ensures ∙ ap (λ (h : HomeValue). desk_of h c.args.table.now) c.home.view_is in
    subst (λ (d : Desk). MayReapply d (workflows_of c.args.self.now.arrived) c.args.self.now) (sym same)
    (can-reapply (desk_of c.args.home.now c.args.table.now) c.args.self.now c.is_in_order.ensures.cell c.is_in_order.ensures.workflows c.requires)

pub returns-in_err-batches-clause-err : goal.returns-in_err-batches-clause-err
returns-in_err-batches-clause-err g c =
    let same : c.new-desk.result ≡ desk_of c.args.home.now c.args.table.now = c.new-desk.ensures ∙ ap (λ (h : HomeValue). desk_of h c.args.table.now) c.home.view_is in
    on-any-err c.from_residual.result
    (subst (λ (d : Desk). IsReappliedInFirst d (workflows_of c.args.self.now.arrived) c.args.self.now c.apply_again.new.self) same c.in_err-batches.ensures.err)

pub returns-clause-err : goal.returns-clause-err
returns-clause-err g c =
    let same : c.new-desk.result ≡ desk_of c.args.home.now c.args.table.now = c.new-desk.ensures ∙ ap (λ (h : HomeValue). desk_of h c.args.table.now) c.home.view_is in
    on-any-err c.places_of.result
    (subst (λ (d : Desk). IsReappliedInFirst d (workflows_of c.args.self.now.arrived) c.args.self.now c.apply_again.new.self) same
    (whole-first c.new-desk.result (workflows_of c.args.self.now.arrived) c.args.self.now c.apply_again.new.self c.in_ok-batches.ensures.cell))
