use Rattle.std.proofs.Common.{refl, ◌∙◌}
use Rattle.ndc_model_cells.specs.Jobs.{workflows_of}
use Rattle.ndc_shard_workflows.proofs.FrontLemmas.{first-of-all, none-first}
use Rattle.ndc_shard_workflows.proofs.ListLemmas.{may-all, reapplied-all, written-all}
use Rattle.ndc_shard_workflows.proofs.ResultLemmas.{on-any-err}
use Rattle.ndc_shard.proofs.shard.Shard.apply_again.Goals as goal

pub reapply_among-requires : goal.reapply_among-requires
reapply_among-requires g c = may-all c.args.desk.now c.in_ok-list.list.items c.args.self.now c.is_in_order.ensures.cell.ordered c.in_ok-list.ensures c.requires

pub returns-clause-cell : goal.returns-clause-cell
returns-clause-cell g c = c.in_ok-batches.ensures.cell ∙ reapplied-all c.args.desk.now c.in_ok-list.list.items c.args.self.now c.is_in_order.ensures.cell.ordered c.in_ok-list.ensures

pub returns-clause-batches : goal.returns-clause-batches
returns-clause-batches g c = c.in_ok-batches.ensures.batches ∙ written-all c.args.desk.now c.in_ok-list.list.items c.args.self.now c.is_in_order.ensures.cell.ordered c.in_ok-list.ensures

pub returns-in_err-list-clause-err : goal.returns-in_err-list-clause-err
returns-in_err-list-clause-err g c = on-any-err c.from_residual.result (none-first c.args.desk.now (workflows_of c.args.self.now.arrived) c.args.self.now c.args.self.now refl)

pub returns-in_err-batches-clause-err : goal.returns-in_err-batches-clause-err
returns-in_err-batches-clause-err g c =
    on-any-err c.from_residual-in_err-batches.result
    (first-of-all c.args.desk.now c.in_ok-list.list.items c.args.self.now c.is_in_order.ensures.cell.ordered c.in_ok-list.ensures c.reapply_among.new.self c.in_err-batches.ensures.err)
