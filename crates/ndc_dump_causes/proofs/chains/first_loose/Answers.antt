use Rattle.std.proofs.Common.{None, sym, ap, ◌∙◌}
use Rattle.std.specs.Map.{lookup}
use Rattle.ndc_model_sets.specs.Branches.{same_run}
use Rattle.ndc_dump_causes.specs.Chains.{first_loose, is_loose}
use Rattle.ndc_dump_causes.proofs.Chained.{loose-now, next-last}
use Rattle.ndc_dump_causes.proofs.chains.first_loose.Goals as goal

pub returns-then-is_loose : goal.returns-then-is_loose
returns-then-is_loose c =
    let b = c.batch-item.result in
    loose-now c.args.batches.now c.loop-batch.batch-index b (λ run. lookup (same_run run) c.loop-batch.last) (first_loose (λ run. None) c.args.batches.now) c.loop-batch-test.true c.batch-item.is c.loop-batch.invariant
    (ap (λ o. is_loose o b) (sym c.get.ensures) ∙ sym c.is_loose.ensures ∙ c.if-is_loose.true)

pub loop-batch-preserved : goal.loop-batch-preserved
loop-batch-preserved c =
    let b = c.batch-item.result in
    next-last c.args.batches.now c.loop-batch.batch-index b c.loop-batch.last c.put.new.self (first_loose (λ run. None) c.args.batches.now) c.loop-batch-test.true c.batch-item.is c.loop-batch.invariant
    (ap (λ o. is_loose o b) (sym c.get.ensures) ∙ sym c.is_loose.ensures ∙ c.if-is_loose.false) c.in_ok-put.ensures
