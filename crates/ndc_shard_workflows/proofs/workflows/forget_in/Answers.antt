use Rattle.std.proofs.Common.{length, sym, ◌∙◌, ap, arith}
use Rattle.ndc_model_cells.specs.Cells.{Cell}
use Rattle.ndc_shard_workflows.proofs.RecountLemmas.{forgotten-fewer, forgotten-others, recounted}
use Rattle.ndc_shard_workflows.proofs.workflows.forget_in.Goals as goal

pub lowered-requires-clause-fewer : goal.lowered-requires-clause-fewer
lowered-requires-clause-fewer c =
    let fewer = forgotten-fewer c.args.domain.now c.args.workflow.now c.args.key c.args.domains.now c.forget.new.self c.in_ok-dropped.ensures.ok in
    let one = c.count_in-waits.ensures in
    let two = c.waited_in-waited.ensures.own in
    omega (arith, fewer, one, two)

pub returns-clause-counted : goal.returns-clause-counted
returns-clause-counted c =
    let d = c.args.domain.now in
    let w = c.args.workflow.now in
    recounted d w c.args.domains.now c.forget.new.self (forgotten-others d w c.args.key c.args.domains.now c.forget.new.self c.in_ok-dropped.ensures.ok)
    c.args.waiting.now c.waited_in-waited.result c.count_in-waits.result _ c.requires.counted c.waited_in-waited.ensures.own c.count_in-waits.ensures c.lowered.ensures

pub returns-in_err-dropped-clause-counted : goal.returns-in_err-dropped-clause-counted
returns-in_err-dropped-clause-counted c = c.requires.counted ∙ sym (ap (λ (cell : Cell). length cell.waiting) c.in_err-dropped.ensures.err)
