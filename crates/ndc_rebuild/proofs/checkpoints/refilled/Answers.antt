use Rattle.std.proofs.Common.{◌≡◌, ◌+◌, ◌++◌, List, map, drop, ap, sym, subst, ◌∙◌}
use Rattle.ndc_event.specs.declared.batch.Event.{Event}
use Rattle.ndc_state.specs.Replay.{history_of, collected}
use Rattle.ndc_rebuild.proofs.PathLemmas.{lent-drop, refilled-batch}
use Rattle.ndc_rebuild.proofs.checkpoints.refilled.Goals as goal

-- the origins of the batch at the place are listed
pub loop-batch-preserved : goal.loop-batch-preserved
loop-batch-preserved c =
    let batches = map (λ b. b.now) c.args.batches.now in
    let copy = c.loop-batch.copy in
    let rest = history_of (drop (c.loop-batch.batch-index + 1) batches) in
    let hist : history_of (drop c.loop-batch.batch-index batches) ≡ c.batch-item.result.now.events ++ rest =
    lent-drop (λ b. b.now) c.args.batches.now c.loop-batch.batch-index c.batch-item.result c.loop-batch-test.true c.batch-item.is in
    let p = refilled-batch c.args.state.now copy c.collect_origins.new.self c.batch-item.result.now.events rest (collected c.args.state.now.run c.args.state.now.origins (history_of batches))
    (subst (λ (es : List Event). c.collect_origins.new.self ≡ record copy { origins = collected copy.run copy.origins es }) c.as_slice.ensures c.in_ok-collect_origins.ensures.ok)
    c.loop-batch.invariant.same (ap (collected copy.run copy.origins) (sym hist) ∙ c.loop-batch.invariant.rest) in
    record { rest = p.0; same = p.1 }
