use Rattle.std.proofs.Common.{◌≡◌, ◌≤◌, ◌^◌, All, ◌+◌, ◌++◌, List, length, map, drop, Ok, Err, ap, sym, subst, ◌∙◌}
use Rattle.ndc_event.specs.declared.batch.Event.{Event}
use Rattle.ndc_state.specs.Counted.{counted}
use Rattle.ndc_state.specs.Replay.{history_of, replay, allowed_count, CountsWithin}
use Rattle.ndc_rebuild.proofs.PathLemmas.{Counts, Counts-batch, Counts-refused, lent-drop, lent-ids, replay-applied, replay-refused}
use Rattle.ndc_rebuild.proofs.replay.replay_batches.Goals as goal

-- the batch at the place has small ids
pub apply_all-requires : goal.apply_all-requires
apply_all-requires g c =
    subst (λ (es : List Event). All (λ event. event.id ≤ 10 ^ 12) es) (sym c.as_slice.ensures)
    (lent-ids (λ b. b.now) c.args.batches.now c.loop-batch.batch-index c.batch-item.result c.requires c.loop-batch-test.true c.batch-item.is)

-- the batch at the place is applied whole
pub loop-batch-preserved : goal.loop-batch-preserved
loop-batch-preserved g c =
    let batches = map (λ b. b.now) c.args.batches.now in
    let rest = history_of (drop (c.loop-batch.batch-index + 1) batches) in
    let hist : history_of (drop c.loop-batch.batch-index batches) ≡ c.batch-item.result.now.events ++ rest =
    lent-drop (λ b. b.now) c.args.batches.now c.loop-batch.batch-index c.batch-item.result c.loop-batch-test.true c.batch-item.is in
    let went : replay c.loop-batch.state c.batch-item.result.now.events ≡ Ok c.apply_all.new.self =
    subst (λ (es : List Event). replay c.loop-batch.state es ≡ Ok c.apply_all.new.self) c.as_slice.ensures c.in-Ok.ensures.answer in
    record {
      rest = replay-applied c.loop-batch.state c.apply_all.new.self c.batch-item.result.now.events rest went ∙ ap (replay c.loop-batch.state) (sym hist) ∙ c.loop-batch.invariant.rest;
      counts =
          Counts-batch c.args.steps.now c.loop-batch.steps c.apply_all.new.steps (length (history_of batches)) (allowed_count c.args.state.now (history_of batches))
          c.loop-batch.state c.apply_all.new.self c.batch-item.result.now.events rest went
          (c.in-Ok.ensures.ok_steps ∙ ap (λ (es : List Event). counted c.loop-batch.steps (length es)) c.as_slice.ensures)
          (subst (λ (h : List Event). Counts c.args.steps.now c.loop-batch.steps c.loop-batch.state h (length (history_of batches)) (allowed_count c.args.state.now (history_of batches))) hist c.loop-batch.invariant.counts);
    }

-- the batch at the place is refused, and so are all
pub returns-in-Err-clause-answer : goal.returns-in-Err-clause-answer
returns-in-Err-clause-answer g c = λ e.
    let batches = map (λ b. b.now) c.args.batches.now in
    let rest = history_of (drop (c.loop-batch.batch-index + 1) batches) in
    let hist : history_of (drop c.loop-batch.batch-index batches) ≡ c.batch-item.result.now.events ++ rest =
    lent-drop (λ b. b.now) c.args.batches.now c.loop-batch.batch-index c.batch-item.result c.loop-batch-test.true c.batch-item.is in
    let refused : replay c.loop-batch.state c.batch-item.result.now.events ≡ Err c.in-Err.error =
    subst (λ (es : List Event). replay c.loop-batch.state es ≡ Err c.in-Err.error) c.as_slice.ensures (c.in-Err.ensures.answer e) in
    sym c.loop-batch.invariant.rest ∙ ap (replay c.loop-batch.state) hist ∙ replay-refused c.loop-batch.state c.batch-item.result.now.events rest c.in-Err.error refused

pub returns-in-Err-clause-most_steps : goal.returns-in-Err-clause-most_steps
returns-in-Err-clause-most_steps g c =
    let batches = map (λ b. b.now) c.args.batches.now in
    let rest = history_of (drop (c.loop-batch.batch-index + 1) batches) in
    let hist : history_of (drop c.loop-batch.batch-index batches) ≡ c.batch-item.result.now.events ++ rest =
    lent-drop (λ b. b.now) c.args.batches.now c.loop-batch.batch-index c.batch-item.result c.loop-batch-test.true c.batch-item.is in
    Counts-refused c.args.steps.now c.loop-batch.steps c.apply_all.new.steps (length (history_of batches)) (allowed_count c.args.state.now (history_of batches))
    c.loop-batch.state c.batch-item.result.now.events rest
    (subst (λ (es : List Event). CountsWithin c.loop-batch.steps (allowed_count c.loop-batch.state es) c.apply_all.new.steps) c.as_slice.ensures c.in-Err.ensures.most_steps)
    (subst (λ (h : List Event). Counts c.args.steps.now c.loop-batch.steps c.loop-batch.state h (length (history_of batches)) (allowed_count c.args.state.now (history_of batches))) hist c.loop-batch.invariant.counts)
