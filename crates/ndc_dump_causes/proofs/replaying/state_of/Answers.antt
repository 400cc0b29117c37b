use Rattle.std.proofs.Common.{◌≡◌, ◌+◌, List, map, drop, Ok, Err, ap, sym, subst, ◌∙◌}
use Rattle.ndc_event.specs.declared.batch.Event.{Event}
use Rattle.ndc_state.specs.Replay.{history_of, replay}
use Rattle.ndc_rebuild.proofs.PathLemmas.{replay-applied, replay-refused}
use Rattle.ndc_dump_causes.specs.Given.{HasSmallIds}
use Rattle.ndc_dump_causes.proofs.OnPaths.{history-left}
use Rattle.ndc_dump_causes.proofs.Walking.{all-at}
use Rattle.ndc_dump_causes.proofs.replaying.state_of.Goals as goal

pub apply_all-requires : goal.apply_all-requires
apply_all-requires c =
    rw c.as_slice.ensures (all-at HasSmallIds (λ b. b.now) c.args.path.now c.loop-batch.batch-index c.batch-item.result c.requires c.loop-batch-test.true c.batch-item.is)

-- the batch at the place is applied whole
pub loop-batch-preserved : goal.loop-batch-preserved
loop-batch-preserved c =
    let rest = history_of (map (λ b. b.now) (drop (c.loop-batch.batch-index + 1) c.args.path.now)) in
    let hist = history-left (λ b. b.now) c.args.path.now c.loop-batch.batch-index c.batch-item.result c.loop-batch-test.true c.batch-item.is in
    let went : replay c.loop-batch.state c.batch-item.result.now.events ≡ Ok c.apply_all.new.self =
    subst (λ (es : List Event). replay c.loop-batch.state es ≡ Ok c.apply_all.new.self) c.as_slice.ensures c.in-Ok.ensures.answer in
    replay-applied c.loop-batch.state c.apply_all.new.self c.batch-item.result.now.events rest went ∙ ap (replay c.loop-batch.state) (sym hist) ∙ c.loop-batch.invariant

-- the batch at the place is refused, and so are all
pub returns-in-Err : goal.returns-in-Err
returns-in-Err c = λ e.
    let rest = history_of (map (λ b. b.now) (drop (c.loop-batch.batch-index + 1) c.args.path.now)) in
    let hist = history-left (λ b. b.now) c.args.path.now c.loop-batch.batch-index c.batch-item.result c.loop-batch-test.true c.batch-item.is in
    let refused : replay c.loop-batch.state c.batch-item.result.now.events ≡ Err c.in-Err.error =
    subst (λ (es : List Event). replay c.loop-batch.state es ≡ Err c.in-Err.error) c.as_slice.ensures (c.in-Err.ensures.answer e) in
    sym c.loop-batch.invariant ∙ ap (replay c.loop-batch.state) hist ∙ replay-refused c.loop-batch.state c.batch-item.result.now.events rest c.in-Err.error refused
