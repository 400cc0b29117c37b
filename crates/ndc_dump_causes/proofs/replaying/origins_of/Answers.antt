use Rattle.std.proofs.Common.{◌++◌, ◌∙◌, ap}
use Rattle.ndc_model_sets.specs.Origins.{origins_in}
use Rattle.ndc_state.specs.Replay.{history_of}
use Rattle.std.proofs.Common.{map}
use Rattle.ndc_dump_causes.proofs.OnPaths.{origins-more}
use Rattle.ndc_dump_causes.proofs.replaying.origins_of.Goals as goal

pub loop-batch-preserved : goal.loop-batch-preserved
loop-batch-preserved c =
    origins-more c.args.run (λ b. b.now) c.args.path.now c.loop-batch.batch-index c.batch-item.result c.loop-batch.origins.items c.push_origins.new.origins.items (origins_in c.args.run (history_of (map (λ b. b.now) c.args.path.now)))
    c.loop-batch-test.true c.batch-item.is c.loop-batch.invariant
    (c.in_ok-push_origins.ensures ∙ ap (λ es. c.loop-batch.origins.items ++ origins_in c.args.run es) c.as_slice.ensures)
