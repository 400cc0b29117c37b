use Rattle.std.proofs.Common.{◌≡◌, ◌++◌, drop, map}
use Rattle.ndc_state.specs.Replay.{history_of}
use Rattle.ndc_model_sets.specs.Origins.{origins_in}
use Rattle.ndc_dump_causes.proofs.replaying.origins_of.Given as goal

abbrev pub invariant-loop-batch : goal.invariant-loop-batch
invariant-loop-batch l = l.origins.items ++ origins_in l.run (history_of (map (λ b. b.now) (drop l.batch-index l.path))) ≡ origins_in l.run (history_of (map (λ b. b.now) l.path))
