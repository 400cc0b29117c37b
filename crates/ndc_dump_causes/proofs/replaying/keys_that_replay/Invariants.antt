use Rattle.std.proofs.Common.{◌≡◌, true}
use Rattle.ndc_dump_causes.specs.Replaying.{AreKept, replays_to}
use Rattle.ndc_dump_causes.specs.Trails.{AreKnown}
use Rattle.ndc_dump_causes.proofs.replaying.keys_that_replay.Given as goal

-- what is kept are states, and what is listed replays
abbrev pub invariant-loop-step : goal.invariant-loop-step
invariant-loop-step l = record {
  kept : AreKept l.batches l.kept.items;
  known : AreKnown (λ b. replays_to l.batches b ≡ true) l.batches l.keys;
}
