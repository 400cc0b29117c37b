use Rattle.std.proofs.Common.{◌≡◌, drop}
use Rattle.ndc_graceful.specs.Ready.{lagging_from}
use Rattle.ndc_graceful.proofs.handover.lagging.Given as goal

abbrev pub invariant-loop-shard : goal.invariant-loop-shard
invariant-loop-shard l =
    lagging_from l.shard (drop l.shard l.places) (drop l.shard l.levels) ≡ lagging_from 0 l.places l.levels
