use Rattle.std.proofs.Common.{◌≡◌, ◌++◌, map, take, drop}
use Rattle.ndc_model.specs.Moves.{link_without_flights}
use Rattle.ndc_world_replication.proofs.settling.empty_all.Given as goal

abbrev pub invariant-loop-link : goal.invariant-loop-link
invariant-loop-link l = l.link-items ≡ map link_without_flights (take l.link-index l.initial.link-items) ++ drop l.link-index l.initial.link-items
