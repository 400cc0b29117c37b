use Rattle.std.proofs.Common.{◌≡◌, ◌++◌, map}
use Rattle.ndc_shard.specs.Waits.{waits_since}
use Rattle.ndc_shard.proofs.showing.waits_at.Given as goal

-- what is told of the places so far, with what is told of those that are left, is the whole
abbrev pub invariant-loop-since : goal.invariant-loop-since
invariant-loop-since l = l.list.items ++ map (waits_since l.workflows) l.since-iterator.rest.items ≡ map (waits_since l.workflows) l.fn.places.items
