use Rattle.std.proofs.Common.{◌≡◌, ◌++◌, drop, map}
use Rattle.ndc_shard_entries.proofs.reset.push_events.Given as goal

-- the events so far, with those that are left, are the whole
abbrev pub invariant-loop-event : goal.invariant-loop-event
invariant-loop-event l = map (λ e. e.now) l.events.items ++ drop l.event-index l.more ≡ map (λ e. e.now) l.fn.events.items ++ l.more
