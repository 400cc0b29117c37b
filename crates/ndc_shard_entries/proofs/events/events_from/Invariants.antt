use Rattle.std.proofs.Common.{◌≡◌, ◌++◌}
use Rattle.std.specs.Vec.Iter.{into_iter_items}
use Rattle.ndc_state.specs.Written.{events_from}
use Rattle.ndc_shard_entries.proofs.events.events_from.Given as goal

-- the events so far are those of the kinds so far
abbrev pub invariant-loop-kind : goal.invariant-loop-kind
invariant-loop-kind l =
    (goal.iterator-loop-kind).can_next l.kind-iterator ×
    (goal.iterator-loop-kind).is_finite l.kind-iterator ×
    (l.fn.kinds.items ≡ l.yielded ++ into_iter_items l.kind-iterator) ×
    (l.events.items ≡ events_from l.fn.first l.fn.version l.yielded)
