use Rattle.std.proofs.Common.{rules, arith}
use Rattle.ndc_shard_entries.proofs.EventLemmas.{event-pushed, id-fits, kind-next, kind-taken}
use Rattle.ndc_shard_entries.proofs.events.events_from.Goals as goal

-- src/events.rt:20:17
pub overflow_add-first : goal.overflow_add-first
overflow_add-first c =
    let i = c.loop-kind.invariant in
    let left = c.next.new.self.rest.items in
    let small = id-fits c.args.first c.args.version c.loop-kind.yielded c.in-Some.kind c.loop-kind.events.items i.3 c.len-in-loop-kind.result (search rules) c.args.kinds.items left
    c.requires (kind-next c.args.kinds.items c.loop-kind.yielded c.loop-kind.kind-iterator.rest.items left c.in-Some.kind i.2 c.in-Some.ensures.steps.0) in
    omega (arith, small)

-- src/events.rt:18:5
pub loop-kind-preserved : goal.loop-kind-preserved
loop-kind-preserved c =
    let i = c.loop-kind.invariant in
    let left = c.next.new.self.rest.items in
    let next = kind-next c.args.kinds.items c.loop-kind.yielded c.loop-kind.kind-iterator.rest.items left c.in-Some.kind i.2 c.in-Some.ensures.steps.0 in (
      tt,
      tt,
      kind-taken c.args.kinds.items c.loop-kind.yielded left c.in-Some.kind next,
      event-pushed c.args.first c.args.version c.loop-kind.yielded c.in-Some.kind c.loop-kind.events.items i.3 c.len-in-loop-kind.result (search rules) c.push.new.self.items c.in_ok-push.ensures.items,
    )
