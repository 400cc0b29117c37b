use Rattle.std.proofs.Common.{◌≡◌, map, drop, length}
use Rattle.ndc_cluster.specs.Rounds.{dealt, slot_of}
use Rattle.ndc_cluster.proofs.rounds.deal.Given as goal

abbrev pub invariant-loop-asked : goal.invariant-loop-asked
invariant-loop-asked g l =
    (length l.slots.items ≡ length l.initial.slots.items)
    × (dealt (drop l.asked-index l.jobs) (map (λ slot. slot_of (g.C.Cell.cell slot.cell) (map (λ job. job.now) slot.jobs.items) slot.replies.items slot.fresh.from slot.fresh.messages.items) l.slots.items)
    ≡ dealt l.jobs (map (λ slot. slot_of (g.C.Cell.cell slot.cell) (map (λ job. job.now) slot.jobs.items) slot.replies.items slot.fresh.from slot.fresh.messages.items) l.initial.slots.items))
