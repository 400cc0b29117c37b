use Rattle.std.proofs.Common.{◌≡◌, ◌++◌, map}
use Rattle.ndc_cluster.specs.Rounds.{fresh_slot, slot_of}
use Rattle.ndc_cluster.proofs.rounds.slots_of.Given as goal

abbrev pub invariant-loop-cell : goal.invariant-loop-cell
invariant-loop-cell g l =
    map (λ slot. slot_of (g.C.Cell.cell slot.cell) (map (λ job. job.now) slot.jobs.items) slot.replies.items slot.fresh.from slot.fresh.messages.items) l.slots.items ++ map fresh_slot (map g.C.Cell.cell l.cell-iterator.rest.items)
    ≡ map fresh_slot (map g.C.Cell.cell l.fn.cells.items)
