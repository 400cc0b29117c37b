use Rattle.std.proofs.Common.{◌≡◌, ◌++◌, map, take, drop}
use Rattle.ndc_cluster.specs.Rounds.{slot_done, slot_of}
use Rattle.ndc_cluster.proofs.piece.do_all.Given as goal

abbrev pub invariant-loop-slot : goal.invariant-loop-slot
invariant-loop-slot g l =
    map (λ slot. slot_of (g.C.Cell.cell slot.cell) (map (λ job. job.now) slot.jobs.items) slot.replies.items slot.fresh.from slot.fresh.messages.items) l.slot-items
    ≡ map (slot_done l.desk) (take l.slot-index (map (λ slot. slot_of (g.C.Cell.cell slot.cell) (map (λ job. job.now) slot.jobs.items) slot.replies.items slot.fresh.from slot.fresh.messages.items) l.initial.slot-items))
    ++ drop l.slot-index (map (λ slot. slot_of (g.C.Cell.cell slot.cell) (map (λ job. job.now) slot.jobs.items) slot.replies.items slot.fresh.from slot.fresh.messages.items) l.initial.slot-items)
