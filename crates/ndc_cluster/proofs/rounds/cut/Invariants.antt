use Rattle.std.proofs.Common.{◌≡◌, ◌++◌, [], map}
use Rattle.std.specs.List.{AllByRecursion}
use Rattle.ndc_cluster.specs.Rounds.{joined, slot_of}
use Rattle.ndc_cluster.proofs.rounds.cut.Given as goal

abbrev pub invariant-loop-done : goal.invariant-loop-done
invariant-loop-done g l =
    (map (λ slot. slot_of (g.C.Cell.cell slot.cell) (map (λ job. job.now) slot.jobs.items) slot.replies.items slot.fresh.from slot.fresh.messages.items) l.left.items
    ++ joined (map (λ piece. map (λ slot. slot_of (g.C.Cell.cell slot.cell) (map (λ job. job.now) slot.jobs.items) slot.replies.items slot.fresh.from slot.fresh.messages.items) piece.slots.items) l.pieces.items)
    ≡ map (λ slot. slot_of (g.C.Cell.cell slot.cell) (map (λ job. job.now) slot.jobs.items) slot.replies.items slot.fresh.from slot.fresh.messages.items) l.fn.slots.items)
    × AllByRecursion (λ piece. piece.desk.now ≡ l.desk) l.pieces.items
    × (l.done ≡ l.count → l.left.items ≡ [])
