use Rattle.std.proofs.Common.{◌≡◌, ◌++◌, false, map, length}
use Rattle.std.specs.List.{AllByRecursion}
use Rattle.ndc_cluster.specs.Rounds.{joined, slot_of}
use Rattle.ndc_cluster.proofs.rounds.join.Given as goal

abbrev pub invariant-loop-piece : goal.invariant-loop-piece
invariant-loop-piece g l =
    (map (λ slot. slot_of (g.C.Cell.cell slot.cell) (map (λ job. job.now) slot.jobs.items) slot.replies.items slot.fresh.from slot.fresh.messages.items) l.slots.items
    ++ joined (map (λ piece. map (λ slot. slot_of (g.C.Cell.cell slot.cell) (map (λ job. job.now) slot.jobs.items) slot.replies.items slot.fresh.from slot.fresh.messages.items) piece.slots.items) l.left.items)
    ≡ joined (map (λ piece. map (λ slot. slot_of (g.C.Cell.cell slot.cell) (map (λ job. job.now) slot.jobs.items) slot.replies.items slot.fresh.from slot.fresh.messages.items) piece.slots.items) l.fn.pieces.items))
    × (AllByRecursion (λ piece. piece.is_spent ≡ false) l.left.items → AllByRecursion (λ piece. piece.is_spent ≡ false) l.fn.pieces.items)

abbrev pub decreases-loop-piece : goal.decreases-loop-piece
decreases-loop-piece g l = length l.left.items
