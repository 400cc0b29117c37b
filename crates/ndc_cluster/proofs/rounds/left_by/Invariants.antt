use Rattle.std.proofs.Common.{◌≡◌, ◌++◌, map}
use Rattle.ndc_cluster.proofs.rounds.left_by.Given as goal

abbrev pub invariant-loop-slot : goal.invariant-loop-slot
invariant-loop-slot g l =
    (map g.C.Cell.cell l.cells.items ++ map (λ slot. g.C.Cell.cell slot.cell) l.slot-iterator.rest.items ≡ map (λ slot. g.C.Cell.cell slot.cell) l.fn.slots.items)
    × (l.fresh.items ++ map (λ slot. slot.fresh) l.slot-iterator.rest.items ≡ map (λ slot. slot.fresh) l.fn.slots.items)
