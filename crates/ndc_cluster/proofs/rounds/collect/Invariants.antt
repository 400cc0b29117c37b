use Rattle.std.proofs.Common.{◌≡◌, ◌++◌, map, drop, length}
use Rattle.std.specs.Option.{option_map}
use Rattle.ndc_cluster.specs.Rounds.{left_of, taken}
use Rattle.ndc_cluster.proofs.rounds.collect.Given as goal

abbrev pub invariant-loop-asked : goal.invariant-loop-asked
invariant-loop-asked g l =
    (length l.slots.items ≡ length l.initial.slots.items)
    × (map (λ slot. left_of (g.C.Cell.cell slot.cell) slot.fresh) l.slots.items ≡ map (λ slot. left_of (g.C.Cell.cell slot.cell) slot.fresh) l.initial.slots.items)
    × (option_map (λ more. l.replies.items ++ more) (taken (drop l.asked-index l.jobs) (map (λ slot. slot.replies.items) l.slots.items)) ≡ taken l.jobs (map (λ slot. slot.replies.items) l.initial.slots.items))
