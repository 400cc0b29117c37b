use Rattle.std.proofs.Common.{◌≡◌, map, take, drop, ◌++◌}
use Rattle.std.specs.Option.{option_map}
use Rattle.ndc_index.specs.Seats.{after_told, seat_of, shown}
use Rattle.ndc_index.proofs.seat.tell_all.Given as goal

abbrev pub invariant-loop-seat : goal.invariant-loop-seat
invariant-loop-seat g l =
    map (λ seat. seat_of seat.name seat.calls (option_map (λ b. shown ((goal.Indexer-dyn g (b.vtable, b.value)).title b.value) ((goal.Indexer-dyn g (b.vtable, b.value)).failing b.value) ((goal.Indexer-dyn g (b.vtable, b.value)).list b.value)) seat.indexer)) l.seat-items
    ≡ map (after_told l.seen) (take l.seat-index (map (λ seat. seat_of seat.name seat.calls (option_map (λ b. shown ((goal.Indexer-dyn g (b.vtable, b.value)).title b.value) ((goal.Indexer-dyn g (b.vtable, b.value)).failing b.value) ((goal.Indexer-dyn g (b.vtable, b.value)).list b.value)) seat.indexer)) l.initial.seat-items))
    ++ drop l.seat-index (map (λ seat. seat_of seat.name seat.calls (option_map (λ b. shown ((goal.Indexer-dyn g (b.vtable, b.value)).title b.value) ((goal.Indexer-dyn g (b.vtable, b.value)).failing b.value) ((goal.Indexer-dyn g (b.vtable, b.value)).list b.value)) seat.indexer)) l.initial.seat-items)
