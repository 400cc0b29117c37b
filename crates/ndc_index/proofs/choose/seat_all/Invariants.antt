use Rattle.std.proofs.Common.{◌≡◌, map, drop}
use Rattle.std.specs.Option.{option_map}
use Rattle.ndc_index.specs.Seats.{seat_of, seated, shown}
use Rattle.ndc_index.proofs.SeatLemmas.{seated_behind}
use Rattle.ndc_index.proofs.choose.seat_all.Given as goal

abbrev pub invariant-loop-name : goal.invariant-loop-name
invariant-loop-name g l =
    seated_behind (map (λ seat. seat_of seat.name seat.calls (option_map (λ b. shown ((goal.Indexer-dyn g (b.vtable, b.value)).title b.value) ((goal.Indexer-dyn g (b.vtable, b.value)).failing b.value) ((goal.Indexer-dyn g (b.vtable, b.value)).list b.value)) seat.indexer)) l.seats.items)
    (seated (drop l.name-index l.names) (map (λ b. shown ((goal.Indexer-dyn g (b.vtable, b.value)).title b.value) ((goal.Indexer-dyn g (b.vtable, b.value)).failing b.value) ((goal.Indexer-dyn g (b.vtable, b.value)).list b.value)) l.all.items))
    ≡ seated l.names (map (λ b. shown ((goal.Indexer-dyn g (b.vtable, b.value)).title b.value) ((goal.Indexer-dyn g (b.vtable, b.value)).failing b.value) ((goal.Indexer-dyn g (b.vtable, b.value)).list b.value)) l.fn.all.items)
