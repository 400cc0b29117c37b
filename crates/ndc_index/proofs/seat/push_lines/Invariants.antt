use Rattle.std.proofs.Common.{◌≡◌, ◌++◌, drop}
use Rattle.std.specs.List.{flat_map}
use Rattle.std.specs.Option.{option_map}
use Rattle.ndc_index.specs.Seats.{own_text, seat_line, seat_of, shown}
use Rattle.ndc_index.proofs.seat.push_lines.Given as goal

abbrev pub invariant-loop-seat : goal.invariant-loop-seat
invariant-loop-seat g l =
    l.into.items ++ flat_map (λ seat. seat_line (seat_of seat.name seat.calls (option_map (λ b. shown ((goal.Indexer-dyn g (b.vtable, b.value)).title b.value) ((goal.Indexer-dyn g (b.vtable, b.value)).failing b.value) ((goal.Indexer-dyn g (b.vtable, b.value)).list b.value)) seat.indexer)) (own_text (option_map (λ b. (goal.Indexer-dyn g (b.vtable, b.value)).text b.value) seat.indexer))) (drop l.seat-index l.seats)
    ≡ l.initial.into.items ++ flat_map (λ seat. seat_line (seat_of seat.name seat.calls (option_map (λ b. shown ((goal.Indexer-dyn g (b.vtable, b.value)).title b.value) ((goal.Indexer-dyn g (b.vtable, b.value)).failing b.value) ((goal.Indexer-dyn g (b.vtable, b.value)).list b.value)) seat.indexer)) (own_text (option_map (λ b. (goal.Indexer-dyn g (b.vtable, b.value)).text b.value) seat.indexer))) l.seats
