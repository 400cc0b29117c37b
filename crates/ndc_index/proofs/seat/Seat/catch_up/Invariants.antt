use Rattle.std.proofs.Common.{◌≡◌, drop}
use Rattle.std.specs.Option.{option_map}
use Rattle.ndc_index.specs.Seats.{after_all, seat_of, shown}
use Rattle.ndc_index.proofs.seat.Seat.catch_up.Given as goal

abbrev pub invariant-loop-one : goal.invariant-loop-one
invariant-loop-one g l =
    after_all (drop l.one-index l.seen) (seat_of l.self.name l.self.calls (option_map (λ b. shown ((goal.Indexer-dyn g (b.vtable, b.value)).title b.value) ((goal.Indexer-dyn g (b.vtable, b.value)).failing b.value) ((goal.Indexer-dyn g (b.vtable, b.value)).list b.value)) l.self.indexer))
    ≡ after_all l.seen (seat_of l.initial.self.name l.initial.self.calls (option_map (λ b. shown ((goal.Indexer-dyn g (b.vtable, b.value)).title b.value) ((goal.Indexer-dyn g (b.vtable, b.value)).failing b.value) ((goal.Indexer-dyn g (b.vtable, b.value)).list b.value)) l.initial.self.indexer))
