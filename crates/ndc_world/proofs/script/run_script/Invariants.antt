use Rattle.std.proofs.Common.{◌≡◌, ◌≤◌, drop, false, map}
use Rattle.std.specs.Option.{option_map}
use Rattle.ndc_index.specs.Seats.{after_all, seat_of, shown}
use Rattle.ndc_world.specs.Rest.{MayRun}
use Rattle.ndc_world.proofs.LeftLemmas.{IsUnderWay}
use Rattle.ndc_world.proofs.script.run_script.Given as goal

-- what is left to send, to keep and to tell is that of the lines that are left
abbrev pub invariant-loop-line : goal.invariant-loop-line
invariant-loop-line g l = let sink = g.K.Sink in record {
  way : IsUnderWay l.script l.world (drop l.line-index l.line-items) l.keeps l.told.items (sink.written l.fn.out) (sink.written l.out) (map (λ seat. seat_of seat.name seat.calls (option_map (λ b. shown ((goal.Indexer-dyn g (b.vtable, b.value)).title b.value) ((goal.Indexer-dyn g (b.vtable, b.value)).failing b.value) ((goal.Indexer-dyn g (b.vtable, b.value)).list b.value)) seat.indexer)) l.indexers.asked.items) (map (λ seat. seat_of seat.name seat.calls (option_map (λ b. shown ((goal.Indexer-dyn g (b.vtable, b.value)).title b.value) ((goal.Indexer-dyn g (b.vtable, b.value)).failing b.value) ((goal.Indexer-dyn g (b.vtable, b.value)).list b.value)) seat.indexer)) l.fn.indexers.asked.items);
  unspent : l.world.spent ≡ false;
  may : MayRun l.world.header l.world.lines (drop l.line-index l.line-items);
  late : l.indexers.late ≡ l.fn.indexers.late;
  faults : sink.faults l.fn.out ≤ sink.faults l.out;
}

-- what is left to tell, told to what the seats are, is all told to what they were
abbrev pub invariant-loop-one : goal.invariant-loop-one
invariant-loop-one g l = record {
  told : map (after_all (drop l.one-index l.one-items)) (map (λ seat. seat_of seat.name seat.calls (option_map (λ b. shown ((goal.Indexer-dyn g (b.vtable, b.value)).title b.value) ((goal.Indexer-dyn g (b.vtable, b.value)).failing b.value) ((goal.Indexer-dyn g (b.vtable, b.value)).list b.value)) seat.indexer)) l.indexers.asked.items) ≡ map (after_all l.one-items) (map (λ seat. seat_of seat.name seat.calls (option_map (λ b. shown ((goal.Indexer-dyn g (b.vtable, b.value)).title b.value) ((goal.Indexer-dyn g (b.vtable, b.value)).failing b.value) ((goal.Indexer-dyn g (b.vtable, b.value)).list b.value)) seat.indexer)) l.initial.indexers.asked.items);
  late : l.indexers.late ≡ l.initial.indexers.late;
}
