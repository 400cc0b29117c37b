use Rattle.std.proofs.Common.{ap, get_or}
use Rattle.ndc_index.specs.Seats.{after_told}
use Rattle.ndc_index.proofs.SeatLemmas.{changed_more}
use Rattle.ndc_index.proofs.seat.tell_all.Goals as goal

pub loop-seat-preserved : goal.loop-seat-preserved
loop-seat-preserved g c =
    changed_more _ (after_told c.args.seen.now) _ _ c.loop-seat.seat-index (get_or c.loop-seat.seat-items c.loop-seat.seat-index c.seat-item.result) c.told.new.self
    c.loop-seat-test.true c.loop-seat.invariant (ap (λ z. get_or c.loop-seat.seat-items c.loop-seat.seat-index z) c.seat-item.is) c.in_ok-told.ensures
