use Rattle.std.proofs.Common.{sym, subst, ap}
use Rattle.ndc_model.specs.Moves.{Trace}
use Rattle.ndc_world_replication.proofs.OrderlyLemmas.{orderly_without}
use Rattle.ndc_world_replication.proofs.TraceLemmas.{settled_trace}
use Rattle.ndc_world_replication.specs.Orderly.{IsOrderly}
use Rattle.ndc_world_replication.proofs.replication.Replication.settle.Goals as goal

pub settle_once-requires-clause-orderly : goal.settle_once-requires-clause-orderly
settle_once-requires-clause-orderly g c κs within =
    subst (IsOrderly c.args.header.now) (sym c.empty_flights.ensures) (orderly_without c.args.header.now c.args.self.now c.requires.orderly)

pub returns-clause-settled : goal.returns-clause-settled
returns-clause-settled g c =
    ap (λ (t : Trace). t.world)
    (settled_trace c.args.header.now c.args.self.now c.empty_flights.new.self c.settle_once.new.self c.settle_once-2.new.self c.renew_all.new.self c.new-dones.result.items c.settle_once.new.dones.items c.settle_once-2.new.dones.items
    c.empty_flights.ensures c.new-dones.ensures.items c.in_ok-settle_once.ensures.settled c.in_ok-settle_once-2.ensures.settled c.renew_all.ensures)

pub returns-clause-notes : goal.returns-clause-notes
returns-clause-notes g c =
    ap (λ (t : Trace). t.notes)
    (settled_trace c.args.header.now c.args.self.now c.empty_flights.new.self c.settle_once.new.self c.settle_once-2.new.self c.renew_all.new.self c.new-dones.result.items c.settle_once.new.dones.items c.settle_once-2.new.dones.items
    c.empty_flights.ensures c.new-dones.ensures.items c.in_ok-settle_once.ensures.settled c.in_ok-settle_once-2.ensures.settled c.renew_all.ensures)
