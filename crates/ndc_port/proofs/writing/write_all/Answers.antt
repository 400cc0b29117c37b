use Rattle.std.proofs.Common.{arith}
use Rattle.std.proofs.lemmas.List.{take_rest}
use Rattle.ndc_port.proofs.Steps.{Sent_more}
use Rattle.ndc_port.proofs.writing.write_all.Goals as goal

pub loop-rest-preserved : goal.loop-rest-preserved
loop-rest-preserved g c = record {
  sent = rw (take_rest c.loop-rest.rest.now c.in_ok-taken.taken) (Sent_more _ _ _ _ c.loop-rest.rest.now c.in_ok-taken.taken c.loop-rest.invariant.sent c.in_ok-taken.ensures.taken);
  faults = omega arith;
}
