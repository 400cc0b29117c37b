use Rattle.std.proofs.Common.{◌≤◌, length}
use Rattle.ndc_port.specs.Bytes.{Sent}
use Rattle.ndc_port.proofs.writing.write_all.Given as goal

abbrev pub invariant-loop-rest : goal.invariant-loop-rest
invariant-loop-rest g l = let sink = g.K.Sink in record {
  sent : Sent (sink.written l.fn.sink) (sink.written l.sink) l.fn.bytes l.rest;
  faults : sink.faults l.fn.sink ≤ sink.faults l.sink;
}

abbrev pub decreases-loop-rest : goal.decreases-loop-rest
decreases-loop-rest g l = length l.rest
