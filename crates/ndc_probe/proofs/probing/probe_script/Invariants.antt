use Rattle.std.proofs.Common.{◌≡◌, ◌≤◌, drop, false, length}
use Rattle.ndc_world.specs.Rest.{MayRun}
use Rattle.ndc_probe.proofs.ProbeLemmas.{IsUnderWay}
use Rattle.ndc_probe.proofs.probing.probe_script.Given as goal

-- what is left to send is what is told of the lines and questions that are left
abbrev pub invariant-loop-line : goal.invariant-loop-line
invariant-loop-line g l = let sink = g.K.Sink in record {
  way : IsUnderWay l.script l.asked l.world (drop l.line-index l.line-items) (drop l.place l.asked) (sink.written l.fn.out) (sink.written l.out);
  place : l.place ≤ length l.asked;
  unspent : l.world.spent ≡ false;
  header : l.world.header ≡ l.script.header;
  may : MayRun l.world.header l.world.lines (drop l.line-index l.line-items);
  faults : sink.faults l.fn.out ≤ sink.faults l.out;
}
