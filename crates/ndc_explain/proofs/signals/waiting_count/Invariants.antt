use Rattle.std.proofs.Common.{◌≡◌, ◌≤◌, ◌+◌, drop}
use Rattle.ndc_explain.specs.Signals.{waiting_count}
use Rattle.ndc_explain.proofs.signals.waiting_count.Given as goal

abbrev pub invariant-loop-signal : goal.invariant-loop-signal
invariant-loop-signal l = record {
  few : l.count ≤ l.signal-index;
  rest : l.count + waiting_count l.known (drop l.signal-index l.signals) ≡ waiting_count l.known l.signals;
}
