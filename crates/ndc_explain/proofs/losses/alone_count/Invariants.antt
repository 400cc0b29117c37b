use Rattle.std.proofs.Common.{◌≡◌, ◌≤◌, ◌+◌, drop}
use Rattle.ndc_explain.specs.Losses.{alone_count}
use Rattle.ndc_explain.proofs.losses.alone_count.Given as goal

abbrev pub invariant-loop-trace : goal.invariant-loop-trace
invariant-loop-trace l = record {
  few : l.count ≤ l.trace-index;
  rest : l.count + alone_count l.all (drop l.trace-index l.alone) ≡ alone_count l.all l.alone;
}
