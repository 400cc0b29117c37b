use Rattle.std.proofs.Common.{◌≡◌, ◌≤◌, ◌+◌, drop}
use Rattle.ndc_explain.specs.Losses.{loss_count}
use Rattle.ndc_explain.proofs.losses.loss_count.Given as goal

abbrev pub invariant-loop-loss : goal.invariant-loop-loss
invariant-loop-loss l = record {
  few : l.count ≤ l.loss-index;
  rest : l.count + loss_count l.all l.both (drop l.loss-index l.lost) ≡ loss_count l.all l.both l.lost;
}
