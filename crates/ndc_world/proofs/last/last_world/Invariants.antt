use Rattle.std.proofs.Common.{◌≡◌, drop, false}
use Rattle.ndc_world.specs.Rest.{MayRun}
use Rattle.ndc_world.proofs.CountLemmas.{IsCounting}
use Rattle.ndc_world.proofs.last.last_world.Given as goal

-- what was counted, and what is left
abbrev pub invariant-loop-line : goal.invariant-loop-line
invariant-loop-line g l = record {
  unspent : l.world.spent ≡ false;
  counting : IsCounting l.script l.world (drop l.line-index l.line-items);
  may : MayRun l.world.header l.world.lines (drop l.line-index l.line-items);
}
