use Rattle.std.proofs.Common.{ap, sym, ◌∙◌, map, arith, ◌-◌}
use Rattle.std.proofs.lemmas.List.{length-map}
use Rattle.ndc_event.specs.declared.batch.Batch.{Batch}
use Rattle.ndc_rebuild.specs.Kept.{kept_at}
use Rattle.ndc_rebuild.proofs.PathLemmas.{IsFoundAt-place, lent-at, lent-none}
use Rattle.ndc_rebuild.proofs.checkpoints.Checkpoints.last_kept.Goals as goal

-- the batch before the place is kept, and none after it
pub returns-in-Some : goal.returns-in-Some
returns-in-Some c =
    let at = lent-at (λ b. b.now) c.args.path.now (c.loop-count.count - 1) c.index-path-count.result c.index-path-count.is in
    IsFoundAt-place c.args.self.now.states (map (λ b. b.now) c.args.path.now) c.loop-count.count c.index-path-count.result.now c.in-Some.state.now c.loop-count-test.true
    (omega (arith, c.loop-count.invariant.within, length-map c.args.path.now (λ b. b.now)))
    at (ap (λ (x : Batch). kept_at x.key c.args.self.now.states) (ap (λ b. b.now) c.index-path-count.is) ∙ sym c.in-Some.ensures) c.loop-count.invariant.none

-- neither is the batch before the place
pub loop-count-preserved : goal.loop-count-preserved
loop-count-preserved c = record {
  within = omega (arith, c.loop-count.invariant.within);
  none =
      lent-none (λ b. b.now) c.args.self.now.states c.args.path.now c.loop-count.count c.index-path-count.result c.loop-count-test.true c.loop-count.invariant.within c.index-path-count.is
      (ap (λ (x : Batch). kept_at x.key c.args.self.now.states) (ap (λ b. b.now) c.index-path-count.is) ∙ sym c.in-None.ensures) c.loop-count.invariant.none;
}
