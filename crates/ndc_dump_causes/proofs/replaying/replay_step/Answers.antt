use Rattle.std.proofs.Common.{◌≡◌, true, refl, arith, sym, subst}
use Rattle.ndc_event.specs.declared.batch.Batch.{Batch}
use Rattle.ndc_dump_causes.specs.Replaying.{replays_to}
use Rattle.ndc_dump_causes.specs.Trails.{AreKnown}
use Rattle.ndc_dump_causes.proofs.TrailLemmas.{known-more, place-has}
use Rattle.ndc_dump_causes.proofs.replaying.replay_step.Goals as goal

pub replay_one-requires-clause-has : goal.replay_one-requires-clause-has
replay_one-requires-clause-has c =
    place-has c.args.batches.now c.args.batches.now c.args.step.now.place c.index-batches-step.result c.requires.read.set.ordered refl (omega (arith, c.if-batches-step.false)) c.index-batches-step.is

pub returns-clause-known : goal.returns-clause-known
returns-clause-known c =
    subst (AreKnown (λ (b : Batch). replays_to c.args.batches.now b ≡ true) c.args.batches.now) (sym c.in_ok-insert.ensures)
    (known-more (λ (b : Batch). replays_to c.args.batches.now b ≡ true) c.args.batches.now c.args.keys.now c.index-batches-step.result
    (place-has c.args.batches.now c.args.batches.now c.args.step.now.place c.index-batches-step.result c.requires.read.set.ordered refl (omega (arith, c.if-batches-step.false)) c.index-batches-step.is)
    (c.in_ok-replay_one.ensures.replays c.if-not-branch.false) c.requires.known)
