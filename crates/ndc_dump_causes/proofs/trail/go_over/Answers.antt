use Rattle.std.proofs.Common.{◌≡◌, false, refl, arith, sym, subst}
use Rattle.ndc_event.specs.declared.batch.Batch.{Batch}
use Rattle.ndc_dump_causes.specs.Causes.{has_origin_twice}
use Rattle.ndc_dump_causes.specs.Trails.{AreKnown}
use Rattle.ndc_dump_causes.proofs.TrailLemmas.{known-more, place-has}
use Rattle.ndc_dump_causes.proofs.trail.go_over.Goals as goal

pub open-requires-clause-has : goal.open-requires-clause-has
open-requires-clause-has c =
    place-has c.args.batches.now c.args.batches.now c.args.step.now.place c.index-batches-step.result c.requires.read.set.ordered refl (omega (arith, c.if-batches-step.false)) c.index-batches-step.is

pub returns-clause-known : goal.returns-clause-known
returns-clause-known c =
    subst (AreKnown (λ (b : Batch). has_origin_twice c.args.batches.now b ≡ false) c.args.batches.now) (sym c.in_ok-insert.ensures)
    (known-more (λ (b : Batch). has_origin_twice c.args.batches.now b ≡ false) c.args.batches.now c.args.keys.now c.index-batches-step.result
    (place-has c.args.batches.now c.args.batches.now c.args.step.now.place c.index-batches-step.result c.requires.read.set.ordered refl (omega (arith, c.if-batches-step.false)) c.index-batches-step.is)
    (c.in_ok-open.ensures.once c.if-not-branch.false) c.requires.known)
