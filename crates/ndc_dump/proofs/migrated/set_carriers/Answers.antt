use Rattle.ndc_dump.proofs.CarrierSteps.{carried-more}
use Rattle.ndc_dump.proofs.migrated.set_carriers.Goals as goal

pub loop-place-preserved : goal.loop-place-preserved
loop-place-preserved c =
    carried-more c.args.batches.now c.loop-place.batches c.args.marks.now c.loop-place.place c.index-batches-place.result c.set_carrier.new.batch c.requires c.loop-place-test.true
    c.loop-place.invariant c.index-batches-place.is c.set_carrier.ensures
