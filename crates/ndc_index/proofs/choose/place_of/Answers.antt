use Rattle.std.proofs.Common.{◌∙◌, sym}
use Rattle.ndc_index.proofs.SeatLemmas.{none_more}
use Rattle.ndc_index.proofs.choose.place_of.Goals as goal

pub loop-place-preserved : goal.loop-place-preserved
loop-place-preserved g c = none_more _ c.args.name.now c.args.all.now c.loop-place.place c.index-all-place.result c.loop-place-test.true c.loop-place.invariant c.index-all-place.is (sym c.has_name.ensures ∙ c.if-has_name.false)
