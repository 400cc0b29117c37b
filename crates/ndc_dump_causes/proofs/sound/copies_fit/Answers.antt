use Rattle.std.proofs.Common.{◌≡◌, true, false, sym, ap, ◌∙◌}
use Rattle.ndc_dump_causes.specs.Causes.{has_unfit_copy}
use Rattle.ndc_dump_causes.specs.Originals.{has_unfit_among}
use Rattle.ndc_dump_causes.specs.declared.error.KeyCause.TheVariants.{OriginUnfit}
use Rattle.ndc_dump_causes.proofs.Firsts.{passed-one, refused-held}
use Rattle.ndc_dump_causes.proofs.KnownLemmas.{unfit-copies}
use Rattle.ndc_dump_causes.proofs.sound.copies_fit.Goals as goal

pub returns-then-has_unfit_copy : goal.returns-then-has_unfit_copy
returns-then-has_unfit_copy c =
    let b = c.batch-item.result in
    let yes : has_unfit_copy c.args.batches.now b ≡ true =
    sym (ap (has_unfit_among c.in_ok-known.known) c.as_slice.ensures ∙ unfit-copies c.in_ok-known.known c.args.batches.now b c.in_ok-known.ensures) ∙ sym c.has_unfit_copy.ensures ∙ c.if-has_unfit_copy.true in
    refused-held OriginUnfit (has_unfit_copy c.args.batches.now) c.args.batches.now c.loop-batch.batch-index b c.refusal.result c.loop-batch-test.true c.batch-item.is yes c.loop-batch.invariant c.refusal.ensures

pub loop-batch-preserved : goal.loop-batch-preserved
loop-batch-preserved c =
    let b = c.batch-item.result in
    let no : has_unfit_copy c.args.batches.now b ≡ false =
    sym (ap (has_unfit_among c.in_ok-known.known) c.as_slice.ensures ∙ unfit-copies c.in_ok-known.known c.args.batches.now b c.in_ok-known.ensures) ∙ sym c.has_unfit_copy.ensures ∙ c.if-has_unfit_copy.false in
    passed-one OriginUnfit (has_unfit_copy c.args.batches.now) c.args.batches.now c.loop-batch.batch-index b c.loop-batch-test.true c.batch-item.is no c.loop-batch.invariant
