use Rattle.std.proofs.Common.{sym, arith}
use Rattle.std.proofs.lemmas.List.{take_more_same}
use Rattle.ndc_domain.proofs.Edits.{record_eq_true, same_read}
use Rattle.ndc_domain.proofs.Order.{no_record}
use Rattle.ndc_domain.proofs.table.are_same.Goals as goal

-- the records at the place are the same too
pub loop-place-preserved : goal.loop-place-preserved
loop-place-preserved c =
    take_more_same c.args.ours.now c.args.theirs.now c.loop-place.place no_record (omega arith) (omega arith) c.loop-place.invariant
    (same_read c.args.ours.now c.args.theirs.now c.loop-place.place no_record c.index-ours-place.result c.index-theirs-place.result (omega arith) (omega arith)
    c.index-ours-place.is c.index-theirs-place.is (record_eq_true _ _ (sym c.if-not-is_same.ensures)))
