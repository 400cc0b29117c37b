use Rattle.std.proofs.Common.{get_or, map, ap, sym, subst}
use Rattle.std.specs.List.{AllByRecursion}
use Rattle.ndc_cluster.specs.Rounds.{SlotMay, slot_done, slot_of}
use Rattle.ndc_cluster.proofs.EachLemmas.{changed_more, next_still}
use Rattle.ndc_cluster.proofs.piece.do_all.Goals as goal

pub do_jobs-requires : goal.do_jobs-requires
do_jobs-requires g c =
    next_still _ (slot_done c.args.desk.now) c.deref_mut-slot-items.result.now c.loop-slot.slot-items c.loop-slot.slot-index c.loop-slot.invariant c.loop-slot-test.true (SlotMay g.C.Cell.allows c.args.desk.now) c.slot-item.result
    (subst (λ xs. AllByRecursion (SlotMay g.C.Cell.allows c.args.desk.now) (map (λ slot. slot_of (g.C.Cell.cell slot.cell) (map (λ job. job.now) slot.jobs.items) slot.replies.items slot.fresh.from slot.fresh.messages.items) xs)) (sym c.deref_mut-slot-items.ensures.value) c.requires)

pub loop-slot-preserved : goal.loop-slot-preserved
loop-slot-preserved g c =
    changed_more _ (slot_done c.args.desk.now) c.deref_mut-slot-items.result.now c.loop-slot.slot-items c.loop-slot.slot-index c.loop-slot.invariant c.loop-slot-test.true
    (get_or c.loop-slot.slot-items c.loop-slot.slot-index c.slot-item.result) c.do_jobs.new.slot (ap (λ z. get_or c.loop-slot.slot-items c.loop-slot.slot-index z) c.slot-item.is) c.in_ok-do_jobs.ensures
