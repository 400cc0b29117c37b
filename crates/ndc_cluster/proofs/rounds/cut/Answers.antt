use Rattle.std.proofs.Common.{◌-◌, ◌∙◌, sym, refl}
use Rattle.ndc_cluster.proofs.RoundLemmas.{all_more, cut_more, last_cut}
use Rattle.ndc_cluster.proofs.rounds.cut.Goals as goal

pub loop-done-preserved : goal.loop-done-preserved
loop-done-preserved g c = (
  cut_more _ _ c.loop-done.left.items c.split_off.new.self.items c.in_ok-slots.slots.items c.loop-done.pieces.items _ _ _ _ c.loop-done.invariant.0 c.in_ok-slots.ensures.items c.in_ok-slots.ensures.tail refl c.in_ok-push.ensures.items,
  all_more _ c.loop-done.pieces.items _ _ c.in_ok-push.ensures.items c.loop-done.invariant.1 refl,
  λ last. last_cut c.loop-done.left.items c.split_off.new.self.items c.len.result c.len-in-loop-done.result (c.args.count - 1 - c.loop-done.done) c.args.count c.loop-done.done c.in_ok-slots.ensures.items (c.len.ensures ∙ sym c.len-in-loop-done.ensures) refl last,
)
