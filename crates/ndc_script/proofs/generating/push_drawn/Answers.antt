use Rattle.std.proofs.Common.{◌<◌, ◌+◌, ◌∙◌, arith}
use Rattle.ndc_script.proofs.Generated.{drawn_step}
use Rattle.ndc_script.proofs.generating.push_drawn.Goals as goal

pub loop-place-preserved : goal.loop-place-preserved
loop-place-preserved c =
    let below : c.loop-place.place < c.args.count = omega arith in
    rw (c.in_ok-push_act.ensures, c.in_ok-act.ensures, c.drawn.ensures, c.next_state-state.ensures)
    (drawn_step c.loop-place.lines.items c.args.count c.loop-place.place (14 + c.loop-place.place) c.loop-place.state below (omega arith) ∙ c.loop-place.invariant)
