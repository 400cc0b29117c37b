use Rattle.std.proofs.Common.{refl}
use Rattle.ndc_index.proofs.SeatLemmas.{taken_first_in, taken_never_in}
use Rattle.ndc_index.proofs.choose.take_out.Goals as goal

pub returns-in_err-place : goal.returns-in_err-place
returns-in_err-place g c =
    rw c.from_residual.ensures (taken_never_in _ _ c.args.name.now (λ x. refl) c.as_slice.result.now c.args.all.now.items c.as_slice.ensures.value (c.in_err-place.ensures.none refl))

pub returns : goal.returns
returns g c =
    taken_first_in _ _ c.args.name.now (λ x. refl) c.as_slice.result.now c.args.all.now.items c.remove.new.self.items c.in_ok-place.place c.remove.result
    c.as_slice.ensures.value c.in_ok-place.ensures.found.0 c.in_ok-place.ensures.found.1 c.in_ok-place.ensures.found.2 c.remove.ensures.value c.remove.ensures.items
