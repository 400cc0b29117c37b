use Rattle.std.proofs.Common.{subst, ap₂, sym, ◌∙◌, refl, ◌<◌, ◌+◌, ◌*◌, arith}
use Rattle.ndc_event.specs.Front.{digits}
use Rattle.ndc_event.proofs.Fronts.{digits-more, digits-fit, fits-more}
use Rattle.ndc_event.proofs.name.front_of.Goals as goal

pub loop-place-init : goal.loop-place-init
unfolding digits
loop-place-init c = (refl, omega arith)

pub overflow_mul-front : goal.overflow_mul-front
overflow_mul-front c = omega (arith, digits-fit c.loop-place.place c.loop-place.front c.loop-place-test.true c.loop-place.invariant.1)

pub overflow_add-front : goal.overflow_add-front
overflow_add-front c = omega (arith, digits-fit c.loop-place.place c.loop-place.front c.loop-place-test.true c.loop-place.invariant.1, c.from.ensures, c.byte_at.ensures.small)

pub loop-place-preserved : goal.loop-place-preserved
loop-place-preserved c = (
  ap₂ (λ front byte. front * 256 + byte) c.loop-place.invariant.0 (c.from.ensures ∙ c.byte_at.ensures.byte)
      ∙ sym (digits-more 0 c.loop-place.place c.args.bytes.now),
  fits-more c.loop-place.place c.loop-place.front c.from.result c.loop-place.invariant.1 (subst (λ byte. byte < 256) (sym c.from.ensures) c.byte_at.ensures.small),
)
