use Rattle.std.proofs.Common.{◌≡◌, ◌-◌, List, Some, length, slice_get, ap, sym, ◌∙◌}
use Rattle.ndc_event.specs.declared.batch.Event.{Event}
use Rattle.ndc_admission.proofs.GoesLemmas.{goes-last}
use Rattle.ndc_admission.proofs.fault.goes_on.Goals as goal

pub returns-in-Some : goal.returns-in-Some
returns-in-Some c =
    let last : slice_get c.args.batch.now.events (length c.args.batch.now.events - 1) ≡ Some c.in-Some.event.now =
    sym (c.in-Some.ensures.value ∙ ap (λ (events : List Event). slice_get events (length events - 1)) c.as_slice.ensures) in
    c.continues.ensures ∙ sym (goes-last c.args.batch.now.events c.in-Some.event.now last)
