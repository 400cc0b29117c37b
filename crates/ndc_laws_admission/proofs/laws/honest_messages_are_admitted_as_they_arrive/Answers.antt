use Rattle.ndc_laws_admission.proofs.HonestLemmas.{admitted-as}
use Rattle.ndc_laws_admission.proofs.laws.honest_messages_are_admitted_as_they_arrive.Goals as goal

pub returns : goal.returns
returns c = λ terms all sent told before after is sound honest admitted. admitted-as terms all sent before after is sound honest told admitted
