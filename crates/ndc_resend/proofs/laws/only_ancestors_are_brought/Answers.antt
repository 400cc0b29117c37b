use Rattle.ndc_resend.specs.Bringing.{brought_to}
use Rattle.ndc_resend.proofs.AskedLemmas.{is-among}
use Rattle.ndc_resend.proofs.BringLemmas.{only_brought}
use Rattle.ndc_resend.proofs.laws.only_ancestors_are_brought.Goals as goal

pub returns : goal.returns
returns c = λ all author own answer w sent is among. only_brought all author own answer w sent is (is-among (brought_to answer w) sent among)
