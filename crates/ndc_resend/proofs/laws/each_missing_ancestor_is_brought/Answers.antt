use Rattle.ndc_resend.specs.Bringing.{brought_to}
use Rattle.ndc_resend.proofs.AskedLemmas.{among-is}
use Rattle.ndc_resend.proofs.BringLemmas.{all_brought}
use Rattle.ndc_resend.proofs.laws.each_missing_ancestor_is_brought.Goals as goal

pub returns : goal.returns
returns c = λ all author own answer w b x sent is has waits missing e. among-is (brought_to answer w) sent (all_brought all author own answer w b x sent is has waits missing e)
