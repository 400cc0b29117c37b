use Rattle.ndc_laws.proofs.ResetLemmas.{reset-leaves}
use Rattle.ndc_laws.proofs.reset_laws.a_reset_goes_on_in_a_new_current_run.Goals as goal

pub returns : goal.returns
returns c = λ header lines w cluster domain workflow event entries well few is names at. reset-leaves header well lines few w is cluster domain workflow names event entries at
