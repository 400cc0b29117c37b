use Rattle.ndc_laws_program.proofs.PromiseLemmas.{keeps_promises}
use Rattle.ndc_laws_program.proofs.promise_laws.every_script_keeps_what_is_promised.Goals as goal

pub returns : goal.returns
returns c = keeps_promises
