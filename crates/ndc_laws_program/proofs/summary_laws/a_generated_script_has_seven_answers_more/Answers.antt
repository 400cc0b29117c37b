use Rattle.ndc_laws_program.proofs.GeneratedLemmas.{generated-answers}
use Rattle.ndc_laws_program.proofs.summary_laws.a_generated_script_has_seven_answers_more.Goals as goal

pub returns : goal.returns
returns c = generated-answers
