use Rattle.ndc_shard_waiting.proofs.LawLemmas.{others_put_off, all_arrived, freed_are_new, others_wait, answers_learned}
use Rattle.ndc_shard_waiting.proofs.laws.an_arrival_frees_what_waits_for_it.Goals as goal

pub returns-clause-put_off : goal.returns-clause-put_off
returns-clause-put_off c = others_put_off

pub returns-clause-arrived : goal.returns-clause-arrived
returns-clause-arrived c = all_arrived

pub returns-clause-learned : goal.returns-clause-learned
returns-clause-learned c = freed_are_new

pub returns-clause-waits : goal.returns-clause-waits
returns-clause-waits c = others_wait

pub returns-clause-answer : goal.returns-clause-answer
returns-clause-answer c = answers_learned
