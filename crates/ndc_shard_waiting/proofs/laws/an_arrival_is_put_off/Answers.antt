use Rattle.ndc_shard_waiting.proofs.FreeLemmas.{more_put_off, arrived_more}
use Rattle.ndc_shard_waiting.proofs.LawLemmas.{nothing_new, answers_missing}
use Rattle.ndc_shard_waiting.proofs.laws.an_arrival_is_put_off.Goals as goal

pub returns-clause-put_off : goal.returns-clause-put_off
returns-clause-put_off c = more_put_off

pub returns-clause-arrived : goal.returns-clause-arrived
returns-clause-arrived c = arrived_more

pub returns-clause-learned : goal.returns-clause-learned
returns-clause-learned c = nothing_new

pub returns-clause-answer : goal.returns-clause-answer
returns-clause-answer c = answers_missing
