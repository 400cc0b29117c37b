use Rattle.ndc_shard.proofs.KeepingLemmas.{can-arrive, can-command, can-reapply, can-reset}
use Rattle.ndc_shard.proofs.keeping_laws.what_a_caller_vouches_for_may_be_done.Goals as goal

pub returns-clause-commands : goal.returns-clause-commands
returns-clause-commands c = λ home domain workflow cell orderly can. can-command home domain workflow cell orderly.cell_is (orderly.workflows domain workflow) can

pub returns-clause-resets : goal.returns-clause-resets
returns-clause-resets c = λ home domain workflow cell orderly can. can-reset home domain workflow cell orderly.cell_is (orderly.workflows domain workflow) can

pub returns-clause-arrivals : goal.returns-clause-arrivals
returns-clause-arrivals c = λ home sent cell orderly. can-arrive sent cell orderly.cell_is orderly.carried

pub returns-clause-reapplications : goal.returns-clause-reapplications
returns-clause-reapplications c = λ home cell orderly. can-reapply home cell orderly.cell_is orderly.workflows
