use Rattle.ndc_shard.proofs.KeepLaws.{command-keeps, reapplication-keeps, reset-keeps}
use Rattle.ndc_shard.proofs.keeping_laws.what_is_written_is_in_the_set.Goals as goal

pub returns-clause-commands : goal.returns-clause-commands
returns-clause-commands c = command-keeps

pub returns-clause-resets : goal.returns-clause-resets
returns-clause-resets c = reset-keeps

pub returns-clause-reapplications : goal.returns-clause-reapplications
returns-clause-reapplications c = reapplication-keeps
