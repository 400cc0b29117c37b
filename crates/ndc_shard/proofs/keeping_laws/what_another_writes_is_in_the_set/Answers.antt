use Rattle.ndc_shard.proofs.KeepLaws.{command-elsewhere, reapplication-elsewhere, reset-elsewhere}
use Rattle.ndc_shard.proofs.keeping_laws.what_another_writes_is_in_the_set.Goals as goal

pub returns-clause-commands : goal.returns-clause-commands
returns-clause-commands c = command-elsewhere

pub returns-clause-resets : goal.returns-clause-resets
returns-clause-resets c = reset-elsewhere

pub returns-clause-reapplications : goal.returns-clause-reapplications
returns-clause-reapplications c = reapplication-elsewhere
