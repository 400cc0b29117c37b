use Rattle.std.proofs.Common.{refl}
use Rattle.ndc_shard_entries.proofs.LawProofs.{command-behind, reapplication-behind, reset-behind}
use Rattle.ndc_model_sets.specs.Branches.{workflow_tip}
use Rattle.ndc_model_sets.specs.Current.{strays}
use Rattle.ndc_shard_entries.proofs.laws.what_is_written_comes_behind_all_that_is_learned.Goals as goal

pub returns-clause-commands : goal.returns-clause-commands
returns-clause-commands c = λ batches version limit domain workflow command sound top. command-behind batches version domain workflow sound top limit command

pub returns-clause-resets : goal.returns-clause-resets
returns-clause-resets c = λ batches version limit event domain workflow sound top. reset-behind batches version domain workflow sound top event limit (workflow_tip batches) refl

pub returns-clause-reapplications : goal.returns-clause-reapplications
returns-clause-reapplications c = λ batches version domain workflow sound top. reapplication-behind batches version domain workflow sound top (workflow_tip batches) refl (strays batches)
