use Rattle.std.proofs.Common.{arith}
use Rattle.ndc_shard_entries.proofs.IdLemmas.{command-ids, reapplied-ids, resets-ids}
use Rattle.ndc_model_sets.specs.Branches.{workflow_tip}
use Rattle.ndc_model_sets.specs.Current.{strays}
use Rattle.ndc_shard_entries.proofs.laws.what_is_written_keeps_ids_small.Goals as goal

pub returns-clause-commands : goal.returns-clause-commands
returns-clause-commands c = λ batches version limit domain workflow command least. command-ids batches version domain workflow limit limit command (omega arith) least

pub returns-clause-resets : goal.returns-clause-resets
returns-clause-resets c = λ batches version limit event domain workflow. resets-ids batches version domain workflow event limit (workflow_tip batches)

pub returns-clause-reapplications : goal.returns-clause-reapplications
returns-clause-reapplications c = λ batches version most domain workflow small. reapplied-ids batches version domain workflow most (workflow_tip batches) (strays batches) small
