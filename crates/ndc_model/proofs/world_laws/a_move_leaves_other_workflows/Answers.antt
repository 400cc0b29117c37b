use Rattle.ndc_model.proofs.WorldLemmas.{arrival_leaves_others, command_leaves_others, reset_leaves_others}
use Rattle.ndc_model.proofs.world_laws.a_move_leaves_other_workflows.Goals as goal

pub returns-clause-command : goal.returns-clause-command
returns-clause-command c = command_leaves_others

pub returns-clause-reset : goal.returns-clause-reset
returns-clause-reset c = reset_leaves_others

pub returns-clause-arrival : goal.returns-clause-arrival
returns-clause-arrival c = arrival_leaves_others
