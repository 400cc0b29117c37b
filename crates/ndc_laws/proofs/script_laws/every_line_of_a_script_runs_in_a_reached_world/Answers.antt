use Rattle.ndc_laws.proofs.LinesBefore.{runs-reached}
use Rattle.ndc_laws.proofs.script_laws.every_line_of_a_script_runs_in_a_reached_world.Goals as goal

pub returns : goal.returns
returns c = runs-reached
