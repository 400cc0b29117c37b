use Rattle.ndc_laws.proofs.CountedLemmas.{worlds-counted}
use Rattle.ndc_laws.proofs.script_laws.every_world_of_a_script_is_reached_behind_its_lines.Goals as goal

pub returns : goal.returns
returns c = worlds-counted
