use Rattle.ndc_tool_top.proofs.MadeLemmas.{if-demo-numbers, if-demo-same, if-made-again}
use Rattle.ndc_tool_top.proofs.top.perform.Goals as goal

pub returns-in-Make-clause-made_again : goal.returns-in-Make-clause-made_again
returns-in-Make-clause-made_again g c = if-made-again c.args.asked c.write_output.result c.requires.well_formed

pub returns-in-Demo-clause-demo_same : goal.returns-in-Demo-clause-demo_same
returns-in-Demo-clause-demo_same g c = if-demo-same c.args.asked c.write_output-in-Demo.result c.requires.well_formed

pub returns-in-Demo-clause-demo_numbers : goal.returns-in-Demo-clause-demo_numbers
returns-in-Demo-clause-demo_numbers g c = if-demo-numbers c.args.asked c.write_output-in-Demo.result c.requires.well_formed
