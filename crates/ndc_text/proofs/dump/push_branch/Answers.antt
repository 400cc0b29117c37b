use Rattle.std.proofs.Common.{codes}
use Rattle.ndc_state.specs.Text.{state_text}
use Rattle.ndc_text.specs.Views.{branch_line}
use Rattle.ndc_text.proofs.Joining.{behind_one}
use Rattle.ndc_text.proofs.dump.push_branch.Goals as goal

pub returns : goal.returns
returns c =
    behind_one c.push_state_line.result c.args.text.now.items (branch_line c.args.branch.now) (codes "state ") (state_text c.args.branch.now.state) (codes "\n")
    c.push_branch_line.new.text.items c.push_state_line.new.text.items c.in_ok-push_branch_line.ensures c.push_state_line.ensures
