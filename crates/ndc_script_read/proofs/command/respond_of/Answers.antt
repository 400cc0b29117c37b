use Rattle.std.proofs.Common.{map}
use Rattle.ndc_script_read.proofs.ActionFits.{actions_well_formed}
use Rattle.ndc_script_read.proofs.command.respond_of.Goals as goal

-- actions that are read are well-formed
pub returns-clause-well_formed : goal.returns-clause-well_formed
returns-clause-well_formed c =
    rw c.new.ensures (actions_well_formed c.args.line (map (λ word. word.now) c.args.words.now) c.in_ok-actions.actions.items c.in_ok-actions.ensures)
