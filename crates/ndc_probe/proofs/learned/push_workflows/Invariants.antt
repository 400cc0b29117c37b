use Rattle.std.proofs.Common.{◌≡◌, ◌++◌, drop}
use Rattle.std.specs.List.{flat_map}
use Rattle.ndc_probe.specs.Learned.{workflow_line, workflows_text}
use Rattle.ndc_probe.proofs.learned.push_workflows.Given as goal

-- the text so far, with the lines of what is left, is the whole
abbrev pub invariant-loop-workflow : goal.invariant-loop-workflow
invariant-loop-workflow l = l.text.items ++ flat_map workflow_line (drop l.workflow-index l.workflows) ≡ l.fn.text.items ++ workflows_text l.workflows
