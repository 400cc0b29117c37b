use Rattle.std.proofs.Common.{◌≡◌, ◌++◌, drop}
use Rattle.std.specs.List.{flat_map}
use Rattle.ndc_probe.specs.Workflows.{dump_in}
use Rattle.ndc_probe.proofs.workflows.push_dumps_of.Given as goal

-- the text so far, with the dumps of the workflows that are left, is the whole
abbrev pub invariant-loop-workflow : goal.invariant-loop-workflow
invariant-loop-workflow l =
    l.text.items ++ flat_map (dump_in l.header l.at.cluster l.at.domain l.world.world) (drop l.workflow-index l.workflows)
    ≡ l.initial.text.items ++ flat_map (dump_in l.header l.at.cluster l.at.domain l.world.world) l.workflows
