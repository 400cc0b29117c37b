use Rattle.std.proofs.Common.{◌≡◌, ◌++◌, drop}
use Rattle.std.specs.List.{flat_map}
use Rattle.ndc_probe.specs.Workflows.{forks_in}
use Rattle.ndc_probe.proofs.workflows.forks_of.Given as goal

-- the lines so far, with those of the workflows that are left, are all
abbrev pub invariant-loop-workflow : goal.invariant-loop-workflow
invariant-loop-workflow l =
    l.lines.items ++ flat_map (forks_in l.header l.at.cluster l.at.domain l.world.world) (drop l.workflow-index l.workflows)
    ≡ flat_map (forks_in l.header l.at.cluster l.at.domain l.world.world) l.workflows
