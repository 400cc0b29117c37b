use Rattle.std.proofs.Common.{◌≡◌, ◌++◌, drop}
use Rattle.std.specs.List.{flat_map}
use Rattle.ndc_probe.specs.Workflows.{differ_in}
use Rattle.ndc_probe.proofs.workflows.differences.Given as goal

-- the lines so far, with those of the workflows that are left, are all
abbrev pub invariant-loop-workflow : goal.invariant-loop-workflow
invariant-loop-workflow l =
    l.lines.items ++ flat_map (differ_in l.header l.one l.two l.domain l.world.world) (drop l.workflow-index l.workflows)
    ≡ flat_map (differ_in l.header l.one l.two l.domain l.world.world) l.workflows
