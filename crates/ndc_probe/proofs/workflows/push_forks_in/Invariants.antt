use Rattle.std.proofs.Common.{◌≡◌, ◌++◌, drop}
use Rattle.std.specs.List.{flat_map}
use Rattle.ndc_probe.specs.Learned.{fork_line}
use Rattle.ndc_probe.proofs.workflows.push_forks_in.Given as goal

-- the text so far, with the lines of the runs that are left, is the whole
abbrev pub invariant-loop-run : goal.invariant-loop-run
invariant-loop-run l = l.text.items ++ flat_map (fork_line l.workflow) (drop l.run-index l.run-items) ≡ l.initial.text.items ++ flat_map (fork_line l.workflow) l.run-items
