use Rattle.ndc_example_cell.specs.Shared.{AreShared}
use Rattle.ndc_example_cell.proofs.engine.hear_all.Given as goal

-- what they share is shared
abbrev pub invariant-loop-message : goal.invariant-loop-message
invariant-loop-message l = AreShared l.shared.clusters.now l.shared.me l.shared.them l.shared.most l.shared.domain.now l.shared.workflow.now l.mine l.theirs
