use Rattle.std.specs.Prelude.{◌≡◌, drop}
use Rattle.ndc_shard.specs.Loading.{handed}
use Rattle.ndc_example_cell.specs.Shared.{CanTell}
use Rattle.ndc_example_cell.proofs.engine.learn_all.Given as goal

-- what is left can be told, and after it all were handed on
abbrev pub invariant-loop-message : goal.invariant-loop-message
invariant-loop-message l =
    CanTell l.shared.most l.shared.domain.now l.shared.workflow.now l.mine l.copy
    × (handed (drop l.message-index l.messages) l.copy ≡ handed l.messages l.fn.copy)
