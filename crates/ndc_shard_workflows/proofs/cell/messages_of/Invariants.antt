use Rattle.std.proofs.Common.{◌≡◌, ◌++◌, drop, map}
use Rattle.std.specs.List.{flat_map}
use Rattle.ndc_model_cells.specs.Domains.{learned_of_domains}
use Rattle.ndc_shard_workflows.specs.Messages.{messages_in}
use Rattle.ndc_shard_workflows.proofs.cell.messages_of.Given as goal

-- the messages so far, and those of the workflows that are left, are all
abbrev pub invariant-loop-workflow : goal.invariant-loop-workflow
invariant-loop-workflow l = l.list.items ++ flat_map messages_in (map (λ w. w.now) (drop l.workflow-index l.workflow-items)) ≡ learned_of_domains l.domains l.workflows
