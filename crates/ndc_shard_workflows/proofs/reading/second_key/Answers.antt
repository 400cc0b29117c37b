use Rattle.std.proofs.Common.{rules, ◌∙◌, ap, map}
use Rattle.ndc_model_cells.specs.Cells.{carries}
use Rattle.ndc_model_sets.specs.Reading.{named}
use Rattle.ndc_shard_workflows.proofs.CarriedLemmas.{first-found, least-behind}
use Rattle.ndc_shard_workflows.proofs.reading.second_key.Goals as goal

pub returns : goal.returns
returns c =
    ap (λ o. named o c.args.workflow.now.arrived)
    (least-behind (carries c.args.batch.now) c.args.workflow.now c.requires.workflow (map (λ b. b.now) c.as_slice.result.now) c.args.found c.least_carried.result (search rules) c.requires.found (search rules))
    ∙ first-found (carries c.args.batch.now) c.args.workflow.now c.requires.workflow
