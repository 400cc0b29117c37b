use Rattle.std.proofs.Common.{List, ap, ◌∙◌}
use Rattle.ndc_event.specs.declared.batch.Batch.{Batch}
use Rattle.ndc_model_sets.specs.View.{view_of}
use Rattle.ndc_dump.proofs.ViewLines.{standing-view}
use Rattle.ndc_dump.proofs.bare.view_of.Goals as goal

pub returns : goal.returns
returns c =
    standing-view c.args.form c.args.batches.items c.new.result c.new-2.result (c.new.ensures ∙ c.in_ok-batches.ensures)
    (c.new-2.ensures ∙ (c.in_ok-runs.ensures ∙ ap (λ (bs : List Batch). (view_of bs).runs) c.as_slice.ensures.value))
