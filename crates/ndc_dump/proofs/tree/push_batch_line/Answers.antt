use Rattle.std.proofs.Common.{codes, decimal, ap, ◌∙◌, List, ◌++◌}
use Rattle.ndc_event.specs.declared.batch.Event.{Event}
use Rattle.ndc_model_sets.specs.Paths.{first_id, last_id}
use Rattle.ndc_text.specs.Views.{current_mark}
use Rattle.ndc_dump.specs.Marks.{batch_head}
use Rattle.ndc_text.proofs.Joining.{behind_six}
use Rattle.ndc_dump.proofs.tree.push_batch_line.Goals as goal

pub returns : goal.returns
returns c =
    let b = c.args.batch.now in
    behind_six c.args.text.now.items (batch_head b) (codes " events ") (decimal (first_id b.events)) (codes "..") (decimal (last_id b.events)) (current_mark c.args.is_current) (codes "\n")
    c.push_batch_head.new.text.items c.push_events.new.text.items c.in_ok-push_batch_head.ensures
    (c.in_ok-push_events.ensures
    ∙ ap (λ (events : List Event). c.push_batch_head.new.text.items ++ codes " events " ++ decimal (first_id events) ++ codes ".." ++ decimal (last_id events) ++ current_mark c.args.is_current ++ codes "\n") c.as_slice.ensures)
