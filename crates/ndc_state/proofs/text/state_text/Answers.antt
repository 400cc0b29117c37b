use Rattle.std.specs.Prelude.{decimal, length}
use Rattle.std.specs.Map.{values_of}
use Rattle.ndc_state.specs.Text.{decision_text, list_text, yes_or_no}
use Rattle.ndc_state.proofs.TextLemmas.{line_joined}
use Rattle.ndc_state.proofs.text.state_text.Goals as goal

-- each part is printed as it is to be
pub returns : goal.returns
returns c =
    rw (← c.state.view_is, c.into_bytes.ensures.value, c.in_ok-text.ensures.ok, c.in_ok-decision.ensures, c.in_ok-activities.ensures, c.in_ok-timers.ensures, c.in_ok-children.ensures, c.len-signals.ensures, c.yes_or_no-cancel.ensures)
    (line_joined (decimal c.state.inside.outline.next) (decision_text c.state.inside.outline.decision) (list_text (values_of c.state.inside.activities.current))
    (list_text (values_of c.state.inside.timers.current)) (list_text (values_of c.state.inside.children.current))
    (decimal (length c.state.inside.origins.current)) (yes_or_no c.state.inside.outline.cancel))
