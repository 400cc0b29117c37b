use Rattle.std.proofs.Common.{sym, ◌∙◌, ap}
use Rattle.ndc_event.specs.Attributes.{copied_origin}
use Rattle.ndc_event.proofs.SameKind.{same_kind, same_name}
use Rattle.ndc_event.proofs.kind.EventKind.is_same.Goals as goal

-- kinds with the same name and attributes are one
pub returns : goal.returns
returns c = (
  λ last.
      same_kind c.args.self.now c.args.other.now
      (same_name c.args.self.now c.args.other.now (sym c.number.ensures ∙ c.if-number.false ∙ c.number-2.ensures))
      (sym c.first_name.ensures ∙ c.is_same_name.ensures.0 c.if-not-is_same_name.false ∙ c.first_name-2.ensures)
      (sym c.second_name.ensures ∙ c.is_same_name-2.ensures.0 c.if-not-is_same_name-2.false ∙ c.second_name-2.ensures)
      (sym c.next_run.ensures ∙ c.is_same_run.ensures.0 c.if-not-is_same_run.false ∙ c.next_run-2.ensures)
      (sym c.copied_origin.ensures ∙ c.is_same_origin.ensures.0 last ∙ c.copied_origin-2.ensures),
  λ same. c.is_same_origin.ensures.1 (c.copied_origin.ensures ∙ ap copied_origin same ∙ sym c.copied_origin-2.ensures),
)
