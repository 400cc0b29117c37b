use Rattle.std.proofs.Common.{ap, ◌∙◌}
use Rattle.std.proofs.lemmas.Map.Text.{is_eq-slice_cmp}
use Rattle.std.specs.Ordering.{is_eq}
use Rattle.ndc_event.proofs.name.NamePartialEq.eq.Goals as goal

-- src/name.rt:168:5
pub returns : goal.returns
returns c =
    c.is_eq.ensures
    ∙ ap is_eq c.compared.ensures
    ∙ is_eq-slice_cmp c.args.self.now c.args.other.now
