use Rattle.std.proofs.Common.{IsTrue, ap, sym, subst, ◌∙◌}
use Rattle.ndc_event.specs.Front.{IsSpelled, front_of}
use Rattle.ndc_event.specs.Name.{is_name}
use Rattle.ndc_event.proofs.name.spell.Goals as goal

pub returns-clause-spelled : goal.returns-clause-spelled
returns-clause-spelled c =
    subst IsSpelled (sym c.in_ok-new.ensures.ok) (record {
      is_name = subst (λ bytes. IsTrue (is_name bytes)) (sym c.in_ok-from_str.ensures.ok) c.requires;
      front = c.front_of.ensures ∙ ap front_of (c.as_bytes.ensures.value ∙ sym c.in_ok-from_str.ensures.ok);
    })
