use Rattle.std.proofs.Common.{ap, ap₂, sym, ◌∙◌, drop}
use Rattle.std.specs.Cmp.Lexicographic.{slice_cmp}
use Rattle.std.specs.Ordering.{nat_cmp}
use Rattle.ndc_event.proofs.Fronts.{name-bytes, front-cmp, same-front}
use Rattle.ndc_event.proofs.name.Name.compared.Goals as goal

pub returns-then-front-others : goal.returns-then-front-others
returns-then-front-others c =
    c.cmp.ensures
    ∙ ap₂ nat_cmp c.front-front.ensures.front c.front-others.ensures.front
    ∙ front-cmp 8 c.args.self.now c.args.other.now (name-bytes c.args.self.now c.front-front.ensures.is_name) (name-bytes c.args.other.now c.front-others.ensures.is_name)
    (λ same. c.if-front-others.true (c.front-front.ensures.front ∙ same ∙ sym c.front-others.ensures.front))

pub returns : goal.returns
returns c =
    c.compared.ensures
    ∙ ap₂ (slice_cmp nat_cmp) (c.behind_front.ensures ∙ ap (drop 8) c.as_bytes.ensures.bytes) (c.behind_front-2.ensures ∙ ap (drop 8) c.as_bytes-2.ensures.bytes)
    ∙ sym (same-front 8 0 c.args.self.now c.args.other.now (name-bytes c.args.self.now c.front-front.ensures.is_name) (name-bytes c.args.other.now c.front-others.ensures.is_name)
    (sym c.front-front.ensures.front ∙ c.if-front-others.false ∙ c.front-others.ensures.front))
