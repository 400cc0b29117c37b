use Rattle.std.proofs.Common.{◌<◌, ◌++◌, ◌∷◌, [], length, sym, ap, ◌∙◌, arith}
use Rattle.ndc_event.specs.declared.name.Name.{Name}
use Rattle.ndc_probe.proofs.AmongLemmas.{added, passed}
use Rattle.ndc_probe.proofs.workflows.add_others.Goals as goal

pub loop-other-preserved-then-is_among : goal.loop-other-preserved-then-is_among
loop-other-preserved-then-is_among c =
    let within : c.loop-other.other-index < length c.args.others.now = omega arith in
    passed c.args.known.now c.loop-other.names.items c.args.others.now c.loop-other.other-index c.other-item.result _ within c.other-item.is c.loop-other.invariant (sym c.is_among.ensures ∙ c.if-is_among.true)

pub loop-other-preserved : goal.loop-other-preserved
loop-other-preserved c =
    let within : c.loop-other.other-index < length c.args.others.now = omega arith in
    added c.args.known.now c.loop-other.names.items c.args.others.now c.loop-other.other-index c.other-item.result _ within c.other-item.is c.loop-other.invariant c.push.new.self.items
    (c.in_ok-push.ensures.items ∙ ap (λ (name : Name). c.loop-other.names.items ++ name ∷ []) c.in_ok-try_copy.ensures) (sym c.is_among.ensures ∙ c.if-is_among.false)
