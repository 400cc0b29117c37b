use Rattle.std.proofs.Common.{sym, ◌∙◌}
use Rattle.ndc_event.proofs.Texts.{at-end}
use Rattle.ndc_event.proofs.name.compared.Goals as goal

-- src/name.rt:90:9
pub returns-then-both-le-NEAR : goal.returns-then-both-le-NEAR
returns-then-both-le-NEAR c =
    c.cmp-then-both-le-NEAR.ensures
    ∙ sym (at-end c.args.one.now c.args.two.now c.loop-place.place c.min-both.result c.min-place-end.result c.min-both.ensures c.min-place-end.ensures c.if-both-le-NEAR.true c.loop-place.auto.place-end c.loop-place-test.false)
    ∙ c.loop-place.invariant
