use Rattle.std.proofs.Common.{◌+◌, ap}
use Rattle.ndc_explain_union.proofs.Readings.{taken-next}
use Rattle.ndc_explain_union.proofs.taken.taken_of.Goals as goal

pub loop-part-preserved : goal.loop-part-preserved
loop-part-preserved c = record {
  number = ap (λ n. n + 1) c.loop-part.invariant.number;
  taken = taken-next c.args.bare c.loop-part.number c.loop-part.part-index c.args.parts.now c.part-item.result c.in_ok-taken.taken c.loop-part.list.items c.push.new.self.items _
      c.loop-part-test.true c.part-item.is c.in_ok-taken.ensures c.in_ok-push.ensures.items c.loop-part.invariant.taken;
}
