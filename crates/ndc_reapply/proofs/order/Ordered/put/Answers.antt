use Rattle.std.proofs.Common.{◌∙◌, ap}
use Rattle.std.specs.Map.{values_of}
use Rattle.ndc_reapply.specs.Strays.{with_stray}
use Rattle.ndc_reapply.proofs.OrderLemmas.{origin_cmp-by}
use Rattle.ndc_reapply.proofs.StrayLemmas.{placed, in_place}
use Rattle.ndc_reapply.proofs.order.Ordered.put.Goals as goal

pub invariant_of-self-2 : goal.invariant_of-self-2
invariant_of-self-2 c =
    (in_place c.insert.new.self.entries (with_stray c.args.signal (values_of c.self.inside.signals.entries))
    (placed _ origin_cmp-by c.args.signal c.place_of.result c.self.inside.signals.entries c.insert.new.self.entries c.place_of.ensures c.self.invariant c.in_ok-insert.ensures.entries)).1

pub returns-clause-ok : goal.returns-clause-ok
returns-clause-ok c =
    (in_place c.insert.new.self.entries (with_stray c.args.signal (values_of c.self.inside.signals.entries))
    (placed _ origin_cmp-by c.args.signal c.place_of.result c.self.inside.signals.entries c.insert.new.self.entries c.place_of.ensures c.self.invariant c.in_ok-insert.ensures.entries)).0
    ∙ ap (with_stray c.args.signal) c.self.view_is
