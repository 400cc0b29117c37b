use Rattle.std.proofs.Common.{ap, ◌∙◌}
use Rattle.ndc_model_sets.proofs.KeyOrder.{key_cmp-by}
use Rattle.ndc_resend.specs.Bringing.{with_brought}
use Rattle.ndc_world_replication.proofs.BroughtLemmas.{inserted}
use Rattle.ndc_world_replication.proofs.brought.Brought.put.Goals as goal

pub invariant_of-self-2 : goal.invariant_of-self-2
invariant_of-self-2 c = (inserted _ key_cmp-by c.args.message c.self.inside.map.entries c.insert.new.self.entries c.self.invariant c.in_ok-insert.ensures.entries).1

pub returns : goal.returns
returns c = (inserted _ key_cmp-by c.args.message c.self.inside.map.entries c.insert.new.self.entries c.self.invariant c.in_ok-insert.ensures.entries).0 ∙ ap (with_brought c.args.message) c.self.view_is
