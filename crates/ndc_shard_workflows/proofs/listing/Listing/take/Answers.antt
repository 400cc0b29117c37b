use Rattle.std.proofs.Common.{◌≡◌}
use Rattle.ndc_event.specs.declared.name.Name.{Name}
use Rattle.ndc_shard_workflows.proofs.DueLemmas.{listed-less}
use Rattle.ndc_shard_workflows.proofs.listing.Listing.take.Goals as goal

pub returns-clause-ok : goal.returns-clause-ok
returns-clause-ok c d w =
    let same : ◌≡◌ {A = Name × Name} (c.in_ok-try_copy.field-0, c.in_ok-try_copy-2.field-0) (c.args.domain.now, c.args.workflow.now) = λ i. (c.in_ok-try_copy.ensures i, c.in_ok-try_copy-2.ensures i) in
    listed-less (c.in_ok-try_copy.field-0, c.in_ok-try_copy-2.field-0) (c.args.domain.now, c.args.workflow.now) c.args.self.now c.self.inside.set.keys c.remove.new.self.keys same c.self.view_is d w (c.remove.ensures.updates.0 (d, w))
