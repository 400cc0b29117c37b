use Rattle.std.proofs.Common.{sym, ◌∙◌}
use Rattle.ndc_dump.proofs.ReadLemmas.{own-line}
use Rattle.ndc_dump.proofs.batches.batch_on.Goals as goal

pub with_shared_names-requires : goal.with_shared_names-requires
with_shared_names-requires c = own-line c.args.heading.now c.args.last c.in-Ok.batch (sym c.out_of_order.ensures ∙ c.in-None.is)
