use Rattle.std.proofs.Common.{◌∙◌, sym}
use Rattle.ndc_shard_entries.proofs.KindLemmas.{goes-at}
use Rattle.ndc_shard_entries.proofs.batch.goes_on_as.Goals as goal

-- src/batch.rt:103:1
pub returns-in-Some : goal.returns-in-Some
returns-in-Some c = c.continued_type.ensures ∙ sym (goes-at c.args.kinds.now c.in-Some.kind.now (sym c.in-Some.ensures.value))
