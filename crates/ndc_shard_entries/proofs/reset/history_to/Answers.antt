use Rattle.std.proofs.Common.{◌∙◌, ap, map, List, Bor, rules}
use Rattle.ndc_event.specs.declared.batch.Event.{Event}
use Rattle.ndc_shard_entries.proofs.TipLemmas.{no-history}
use Rattle.ndc_shard_entries.proofs.reset.history_to.Goals as goal

-- src/reset.rt:155:1
pub returns-in-None : goal.returns-in-None
returns-in-None c = ap (λ (l : List (Bor Event)). map (λ e. e.now) l) c.new.ensures.items ∙ no-history c.args.runs.now c.args.key (search rules)
