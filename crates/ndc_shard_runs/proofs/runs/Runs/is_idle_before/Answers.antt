use Rattle.std.proofs.Common.{not, ◌∙◌, ap, sym}
use Rattle.ndc_shard_runs.proofs.TipLemmas.{idle-at}
use Rattle.ndc_shard_runs.proofs.runs.Runs.is_idle_before.Goals as goal

pub returns-then-is_before : goal.returns-then-is_before
returns-then-is_before c =
    ap not c.is_open.ensures ∙ idle-at c.args.self.now c.last_key.ensures.sound c.in-Some.last c.args.key c.in-Some.ensures.key (sym c.is_before.ensures ∙ c.if-is_before.true)
