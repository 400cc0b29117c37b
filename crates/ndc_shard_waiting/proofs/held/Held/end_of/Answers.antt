use Rattle.std.proofs.Common.{sym, ◌∙◌}
use Rattle.ndc_model_cells.specs.Messages.{batches_of}
use Rattle.ndc_shard_waiting.proofs.MissingLemmas.{missing-absent}
use Rattle.ndc_shard_waiting.proofs.ShortcutLemmas.{up-smaller}
use Rattle.ndc_shard_waiting.proofs.held.Held.end_of.Goals as goal

pub loop-up-smaller : goal.loop-up-smaller
loop-up-smaller c = up-smaller (batches_of c.args.self.now) c.loop-up.at c.in-Some.up c.in-Some.ensures.goes

pub returns : goal.returns
returns c = sym (missing-absent c.loop-up.at (batches_of c.args.self.now) c.in_default.ensures.goes) ∙ c.loop-up.invariant
