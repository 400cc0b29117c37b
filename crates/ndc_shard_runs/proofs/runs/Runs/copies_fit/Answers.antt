use Rattle.std.proofs.Common.{◌∙◌, sym}
use Rattle.ndc_shard_runs.proofs.CopyLemmas.{fit-tested, tested-fit}
use Rattle.ndc_shard_runs.proofs.runs.Runs.copies_fit.Goals as goal

pub returns : goal.returns
returns c = (
  λ t. tested-fit c.args.self.now c.args.batch.now c.last_key-key.ensures.sound c.requires (sym c.are_fit_copies.ensures ∙ t),
  λ fit. c.are_fit_copies.ensures ∙ fit-tested c.args.self.now c.args.batch.now c.last_key-key.ensures.sound c.requires fit,
)
