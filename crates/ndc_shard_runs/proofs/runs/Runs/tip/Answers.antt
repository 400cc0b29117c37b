use Rattle.std.proofs.Common.{◌∙◌, ap}
use Rattle.std.specs.Option.{option_copied}
use Rattle.ndc_shard_runs.proofs.TipLemmas.{tip-none, tip-some}
use Rattle.ndc_shard_runs.proofs.runs.Runs.tip.Goals as goal

pub returns-in_err-key : goal.returns-in_err-key
returns-in_err-key c = ap option_copied c.from_residual.ensures ∙ tip-none c.args.self.now c.last_key.ensures.sound c.in_err-key.ensures.key

pub returns : goal.returns
returns c = c.get.ensures ∙ tip-some c.args.self.now c.last_key.ensures.sound c.in_ok-key.key c.in_ok-key.ensures.key
