use Rattle.std.proofs.Common.{Some, ◌∙◌, ap}
use Rattle.std.specs.Option.{option_copied}
use Rattle.ndc_shard_runs.proofs.TipLemmas.{state-none, state-there, state-some}
use Rattle.ndc_shard_runs.proofs.runs.Runs.state.Goals as goal

pub returns-in_err-key : goal.returns-in_err-key
returns-in_err-key c = ap option_copied c.from_residual.ensures ∙ state-none c.args.self.now c.last_key.ensures.sound c.in_err-key.ensures.key

pub returns-in_err-run_of : goal.returns-in_err-run_of
returns-in_err-run_of c = absurd (state-there c.args.self.now c.last_key.ensures.sound c.in_ok-key.key c.in_ok-key.ensures.key c.in_err-run_of.ensures.run)

pub returns : goal.returns
returns c = ap Some c.state.ensures ∙ state-some c.args.self.now c.last_key.ensures.sound c.in_ok-key.key c.in_ok-key.ensures.key c.in_ok-run_of.field-0.now c.in_ok-run_of.ensures.run
