use Rattle.std.proofs.Common.{arith}
use Rattle.ndc_script_words.proofs.Cuts.{line_len-first, line_len-none}
use Rattle.ndc_script_words.proofs.text.line_len.Goals as goal

pub returns-in-Some : goal.returns-in-Some
returns-in-Some c = line_len-first c.args.bytes.now c.in-Some.at c.in-Some.ensures.0.high (λ k less. c.in-Some.ensures.0.before k (omega arith) less) c.in-Some.ensures.1

pub returns-in-None : goal.returns-in-None
returns-in-None c = line_len-none c.args.bytes.now (λ k below. c.in-None.ensures k (omega arith) below)
