use Rattle.std.proofs.Common.{refl}
use Rattle.ndc_explain.proofs.explanation.findings.Goals as goal

pub returns : goal.returns
returns c = rw (c.in_ok-sides.ensures, c.in_ok-signals.ensures, c.in_ok-settlers.ensures, c.in_ok-keys.ensures, c.as_slice-batches.ensures) refl
