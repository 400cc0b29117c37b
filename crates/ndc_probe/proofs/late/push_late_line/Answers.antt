use Rattle.ndc_probe.specs.Late.{late_line}
use Rattle.ndc_probe.proofs.late.push_late_line.Goals as goal

pub returns : goal.returns
unfolding late_line
returns c = rw c.as_bytes.ensures.bytes at c.push_pieces.ensures
