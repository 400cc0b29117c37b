use Rattle.ndc_probe.specs.Workflows.{dumps_head}
use Rattle.ndc_probe.proofs.workflows.push_dumps_head.Goals as goal

pub returns : goal.returns
unfolding dumps_head
returns c = rw (c.as_bytes.ensures.bytes, c.name.ensures) at c.push_pieces.ensures
