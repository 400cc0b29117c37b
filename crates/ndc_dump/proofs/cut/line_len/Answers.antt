use Rattle.std.proofs.Common.{arith}
use Rattle.ndc_dump.proofs.Cuts.{front-within, line_len-end}
use Rattle.ndc_dump.proofs.cut.line_len.Goals as goal

pub overflow_add-end_of : goal.overflow_add-end_of
overflow_add-end_of c = omega (arith, c.end_of.ensures, front-within c.args.bytes.now)

pub returns : goal.returns
returns c = rw (c.min.ensures, c.end_of.ensures) (line_len-end c.args.bytes.now)
