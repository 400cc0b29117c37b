use Rattle.std.proofs.Common.{◌<◌, refl, arith, rules}
use Rattle.ndc_dump.proofs.Cuts.{lines-split, line_len-within, line_len-some}
use Rattle.ndc_dump.proofs.cut.split_line.Goals as goal

pub split_at-requires : goal.split_at-requires
split_at-requires c = rw c.line_len.ensures (line_len-within c.args.bytes.now)

pub returns-clause-some : goal.returns-clause-some
returns-clause-some c =
    lines-split c.args.bytes.now c.split_at.result.0.now c.split_at.result.1.now (search rules)
    (rw (c.split_at.ensures.front, c.line_len.ensures) refl) (rw (c.split_at.ensures.back, c.line_len.ensures) refl)

pub returns-clause-shorter : goal.returns-clause-shorter
returns-clause-shorter c =
    let some : 0 < c.line_len.result = rw c.line_len.ensures (line_len-some c.args.bytes.now (search rules)) in
    omega (arith, c.split_at.ensures.back_len, some)
