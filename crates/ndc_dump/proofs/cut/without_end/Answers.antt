use Rattle.ndc_dump.proofs.Cuts.{front-within, front-of}
use Rattle.ndc_dump.proofs.cut.without_end.Goals as goal

pub split_at-requires : goal.split_at-requires
split_at-requires c = rw c.end_of.ensures (front-within c.args.line.now)

pub returns : goal.returns
returns c = rw (c.split_at.ensures.front, c.end_of.ensures) (front-of c.args.line.now)
