use Rattle.std.proofs.Common.{map, ap, ◌∙◌}
use Rattle.ndc_dump.proofs.ViewLines.{behind-batches, few-batches}
use Rattle.ndc_dump.proofs.read.view_lines.Goals as goal

pub split_at-requires : goal.split_at-requires
split_at-requires c = few-batches (λ line. line.now) c.args.lines.now c.batch_count.result c.batch_count.ensures

pub returns-clause-lines : goal.returns-clause-lines
returns-clause-lines c =
    ap (map (λ line. line.now)) c.split_at.ensures.back ∙ behind-batches (λ line. line.now) c.args.lines.now c.batch_count.result c.batch_count.ensures
