use Rattle.std.proofs.Common.{map}
use Rattle.ndc_dump.proofs.ReadLemmas.{given_read, given_count}
use Rattle.ndc_dump.proofs.batches.batches_on.Goals as goal

pub returns-clause-read : goal.returns-clause-read
returns-clause-read c = given_read c.args.heading.now (map (λ line. line.now) c.args.lines.now) (λ batches. batches.items) c.batches_to.result c.batches_to.ensures

pub returns-clause-count : goal.returns-clause-count
returns-clause-count c = given_count c.args.heading.now (λ line. line.now) c.args.lines.now (λ batches. batches.items) c.batches_to.result c.batches_to.ensures
