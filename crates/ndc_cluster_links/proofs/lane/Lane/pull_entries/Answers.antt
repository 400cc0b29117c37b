use Rattle.std.proofs.Common.{ap, arith, length}
use Rattle.std.proofs.lemmas.List.Sums.{count_by-le-length, length-filter}
use Rattle.ndc_model.specs.Queues.{is_addressed}
use Rattle.ndc_cluster_links.proofs.lane.Lane.pull_entries.Goals as goal

pub returns-clause-most : goal.returns-clause-most
returns-clause-most c =
    omega (
      arith,
      ap length c.keep_addressed.ensures,
      length-filter (is_addressed c.args.reader c.args.table.now) c.in_ok-sent.sent.items,
      count_by-le-length (is_addressed c.args.reader c.args.table.now) c.in_ok-sent.sent.items,
      c.in_ok-sent.ensures.most,
    )
