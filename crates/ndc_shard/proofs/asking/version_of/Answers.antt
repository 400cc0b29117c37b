use Rattle.std.specs.Option.{option_copied}
use Rattle.ndc_shard.proofs.FoundLemmas.{record-parts}
use Rattle.ndc_shard.proofs.asking.version_of.Goals as goal

pub returns : goal.returns
returns c =
    record-parts c.args.desk.now c.args.domain.now c.clusters-clusters.result.now c.me-me.result c.table-table.result.now (option_copied c.find.result) c.writes_to.result
    c.clusters-clusters.ensures c.me-me.ensures c.table-table.ensures (c.writes_to.ensures c.args.desk.now.limit c.table-table.result.now) c.find.ensures.found
