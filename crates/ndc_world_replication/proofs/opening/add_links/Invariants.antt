use Rattle.std.proofs.Common.{◌≡◌, ◌++◌, drop}
use Rattle.ndc_world_replication.specs.Replications.{links_of}
use Rattle.ndc_world_replication.proofs.opening.add_links.Given as goal

abbrev pub invariant-loop-source : goal.invariant-loop-source
invariant-loop-source l =
    l.links.items ++ links_of l.header (drop l.source-index l.clusters) l.reader ≡ l.initial.links.items ++ links_of l.header l.clusters l.reader
