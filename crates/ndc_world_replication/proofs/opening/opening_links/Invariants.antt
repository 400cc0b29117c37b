use Rattle.std.proofs.Common.{◌≡◌, ◌++◌, drop}
use Rattle.std.specs.List.{flat_map}
use Rattle.ndc_world_replication.specs.Replications.{links_of}
use Rattle.ndc_world_replication.proofs.opening.opening_links.Given as goal

abbrev pub invariant-loop-reader : goal.invariant-loop-reader
invariant-loop-reader l =
    l.links.items ++ flat_map (links_of l.header l.clusters) (drop l.reader-index l.clusters) ≡ flat_map (links_of l.header l.clusters) l.clusters
