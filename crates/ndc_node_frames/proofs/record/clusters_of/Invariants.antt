use Rattle.std.proofs.Common.{◌≡◌, map, take}
use Rattle.ndc_node_frames.specs.Parts.{cluster_of}
use Rattle.ndc_node_frames.proofs.record.clusters_of.Given as goal

abbrev pub invariant-loop-member : goal.invariant-loop-member
invariant-loop-member l = l.clusters.items ≡ map cluster_of (take l.member-index l.list)
