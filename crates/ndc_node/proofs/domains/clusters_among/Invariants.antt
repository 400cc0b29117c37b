use Rattle.std.proofs.Common.{◌<◌, All}
use Rattle.ndc_domain.specs.Clusters.{count_of}
use Rattle.ndc_node.proofs.domains.clusters_among.Given as goal

-- what is known so far are clusters
abbrev pub invariant-loop-number : goal.invariant-loop-number
invariant-loop-number l = All (λ one. one.number < count_of l.clusters) l.known.items
